use Rattle.std.proofs.Common.{◌≡◌, ◌∙◌, sym, ap, ◌≤◌, [], length, get_or, ℤ}
use Rattle.lt_lp.proofs.Readies.{system_ready}
use Rattle.lt_tableau.proofs.Turned.{get_or_any}
use Rattle.lt_lp.proofs.rule.stopped.Goals as goal

pub run-requires : goal.run-requires
run-requires c =
    let e = c.in-Ok.ensures in
    let n = length (get_or c.args.normals.now 0 []) in
    let x : c.index-normals-k.result ≡ get_or c.args.normals.now c.args.k [] = c.index-normals-k.is ∙ get_or_any c.args.normals.now c.args.k c.index-normals-k.result [] c.requires.place in
    let f = c.numbers.ensures.few in
    let s = c.requires.same c.args.k [] c.requires.place in
    let y : length c.index-normals-k.result ≡ n = ap (length {A = ℤ}) x ∙ s in
    let b : n ≤ 21 = rw (sym y) f in
    system_ready c.in-Ok.tableau c.args.normals.now c.args.k n c.rows.ensures.tableau c.requires.place b (λ j h. c.requires.same j [] h) e.system e.rows e.numbers
