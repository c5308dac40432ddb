use Rattle.std.proofs.Common.{rules, arith, ◌≡◌, ◌++◌, ◌∷◌, [], pos, negsuc, ◌-◌, ◌+◌, refl}
use Rattle.lt_model.specs.Principal.{principal_rows}
use Rattle.lt_principal.proofs.Rows.{twos, row_pushed, two_pushed, rows_begin, twos_begin, room}
use Rattle.lt_principal.proofs.form.principal_numbers.Goals as goal

pub push-requires : goal.push-requires
push-requires c =
    let d = c.args.d in
    let i = c.loop-i.i in
    let e : c.loop-i.all.items ++ (pos d ∷ (twos (d - (i + 1)) ++ principal_rows d (d - (i + 1)))) ≡ principal_rows d d = rw (rows_begin d i (omega arith)) at c.loop-i.invariant in
    (omega arith, room d c.loop-i.all.items _ _ _ c.requires.low c.requires.high refl e)

pub loop-j-init : goal.loop-j-init
loop-j-init c =
    let h : c.push.new.self.items ≡ c.loop-i.all.items ++ pos c.args.d ∷ [] = search rules in
    rw h (row_pushed c.args.d c.loop-i.i c.loop-i.all.items _ (omega arith) c.loop-i.invariant)

pub push-requires-in-loop-j : goal.push-requires-in-loop-j
push-requires-in-loop-j c =
    let d = c.args.d in
    let j = c.loop-j._j in
    let e : c.loop-j.all.items ++ (negsuc 1 ∷ (twos (d - (j + 1)) ++ principal_rows d (d - (c.loop-i.i + 1)))) ≡ principal_rows d d = rw (twos_begin d j (omega arith)) at c.loop-j.invariant in
    (omega arith, room d c.loop-j.all.items _ _ _ c.requires.low c.requires.high refl e)

pub loop-j-preserved : goal.loop-j-preserved
loop-j-preserved c =
    let h : c.push-in-loop-j.new.self.items ≡ c.loop-j.all.items ++ negsuc 1 ∷ [] = search rules in
    rw h (two_pushed c.args.d c.loop-j._j c.loop-j.all.items _ _ (omega arith) c.loop-j.invariant)
