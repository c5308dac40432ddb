use Rattle.std.proofs.Common.{arith, rules, ◌≡◌, ◌<◌, ◌∙◌, sym, List, length, get_or, []}
use Rattle.std.proofs.lemmas.List.{get_or_read}
use Rattle.lt_triang.specs.Carried.{ArePlacesIn}
use Rattle.lt_triang.specs.Walled.{IsRow}
use Rattle.lt_triang.specs.declared.walls.Wall.{Wall}
use Rattle.lt_triang.proofs.Rowed.{rows_pushed}
use Rattle.lt_triang.proofs.carrying.rows_from.Goals as goal
use Rattle.lt_triang.proofs.carrying.rows_from.Goals.{in-Some+in_ok-row-in-Some, in-None+in_ok-row-in-None}

pub offset_bounds-known-origin : goal.offset_bounds-known-origin
offset_bounds-known-origin c =
    let e = c.index.result.now in
    let p = c.in_ok-origins.ensures.each c.loop-n.n e c.loop-n-test.true c.in-Some.origin (sym c.index.ensures ∙ c.in-Some.is) in
    let l : c.in-Some.origin < length c.args.known.now = omega (arith, p.0, c.requires.known.count) in
    search rules

pub bounds-known-origin : goal.bounds-known-origin
bounds-known-origin c =
    let e = c.index.result.now in
    let p = c.in_ok-origins.ensures.each c.loop-n.n e c.loop-n-test.true c.in-Some.origin (sym c.index.ensures ∙ c.in-Some.is) in
    omega (arith, p.0, c.requires.known.count)

pub row_from-requires-clause-known : goal.row_from-requires-clause-known
row_from-requires-clause-known c =
    let old = c.args.old.now in
    let t = c.args.classes.now in
    let e = c.index.result.now in
    let o = c.in-Some.origin in
    let p = c.in_ok-origins.ensures.each c.loop-n.n e c.loop-n-test.true o (sym c.index.ensures ∙ c.in-Some.is) in
    let row : List Wall = c.index-known-origin.result in
    let mine : row ≡ get_or c.args.known.now o [] = get_or_read c.args.known.now o row (omega (arith, p.0, c.requires.known.count)) c.index-known-origin.is [] in
    let r : IsRow c.args.d old (get_or old o []) (get_or c.args.known.now o []) = c.requires.known.each o p.0 in
    let places : ArePlacesIn old t c.deref-in-Some-2.result.now = rw c.deref-in-Some-2.ensures.value c.in_ok-places.ensures in
    (old, places, rw (← p.1, mine) r)

pub loop-n-preserved : goal.loop-n-preserved
loop-n-preserved c =
    let t = c.args.classes.now in
    let s = get_or t c.loop-n.n [] in
    let row : IsRow c.args.d t s c.match-index.row = elim c.match-index.branch [
      | in-Some+in_ok-row-in-Some w ↦ rw w.row-is w.in_ok-row-in-Some.ensures
      | in-None+in_ok-row-in-None w ↦ rw w.row-is w.in_ok-row-in-None.ensures
    ] in
    rw c.in_ok-push.ensures.items (rows_pushed c.args.d t c.loop-n.n c.loop-n.rows.items c.match-index.row c.loop-n.invariant row)
