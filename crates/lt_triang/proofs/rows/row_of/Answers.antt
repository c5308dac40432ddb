use Rattle.std.proofs.Common.{arith, ◌≡◌, sym, get_or, []}
use Rattle.std.proofs.lemmas.List.{length_push}
use Rattle.lt_triang.specs.Walled.{IsWall, shift_to}
use Rattle.lt_triang.specs.declared.walls.Wall.{Wall}
use Rattle.lt_triang.proofs.Rowed.{some_wall, row_pushed}
use Rattle.lt_triang.proofs.rows.row_of.Goals as goal

pub returns-in-Ok-None-clause-open : goal.returns-in-Ok-None-clause-open
returns-in-Ok-None-clause-open c = λ class facet e.
    let en : c.args.n ≡ class = cc in
    let ef : c.loop-i.i ≡ facet = cc in (
      sym en,
      rw (← ef) (record {
        place = omega (arith, c.loop-i-test.true);
        none = rw c.in-Ok-None.field-0-is at c.in-Ok-None.ensures;
        before = λ k l.
            let w : Wall = get_or c.loop-i.facets.items k some_wall in
            let t = c.args.classes.now in
            (w.class, shift_to (get_or t c.args.n []) k (get_or t w.class []) w.vertex, w.vertex, (c.loop-i.invariant.each k some_wall l).first);
      }),
    )

pub loop-i-preserved : goal.loop-i-preserved
loop-i-preserved c =
    let t = c.args.classes.now in
    let s = get_or t c.args.n [] in
    let w = c.in-Ok-Some.wall in
    rw c.in-Ok-push.ensures.items (record {
      count = omega (arith, length_push c.loop-i.facets.items w, c.loop-i.invariant.count);
      each = row_pushed (IsWall c.args.d t s) c.loop-i.facets.items c.loop-i.i w c.loop-i.invariant.count c.loop-i.invariant.each (rw c.in-Ok-Some.field-0-is at c.in-Ok-Some.ensures);
    })
