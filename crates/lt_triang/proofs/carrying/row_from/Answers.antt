use Rattle.std.proofs.Common.{arith, get_or, []}
use Rattle.std.proofs.lemmas.List.{length_push}
use Rattle.lt_triang.specs.Walled.{IsWall}
use Rattle.lt_triang.proofs.Rowed.{row_pushed}
use Rattle.lt_triang.proofs.carrying.row_from.Goals as goal

pub loop-i-preserved : goal.loop-i-preserved
loop-i-preserved c =
    let t = c.args.classes.now in
    let s = get_or t c.args.n [] in
    let w = c.in_ok-wall.wall in
    rw c.in_ok-push.ensures.items (record {
      count = omega (arith, length_push c.loop-i.facets.items w, c.loop-i.invariant.count);
      each = row_pushed (IsWall c.args.d t s) c.loop-i.facets.items c.loop-i.i w c.loop-i.invariant.count c.loop-i.invariant.each c.in_ok-wall.ensures;
    })
