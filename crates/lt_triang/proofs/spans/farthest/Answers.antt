use Rattle.std.proofs.Common.{arith, ◌≡◌, map, ◌∙◌}
use Rattle.std.proofs.lemmas.List.{length-map}
use Rattle.lt_model.specs.Limits.{gap}
use Rattle.lt_triang.proofs.Gaps.{widest_more, widest_all, get_or-map_at}
use Rattle.lt_triang.proofs.spans.farthest.Goals as goal

pub loop-i-preserved : goal.loop-i-preserved
loop-i-preserved c =
    let x = c.args.x.now in
    let points = c.args.points.now in
    let here : c.gap_of.result ≡ gap x c.index-points-i.result = rw (c.coords.ensures.value, c.coords-in-loop-i.ensures.value) at c.gap_of.ensures in
    let there = get_or-map_at (gap x) points c.loop-i.i c.index-points-i.result c.loop-i-test.true c.index-points-i.is in
    let more = widest_more (map (gap x) points) c.loop-i.i c.loop-i.widest c.gap_of.result _ (omega (arith, c.loop-i-test.true, length-map points (gap x))) (here ∙ there) c.loop-i.invariant in
    rw c.max-widest.ensures more

pub returns : goal.returns
returns c =
    let points = c.args.points.now in
    widest_all (map (gap c.args.x.now) points) c.loop-i.i c.loop-i.widest _ (omega (arith, length-map points (gap c.args.x.now), c.loop-i-test.false)) c.loop-i.invariant
