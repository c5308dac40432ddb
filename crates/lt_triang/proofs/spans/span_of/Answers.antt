use Rattle.std.proofs.Common.{arith, ℕ, ℤ, List, map, ◌∙◌}
use Rattle.std.proofs.lemmas.List.{length-map}
use Rattle.lt_model.specs.Limits.{gap, greatest}
use Rattle.lt_triang.proofs.Gaps.{widest_more, widest_all, get_or-map_at}
use Rattle.lt_triang.proofs.spans.span_of.Goals as goal

unfoldable reach : List (List ℤ) → List ℤ → ℕ
reach points v = greatest (map (gap v) points)

pub loop-i-preserved : goal.loop-i-preserved
unfolding reach
loop-i-preserved c =
    let points = c.args.points.now in
    let there = get_or-map_at (reach points) points c.loop-i.i c.index-points-i.result c.loop-i-test.true c.index-points-i.is in
    let more = widest_more (map (reach points) points) c.loop-i.i c.loop-i.widest c.farthest.result _ (omega (arith, c.loop-i-test.true, length-map points (reach points))) (c.farthest.ensures ∙ there) c.loop-i.invariant in
    rw c.max-widest.ensures more

pub returns : goal.returns
unfolding reach
returns c =
    let points = c.args.points.now in
    widest_all (map (reach points) points) c.loop-i.i c.loop-i.widest _ (omega (arith, length-map points (reach points), c.loop-i-test.false)) c.loop-i.invariant
