use Rattle.std.proofs.Common.{rules, arith, ◌≡◌, ◌∙◌, ◌++◌, sym, length, drop, ℤ, List, append_assoc, pos}
use Rattle.std.proofs.lemmas.Int.{to_z-of_z}
use Rattle.std.proofs.lemmas.List.{drop_more, drop_all, append-nil}
use mir.Val.{SFits}
use mir.Syntax.{w64}
use Rattle.lt_model.specs.Vectors.{scale, unit}
use Rattle.lt_model.proofs.Squares.{length-scale}
use Rattle.lt_model.proofs.Opposite.{length-unit}
use Rattle.lt_match.proofs.bases.multiple.Goals as goal

pub loop-i-preserved : goal.loop-i-preserved
loop-i-preserved c =
    let d = c.args.d in
    let fm : SFits w64 c.args.m = c.ranges.m in
    let fr : SFits w64 c.multiple_at.result = search rules in
    let r : List ℤ = scale c.args.m (unit d c.args.j) in
    let long : length r ≡ d = length-scale c.args.m (unit d c.args.j) ∙ length-unit d c.args.j in
    let e = drop_more r c.loop-i.i (pos 0) (omega (arith, long, c.loop-i-test.true)) in
    let h : c.loop-i.all.items ++ drop c.loop-i.i r ≡ r = rw (to_z-of_z w64 c.args.m fm) at c.loop-i.invariant in
    rw (c.push.ensures.items, to_z-of_z w64 c.multiple_at.result fr, c.multiple_at.ensures d c.loop-i-test.true, to_z-of_z w64 c.args.m fm) (rw append_assoc (rw e at h))

pub returns : goal.returns
returns c =
    let d = c.args.d in
    let fm : SFits w64 c.args.m = c.ranges.m in
    let r : List ℤ = scale c.args.m (unit d c.args.j) in
    let long : length r ≡ d = length-scale c.args.m (unit d c.args.j) ∙ length-unit d c.args.j in
    let e = drop_all c.loop-i.i r (omega (arith, long, c.loop-i-test.false)) in
    let h : c.loop-i.all.items ++ drop c.loop-i.i r ≡ r = rw (to_z-of_z w64 c.args.m fm) at c.loop-i.invariant in
    sym (append-nil c.loop-i.all.items) ∙ (rw e at h)
