use Rattle.std.proofs.Common.{arith, ◌≡◌, ◌<◌, ◌≤◌, ◌*◌, ◌^◌, get_or, [], ap, ◌∙◌, length}
use Rattle.lt_model.specs.Limits.{span_limit}
use Rattle.lt_model.specs.Facets.{without}
use Rattle.lt_model.specs.Simplices.{IsClass}
use Rattle.lt_triang.specs.Bounds.{AreNear}
use Rattle.lt_triang.proofs.Gaps.{twice_limit}
use Rattle.lt_triang.proofs.Steps.{near_more}
use Rattle.lt_triang.proofs.Shifts.{count_without, length_without, facet_near, facet_dimension}
use Rattle.lt_triang.proofs.classes.Class.facet.Goals as goal

pub moved_back-requires : goal.moved_back-requires
moved_back-requires c =
    let d = c.self.invariant.0 in
    let low : 2 ≤ d = c.self.invariant.1 in
    let high : d ≤ 6 = c.self.invariant.2 in
    let s = c.args.self.now in
    let k : IsClass d s = rw c.self.view_is at c.self.invariant.3 in
    let near : AreNear (2 * span_limit d) s = rw c.self.view_is at c.self.invariant.4 in
    let count = k.simplex.count in
    let some : 0 < length (without c.args.i s) = count_without d c.args.i s low count (omega (arith, count, c.requires)) in
    let e : c.as_slice-3.result.now ≡ without c.args.i s = c.as_slice-3.ensures.value ∙ c.others-rest.ensures ∙ ap (without c.args.i) (c.as_slice.ensures.value ∙ c.self.view_is) in
    let f : c.first_of-least.result ≡ get_or (without c.args.i s) 0 [] = cc in
    let few : length (without c.args.i s) ≤ 6 = omega (arith, length_without c.args.i s c.requires, count, high) in
    let close = near_more (2 * span_limit d) (2 ^ 20) s (omega (arith, twice_limit d)) near in
    let dimension = facet_dimension d c.args.i s c.first_of-least.result k.simplex.points some f in
    (omega arith, (rw e few, (rw e dimension, rw (e, f) (facet_near (2 ^ 20) c.args.i s close some))))
