use Rattle.std.proofs.Common.{◌≡◌, ◌<ℤ◌, ◌<◌, ℕ, ℤ, pos, subst, List, [], length, get_or}
use Rattle.lt_model.specs.Forms.{value}
use Rattle.lt_model.specs.Limits.{weight, weight_limit}
use Rattle.lt_triang.specs.Kept.{dimension_of}
use Rattle.lt_locate.specs.declared.facing.Sign.TheVariants.{Negative, Zero}
use Rattle.lt_locate.specs.Facing.{IsFirstMet, IsMetAt}
use Rattle.lt_locate.specs.Sides.{IsFirstPoint}
use Rattle.lt_locate.specs.Endings.{IsOpen}
use Rattle.lt_locate.proofs.Bad.{first_bad, edges_positive, edge_lengths}
use Rattle.lt_locate.proofs.Weighed.{heavy_there, light_there, all_lengths, same_lengths, positive_there, all_light, opened}
use Rattle.lt_locate.proofs.Facets.{IsMetFacet, first_met, none_met, none_negative, all_positive}
use Rattle.lt_locate.proofs.sides.side_of.Goals.{After-as_slice-3, After-as_slice-4}
use Rattle.lt_locate.proofs.sides.side_of.Goals as goal

pub first_not_positive-requires-clause-same : goal.first_not_positive-requires-clause-same
first_not_positive-requires-clause-same c =
    rw c.as_slice.ensures.value (edge_lengths (dimension_of c.args.t.now) c.args.t.now c.in_ok-points.points.items c.in_ok-points.ensures c.requires.delaunay.0 c.args.q.now c.requires.delaunay.1 c.requires.same)

pub returns-in-Some-clause-off : goal.returns-in-Some-clause-off
returns-in-Some-clause-off c =
    let q = c.args.q.now in
    let x = c.in-Some.x in
    first_bad (dimension_of c.args.t.now) c.args.t.now c.in_ok-points.points.items c.in_ok-points.ensures q x (subst (λ (ps : List (List ℤ)). IsFirstPoint q ps x) c.as_slice.ensures.value c.in-Some.ensures)

positive : (q : List ℤ) (now points : List (List ℤ)) → now ≡ points → ((k : ℕ) → k < length now → pos 0 <ℤ value q (get_or now k [])) → (k : ℕ) → k < length points → pos 0 <ℤ value q (get_or points k [])
positive q now points e h = subst (λ (ps : List (List ℤ)). (k : ℕ) → k < length ps → pos 0 <ℤ value q (get_or ps k [])) e h

pub returns-then-weight-clause-off : goal.returns-then-weight-clause-off
returns-then-weight-clause-off c =
    let d = dimension_of c.args.t.now in
    let t = c.args.t.now in
    let q = c.args.q.now in (
      edges_positive d t c.in_ok-points.points.items c.in_ok-points.ensures q (positive q c.as_slice.result.now c.in_ok-points.points.items c.as_slice.ensures.value c.in-None.ensures),
      heavy_there d c.requires.delaunay.0 t c.in_ok-normals.normals.items c.as_slice-2.result.now c.weight-weight.result c.requires.delaunay.1 c.in_ok-normals.ensures c.as_slice-2.ensures.value c.weight-weight.ensures c.if-weight.true,
    )

-- what is known once the weight was tested
low : (c : After-as_slice-3) → weight (dimension_of c.args.t.now) c.in_ok-normals.normals.items < weight_limit
low c = light_there (dimension_of c.args.t.now) c.requires.delaunay.0 c.args.t.now c.in_ok-normals.normals.items c.as_slice-2.result.now c.weight-weight.result c.requires.delaunay.1 c.in_ok-normals.ensures c.as_slice-2.ensures.value c.weight-weight.ensures c.if-weight.false

here : (c : After-as_slice-3) → IsOpen (dimension_of c.args.t.now) c.args.t.now c.args.q.now
here c =
    let d = dimension_of c.args.t.now in
    let t = c.args.t.now in
    let q = c.args.q.now in
    opened d c.requires.delaunay.0 q t c.in_ok-normals.normals.items c.as_slice-3.result.now c.requires.delaunay.1 c.in_ok-normals.ensures c.as_slice-3.ensures.value
    (edges_positive d t c.in_ok-points.points.items c.in_ok-points.ensures q (positive q c.as_slice.result.now c.in_ok-points.points.items c.as_slice.ensures.value c.in-None.ensures)) (low c)

pub first_facet-requires-clause-same : goal.first_facet-requires-clause-same
first_facet-requires-clause-same c = same_lengths (dimension_of c.args.t.now) c.requires.delaunay.0 c.args.q.now c.args.t.now c.in_ok-normals.normals.items c.as_slice-3.result.now c.requires.delaunay.1 c.in_ok-normals.ensures c.as_slice-3.ensures.value c.requires.same

pub first_facet-requires-clause-positive : goal.first_facet-requires-clause-positive
first_facet-requires-clause-positive c = positive_there (dimension_of c.args.t.now) c.requires.delaunay.0 c.args.q.now c.args.t.now c.in_ok-normals.normals.items c.as_slice-3.result.now c.requires.delaunay.1 c.in_ok-normals.ensures c.as_slice-3.ensures.value

pub first_facet-requires-clause-light : goal.first_facet-requires-clause-light
first_facet-requires-clause-light c = all_light (dimension_of c.args.t.now) c.requires.delaunay.0 c.args.q.now c.args.t.now c.in_ok-normals.normals.items c.as_slice-3.result.now c.requires.delaunay.1 c.in_ok-normals.ensures c.as_slice-3.ensures.value (low c)

-- the first facet of the list in the words of the triangulation
pub returns-in-Some-2-clause-side : goal.returns-in-Some-2-clause-side
returns-in-Some-2-clause-side c =
    let d = dimension_of c.args.t.now in
    let t = c.args.t.now in
    let q = c.args.q.now in
    let ns = c.in_ok-normals.normals.items in
    let now = c.as_slice-3.result.now in
    let all = all_lengths d c.requires.delaunay.0 q t ns now c.requires.delaunay.1 c.in_ok-normals.ensures c.as_slice-3.ensures.value in
    let m = rw c.in-Some-2.is at (c.in_ok-facet.ensures d all) in (
      here (goal.at.returns-in-Some-2-clause-side c).After-as_slice-3,
      first_met d t ns c.in_ok-normals.ensures q Negative c.in-Some-2.facet (subst (λ (ms : List (List ℤ)). IsFirstMet d ms q Negative c.in-Some-2.facet) c.as_slice-3.ensures.value m),
    )

pub first_facet-requires-2-clause-same : goal.first_facet-requires-2-clause-same
first_facet-requires-2-clause-same c = same_lengths (dimension_of c.args.t.now) c.requires.delaunay.0 c.args.q.now c.args.t.now c.in_ok-normals.normals.items c.as_slice-4.result.now c.requires.delaunay.1 c.in_ok-normals.ensures c.as_slice-4.ensures.value c.requires.same

pub first_facet-requires-2-clause-positive : goal.first_facet-requires-2-clause-positive
first_facet-requires-2-clause-positive c = positive_there (dimension_of c.args.t.now) c.requires.delaunay.0 c.args.q.now c.args.t.now c.in_ok-normals.normals.items c.as_slice-4.result.now c.requires.delaunay.1 c.in_ok-normals.ensures c.as_slice-4.ensures.value

pub first_facet-requires-2-clause-light : goal.first_facet-requires-2-clause-light
first_facet-requires-2-clause-light c = all_light (dimension_of c.args.t.now) c.requires.delaunay.0 c.args.q.now c.args.t.now c.in_ok-normals.normals.items c.as_slice-4.result.now c.requires.delaunay.1 c.in_ok-normals.ensures c.as_slice-4.ensures.value (low (goal.at.first_facet-requires-2-clause-light c).After-as_slice-3)

not_negative : (c : After-as_slice-4) → (n : List ℤ) → IsMetFacet (dimension_of c.args.t.now) c.args.t.now c.args.q.now Negative n → ⊥
not_negative c =
    let d = dimension_of c.args.t.now in
    let t = c.args.t.now in
    let q = c.args.q.now in
    let ns = c.in_ok-normals.normals.items in
    let now = c.as_slice-3.result.now in
    let all = all_lengths d c.requires.delaunay.0 q t ns now c.requires.delaunay.1 c.in_ok-normals.ensures c.as_slice-3.ensures.value in
    let m = rw c.in-None-2.is at (c.in_ok-facet.ensures d all) in
    none_met d t ns c.in_ok-normals.ensures q Negative (subst (λ (ms : List (List ℤ)). (k : ℕ) → k < length ms → IsMetAt d ms q Negative k → ⊥) c.as_slice-3.ensures.value m)

pub returns-in-Some-3-clause-off : goal.returns-in-Some-3-clause-off
returns-in-Some-3-clause-off c =
    let d = dimension_of c.args.t.now in
    let t = c.args.t.now in
    let q = c.args.q.now in
    let ns = c.in_ok-normals.normals.items in
    let now = c.as_slice-4.result.now in
    let all = all_lengths d c.requires.delaunay.0 q t ns now c.requires.delaunay.1 c.in_ok-normals.ensures c.as_slice-4.ensures.value in
    let m = rw c.in-Some-3.is at (c.in_ok-facet-2.ensures d all) in (
      here (goal.at.returns-in-Some-3-clause-off c).After-as_slice-3,
      none_negative d t q (not_negative (goal.at.returns-in-Some-3-clause-off c).After-as_slice-4),
      first_met d t ns c.in_ok-normals.ensures q Zero c.in-Some-3.facet (subst (λ (ms : List (List ℤ)). IsFirstMet d ms q Zero c.in-Some-3.facet) c.as_slice-4.ensures.value m),
    )

pub returns-clause-side : goal.returns-clause-side
returns-clause-side c =
    let d = dimension_of c.args.t.now in
    let t = c.args.t.now in
    let q = c.args.q.now in
    let ns = c.in_ok-normals.normals.items in
    let now = c.as_slice-4.result.now in
    let all = all_lengths d c.requires.delaunay.0 q t ns now c.requires.delaunay.1 c.in_ok-normals.ensures c.as_slice-4.ensures.value in
    let m = rw c.in-None-3.is at (c.in_ok-facet-2.ensures d all) in
    let zero = none_met d t ns c.in_ok-normals.ensures q Zero (subst (λ (ms : List (List ℤ)). (k : ℕ) → k < length ms → IsMetAt d ms q Zero k → ⊥) c.as_slice-4.ensures.value m) in
    (here (goal.at.returns-clause-side c).After-as_slice-3, all_positive d t q (not_negative (goal.at.returns-clause-side c).After-as_slice-4) zero)
