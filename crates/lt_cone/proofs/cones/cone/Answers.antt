use Rattle.std.proofs.Common.{◌≡◌, subst, arith, ◌≤◌, ◌^◌, ℕ, ℤ, pos, List}
use Rattle.std.proofs.lemmas.Int.{ints, to_z-of_z}
use Rattle.std.proofs.Math.Nat.{min-le_left}
use mir.Val.{SFits, to_z, of_z}
use mir.Syntax.{w128}
use Rattle.lt_model.specs.Cones.{IsRightCone}
use Rattle.lt_model.specs.Limits.{weight}
use Rattle.lt_triang.specs.Kept.{dimension_of}
use Rattle.lt_geometry.proofs.Fewness.{few_regulators}
use Rattle.lt_lp.specs.declared.verdicts.LpError.{LpError}
use Rattle.lt_lp.specs.declared.verdicts.LpError.TheVariants.{Heavy}
use Rattle.lt_lp.specs.Rows.{IsConeOf}
use Rattle.lt_lp.specs.Verdicts.{IsHeavyLp}
use Rattle.lt_lp.proofs.ConesOf.{right_cone}
use Rattle.lt_regulator.proofs.Distinct.{some_regulator, regulator_lengths, positive_at, regulator_rays}
use Rattle.lt_cone.proofs.RightCones.{IsTold, dimension_is, told}
use Rattle.lt_cone.proofs.cones.cone.Goals.{After-as_slice}
use Rattle.lt_cone.proofs.cones.cone.Goals as goal

it : (c : After-as_slice) → IsTold c.dimension-d.result c.requires.0 c.args.t.now c.in-Ok.normals.items
it c = told (dimension_of c.args.t.now) c.dimension-d.result c.requires.0 c.args.t.now c.in-Ok.normals.items c.requires.1 c.dimension-d.ensures c.in-Ok.ensures

pub cone_of-requires-clause-some : goal.cone_of-requires-clause-some
cone_of-requires-clause-some c = rw (c.as_slice.ensures.value) (some_regulator _ _ _ _ (it c).delaunay (it c).regulators)

pub cone_of-requires-clause-few : goal.cone_of-requires-clause-few
cone_of-requires-clause-few c = rw (c.as_slice.ensures.value) (few_regulators _ _ _ _ c.dimension-d.ensures.low c.dimension-d.ensures.high (it c).delaunay (it c).regulators)

pub cone_of-requires-clause-lengths : goal.cone_of-requires-clause-lengths
cone_of-requires-clause-lengths c = rw (c.as_slice.ensures.value) (regulator_lengths _ _ _ _ (it c).delaunay (it c).regulators)

pub cone_of-requires-clause-positive : goal.cone_of-requires-clause-positive
cone_of-requires-clause-positive c = (c.requires.0, rw (c.as_slice.ensures.value) (positive_at _ _ _ _ (it c).delaunay (it c).regulators))

pub cone_of-requires-clause-rays : goal.cone_of-requires-clause-rays
cone_of-requires-clause-rays c = rw (c.as_slice.ensures.value) (regulator_rays _ _ _ _ (it c).delaunay (it c).regulators)

pub returns-in-Ok-cone_of-clause-right : goal.returns-in-Ok-cone_of-clause-right
returns-in-Ok-cone_of-clause-right c =
    let d = dimension_of c.args.t.now in
    let e = c.dimension-d.result in
    let ns = c.in-Ok.normals.items in
    let made : IsConeOf e ns c.in-Ok-cone_of.cone = subst (λ (ms : List (List ℤ)). IsConeOf e ms c.in-Ok-cone_of.cone) c.as_slice.ensures.value c.in-Ok-cone_of.ensures.right in
    subst (λ (m : ℕ). IsRightCone m c.args.t.now c.in-Ok-cone_of.cone) (dimension_is d e c.requires.0 c.args.t.now c.requires.1 c.dimension-d.ensures)
    (right_cone e c.args.t.now ns c.in-Ok-cone_of.cone (it (goal.at.returns-in-Ok-cone_of-clause-right c).After-as_slice).regulators made)

fits : (w : ℕ) → w ≤ 2 ^ 120 → SFits w128 (pos w)
fits w h = omega (arith, ints, h)

-- the weight that the error carries
named : (x : ℤ) (w : ℕ) → w ≤ 2 ^ 120 → x ≡ pos w → to_z w128 (of_z w128 x) ≡ pos w
named x w s e = rw e (to_z-of_z w128 (pos w) (fits w s))

pub returns-in-Err-Heavy-clause-heavy : goal.returns-in-Err-Heavy-clause-heavy
returns-in-Err-Heavy-clause-heavy c =
    let d = dimension_of c.args.t.now in
    let e = c.dimension-d.result in
    let ns = c.in-Ok.normals.items in
    let x = c.in-Err-Heavy.weight in
    let heavy : IsHeavyLp (weight e c.as_slice.result.now) (Heavy x) = subst (λ (y : LpError). IsHeavyLp (weight e c.as_slice.result.now) y) c.in-Err-Heavy.field-0-is c.in-Err-Heavy.ensures.heavy in
    let here : IsHeavyLp (weight d ns) (Heavy x) = subst (λ (m : ℕ). IsHeavyLp (weight m ns) (Heavy x)) (dimension_is d e c.requires.0 c.args.t.now c.requires.1 c.dimension-d.ensures) (subst (λ (ms : List (List ℤ)). IsHeavyLp (weight e ms) (Heavy x)) c.as_slice.ensures.value heavy) in
    (ns, c.in-Ok.ensures, named x (weight d ns) (min-le_left (2 ^ 120) _) here.0, here.1)
