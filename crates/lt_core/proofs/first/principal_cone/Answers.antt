use Rattle.std.proofs.Common.{sym, subst, arith, ◌≤◌, ℕ, ℤ, List}
use Rattle.lt_model.specs.Principal.{principal_numbers}
use Rattle.lt_model.specs.Limits.{weight, weight_limit}
use Rattle.lt_model.specs.Walls.{AreRegulators}
use Rattle.lt_triang.proofs.SomeForm.{delaunay_dimension, some_form}
use Rattle.lt_geometry.proofs.Fewness.{few_regulators}
use Rattle.lt_lp.specs.declared.verdicts.LpError.{LpError}
use Rattle.lt_lp.specs.declared.verdicts.LpError.TheVariants.{Heavy}
use Rattle.lt_lp.specs.Rows.{IsConeOf}
use Rattle.lt_lp.specs.Verdicts.{IsHeavyLp}
use Rattle.lt_lp.proofs.ConesOf.{right_cone}
use Rattle.lt_regulator.proofs.Distinct.{some_regulator, regulator_lengths, positive_at, regulator_rays}
use Rattle.lt_core.proofs.Light.{principal_is_light}
use Rattle.lt_core.proofs.first.principal_cone.Goals.{After-as_slice}
use Rattle.lt_core.proofs.first.principal_cone.Goals as goal

pub regulators-requires : goal.regulators-requires
regulators-requires c = some_form c.args.d (principal_numbers c.args.d) c.args.t.now c.requires.delaunay

all : (c : After-as_slice) → AreRegulators c.args.d c.args.t.now c.in_ok-normals.normals.items
all c = subst (λ (e : ℕ). AreRegulators e c.args.t.now c.in_ok-normals.normals.items) (sym (delaunay_dimension c.args.d (principal_numbers c.args.d) c.args.t.now c.requires.delaunay)) c.in_ok-normals.ensures

pub cone_of-requires-clause-some : goal.cone_of-requires-clause-some
cone_of-requires-clause-some c = rw (c.as_slice.ensures.value) (some_regulator _ _ _ _ c.requires.delaunay (all c))

pub cone_of-requires-clause-few : goal.cone_of-requires-clause-few
cone_of-requires-clause-few c = rw (c.as_slice.ensures.value) (few_regulators _ _ _ _ c.requires.low (let h = c.requires.high in omega (arith, h)) c.requires.delaunay (all c))

pub cone_of-requires-clause-lengths : goal.cone_of-requires-clause-lengths
cone_of-requires-clause-lengths c = rw (c.as_slice.ensures.value) (regulator_lengths _ _ _ _ c.requires.delaunay (all c))

pub cone_of-requires-clause-positive : goal.cone_of-requires-clause-positive
cone_of-requires-clause-positive c = (principal_numbers c.args.d, rw (c.as_slice.ensures.value) (positive_at _ _ _ _ c.requires.delaunay (all c)))

pub cone_of-requires-clause-rays : goal.cone_of-requires-clause-rays
cone_of-requires-clause-rays c = rw (c.as_slice.ensures.value) (regulator_rays _ _ _ _ c.requires.delaunay (all c))

pub returns-in-Ok : goal.returns-in-Ok
returns-in-Ok c =
    let ns = c.in_ok-normals.normals.items in
    let made : IsConeOf c.args.d ns c.in-Ok.cone = subst (λ (ms : List (List ℤ)). IsConeOf c.args.d ms c.in-Ok.cone) c.as_slice.ensures.value c.in-Ok.ensures.right in
    right_cone c.args.d c.args.t.now ns c.in-Ok.cone (all (goal.at.returns-in-Ok c).After-as_slice) made

pub unreachable-requires : goal.unreachable-requires
unreachable-requires c =
    let d = c.args.d in
    let ns = c.in_ok-normals.normals.items in
    let heavy : IsHeavyLp (weight d c.as_slice.result.now) (Heavy c.in-Err-Heavy.field-0-0) = subst (λ (e : LpError). IsHeavyLp (weight d c.as_slice.result.now) e) c.in-Err-Heavy.field-0-is c.in-Err-Heavy.ensures.heavy in
    let above : weight_limit ≤ weight d ns = subst (λ (ms : List (List ℤ)). weight_limit ≤ weight d ms) c.as_slice.ensures.value heavy.1 in
    let below = principal_is_light d c.args.t.now ns c.requires.low c.requires.high c.requires.principal (all (goal.at.unreachable-requires c).After-as_slice) in
    omega (arith, above, below)
