use Rattle.std.proofs.Common.{◌≡◌, ◌-◌, ◌<◌, ◌^◌, ◌∙◌, ◌∷◌, arith, rules, ap, sym, ℤ, List, length, drop, nat_abs}
use mir.Syntax.{w128}
use mir.Val.{SFits, to_z, of_z}
use Rattle.std.proofs.lemmas.Int.{to_z-of_z}
use Rattle.std.specs.List.{All}
use Rattle.std.proofs.lemmas.List.Elements.{All-head, All-tail}
use Rattle.lt_model.proofs.Walk.{length-map}
use Rattle.lt_model.specs.Forms.{value}
use Rattle.lt_lattice.specs.Ranges.{IsBelow}
use Rattle.lt_solve.specs.Systems.{Solution}
use Rattle.lt_cover.proofs.Centres.{length-gram, solved}
use Rattle.lt_cover.proofs.Systems.{length-columns, values_within}
use Rattle.lt_cover.proofs.Sums.{wide}
use Rattle.lt_cover.proofs.radii.radius_of.Goals as goal

pub combination-solution-requires-clause-values : goal.combination-solution-requires-clause-values
combination-solution-requires-clause-values c = c.as_slice.ensures.value ∙ c.values-values.ensures

pub weighted-requires-clause-same : goal.weighted-requires-clause-same
weighted-requires-clause-same c =
    let q = c.args.q.now in
    let vs = drop 1 c.args.class.now in
    rw (c.as_slice-3.ensures.value ∙ c.values-values.ensures, c.as_slice-2.ensures.value, ap (λ (x : Solution). x.nums) c.solution.view_is) (c.combination-solution.ensures.one_each ∙ length-gram q vs vs ∙ sym (length-map (value q) vs))

pub weighted-requires-clause-few : goal.weighted-requires-clause-few
weighted-requires-clause-few c =
    let s = c.args.class.now in
    let e = c.combination-solution.ensures.one_each ∙ length-columns (length s - 1) c.args.q.now s c.requires in
    rw (c.as_slice-2.ensures.value, ap (λ (x : Solution). x.nums) c.solution.view_is) (omega (arith, e, c.requires.high))

pub weighted-requires-clause-below : goal.weighted-requires-clause-below
weighted-requires-clause-below c =
    rw (c.as_slice-2.ensures.value, ap (λ (x : Solution). x.nums) c.solution.view_is) (All-tail (IsBelow (2 ^ 56)) c.combination-solution.result.den c.combination-solution.result.nums c.combination-solution.ensures.below)

pub weighted-requires-clause-within : goal.weighted-requires-clause-within
weighted-requires-clause-within c = rw (c.as_slice-3.ensures.value ∙ c.values-values.ensures) (values_within (length c.args.class.now - 1) c.args.q.now c.args.class.now c.requires)

-- the denominator is below 2^56, so it keeps its value
small_den : (den : ℤ) (nums : List ℤ) → All (IsBelow (2 ^ 56)) (den ∷ nums) → nat_abs den < 2 ^ 56
small_den den nums h = All-head (IsBelow (2 ^ 56)) den nums h

kept_den : (den : ℤ) (nums : List ℤ) → All (IsBelow (2 ^ 56)) (den ∷ nums) → to_z w128 (of_z w128 den) ≡ den
kept_den den nums h = let l = small_den den nums h in wide den (omega (arith, l))

pub half-requires-clause-small : goal.half-requires-clause-small
half-requires-clause-small c =
    let b = c.combination-solution.ensures.below in
    rw (ap (λ (x : Solution). x.den) c.solution.view_is, kept_den c.combination-solution.result.den c.combination-solution.result.nums b) (small_den c.combination-solution.result.den c.combination-solution.result.nums b)

pub returns-clause-radius : goal.returns-clause-radius
returns-clause-radius c =
    let q = c.args.q.now in
    let s = c.args.class.now in
    let den = c.combination-solution.result.den in
    let nums = c.combination-solution.result.nums in
    let first = c.as_slice.ensures.value ∙ c.values-values.ensures in
    let again = c.as_slice-3.ensures.value ∙ c.values-values.ensures in
    let sum = rw (c.as_slice-2.ensures.value, ap (λ (x : Solution). x.nums) c.solution.view_is, again) at c.weighted.ensures in
    let fits : SFits w128 c.weighted.result = search rules in
    let quotient = rw (to_z-of_z w128 c.weighted.result fits, ap (λ (x : Solution). x.den) c.solution.view_is, kept_den den nums c.combination-solution.ensures.below, sum) at c.half.ensures in
    solved (length s - 1) q s c.requires den nums c.half.result (rw first at c.combination-solution.ensures) quotient
