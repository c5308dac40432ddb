use Rattle.std.proofs.Common.{rules, arith, ◌≡◌, ◌∙◌, sym, ap, ◌≤◌, ◌<◌, ◌^◌, ◌*◌, ◌+◌, ◌-ℤ◌, ◌++◌, ◌∷◌, [], ℕ, ℤ, pos, neg_ℤ, length, nat_abs, slice_index_or, FitsSigned, subst}
use Rattle.std.specs.Int.{w64, w128}
use Rattle.std.proofs.lemmas.Int.{ints, to_z-of_z, fits_signed_from_abs}
use Rattle.lt_model.specs.Cones.{AreBelow}
use Rattle.lt_tableau.specs.Table.{units_of}
use Rattle.lt_tableau.proofs.Sums.{lookup_is}
use Rattle.lt_lp.specs.Rule.{gain_of}
use Rattle.lt_lp.proofs.Turned.{length-listed, listed_more, listed_below}
use Rattle.lt_lp.proofs.walls.turned.Goals as goal

pub overflow_sub-sums : goal.overflow_sub-sums
overflow_sub-sums c =
    let y : FitsSigned w64 (slice_index_or c.unit_sums-sums.result c.loop-r.r (pos 0)) = search rules in
    let s = rw (lookup_is c.unit_sums-sums.result c.loop-r.r) at (c.unit_sums-sums.ensures.small c.loop-r.r) in
    let x : FitsSigned w128 (slice_index_or c.unit_sums-sums.result c.loop-r.r (pos 0)) = fits_signed_from_abs w128 (slice_index_or c.unit_sums-sums.result c.loop-r.r (pos 0)) (omega (arith, ints, s)) in
    simp to_z-of_z (fits_signed_from_abs w128 (pos 0 -ℤ slice_index_or c.unit_sums-sums.result c.loop-r.r (pos 0)) (omega (arith, ints, s)))

pub push-requires : goal.push-requires
push-requires c =
    let l : length c.loop-r.numbers.items ≡ c.loop-r.r = ap (length {A = ℤ}) c.loop-r.invariant ∙ length-listed c.loop-r.r (λ (q : ℕ). neg_ℤ (gain_of c.args.t.now (units_of c.args.t.now + q))) in
    let f = c.rows-r-end.ensures.tableau.few_rows in
    omega arith

pub loop-r-preserved : goal.loop-r-preserved
loop-r-preserved c =
    let t = c.args.t.now in
    let r = c.loop-r.r in
    let z = λ (q : ℕ). neg_ℤ (gain_of t (units_of t + q)) in
    let u = slice_index_or c.unit_sums-sums.result r (pos 0) in
    let y : FitsSigned w64 u = search rules in
    let s = rw (lookup_is c.unit_sums-sums.result r) at (c.unit_sums-sums.ensures.small r) in
    let x : FitsSigned w128 u = fits_signed_from_abs w128 u (omega (arith, ints, s)) in
    let fn : FitsSigned w128 (pos 0 -ℤ u) = fits_signed_from_abs w128 (pos 0 -ℤ u) (omega (arith, ints, s)) in
    let g : u ≡ gain_of t (units_of t + r) = sym (lookup_is c.unit_sums-sums.result r) ∙ c.unit_sums-sums.ensures.values r (omega arith) in
    let n : pos 0 -ℤ u ≡ neg_ℤ u = omega (arith, ints) in
    let m : c.push.new.self.items ≡ c.loop-r.numbers.items ++ (pos 0 -ℤ u) ∷ [] = simp to_z-of_z at c.push.ensures.items in
    m ∙ rw (n, g, c.loop-r.invariant) (sym (listed_more r z))

pub returns-clause-below : goal.returns-clause-below
returns-clause-below c =
    let t = c.args.t.now in
    let y = λ (q : ℕ). neg_ℤ (gain_of t (units_of t + q)) in
    subst (AreBelow (2 ^ 62)) (sym c.loop-r.invariant) (listed_below c.loop-r.r (2 ^ 62) y (λ q l. small (gain_of t (units_of t + q)) (rw (c.unit_sums-sums.ensures.values q (omega arith)) at (c.unit_sums-sums.ensures.small q))))
  where
    small : (x : ℤ) → nat_abs x ≤ 22 * 2 ^ 56 → nat_abs (neg_ℤ x) < 2 ^ 62
    small x h = omega (arith, ints)
