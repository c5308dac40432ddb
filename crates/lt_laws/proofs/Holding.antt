-- Each rational point lies in a placed member: the walk to it.
use Rattle.std.proofs.Common.{◌≡◌, ℕ, ℤ, pos, ◌+ℤ◌, ◌-ℤ◌, ◌*ℤ◌, ◌<ℤ◌, ◌≤ℤ◌, refl, ap, arith, sym, ◌∙◌, subst, List, [], ◌∷◌, length, map}
use Rattle.std.proofs.lemmas.Int.{ints}
use Rattle.lt_model.proofs.Integers.{mul_zero_z}
use Rattle.lt_model.proofs.Vectors.{dot-scale, dot_comm}
use Rattle.lt_model.proofs.Squares.{length-scale}
use Rattle.lt_model.proofs.Excess.{dot-combine, same_from_dots}
use Rattle.lt_model.proofs.Walk.{IsWeighted, length-combine}
use Rattle.lt_model.proofs.Opposite.{length-zeros, zeros-dot}
use Rattle.lt_model.proofs.Moved.{simplex_moved}
use Rattle.lt_model.specs.Vectors.{scale, dot, combine, zeros}
use Rattle.lt_model.specs.Forms.{value}
use Rattle.lt_model.specs.Simplices.{IsSimplex, translate}
use Rattle.lt_model.specs.Triangulations.{IsDelaunay}
use Rattle.lt_geometry.specs.Paving.{IsPaving}
use Rattle.lt_geometry.proofs.Fewness.{paving_of}
use Rattle.lt_geometry.proofs.LocalWalk.{empty_moved, same_heights, fuel_for}
use Rattle.lt_geometry.proofs.Regulators.{one_member}
use Rattle.lt_geometry.proofs.Summed.{HasEach, HasSummed, summed}
use Rattle.lt_geometry.proofs.Unique.{expressed}
use Rattle.lt_geometry.proofs.WalkEnds.{HasCommon, common, over_translate}
use Rattle.lt_geometry.proofs.Walking.{IsAt, Holds, height, walk}

-- the height of x / m over a member is at most that of 0 and x with the weights m - 1 and 1
top_of : ℕ → List ℤ → ℤ → List ℤ → ℤ → ℤ
top_of d q m x c = c *ℤ dot ((m -ℤ pos 1) ∷ pos 1 ∷ []) (map (value q) (zeros d ∷ x ∷ []))

low_enough : (d : ℕ) (q : List ℤ) (t : List (List (List ℤ))) (m : ℤ) (x : List ℤ) → IsPaving d q t → pos 0 <ℤ m → length x ≡ d → (k : HasCommon d t) (s : List (List ℤ)) (p b : List ℤ) → IsAt d t m x k.c s p b → height q s p b ≤ℤ top_of d q m x k.c
unfolding top_of
low_enough d q t m x pav pm lx k s p b here =
    let simplex = (pav.classes s here.member).simplex in
    let vs : List (List ℤ) = translate p s in
    let moved : IsSimplex d vs = simplex_moved d s p here.dimension simplex in
    let each : HasEach d vs k.c = record {
      b = λ y l. (over_translate d t k s p (pos 1) y here.member simplex here.dimension l).0;
      is = λ y l. expressed vs y k.c (over_translate d t k s p (pos 1) y here.member simplex here.dimension l).0 (over_translate d t k s p (pos 1) y here.member simplex here.dimension l).1;
    } in
    let a : List ℤ = (m -ℤ pos 1) ∷ pos 1 ∷ [] in
    let us : List (List ℤ) = zeros d ∷ x ∷ [] in
    let h : HasSummed d q vs k.c a us = summed d q vs k.c each a us (empty_moved d q s p simplex here.dimension (pav.empty s here.member)).outside (length-zeros d, (lx, tt)) (omega (arith, ints, pm), (omega (arith, ints), tt)) refl in
    let w : IsWeighted vs m x k.c h.bs = record {
      positive = k.positive;
      one_each = h.is.one_each;
      point = same_from_dots (combine h.bs vs) (scale k.c x) (length-combine d h.bs vs moved.points h.is.one_each (omega (arith, moved.count)) ∙ sym lx ∙ sym (length-scale k.c x))
          (λ u. dot-combine u h.bs vs ∙ h.is.point u ∙ ap (λ n. k.c *ℤ n) (sums u) ∙ sym (dot-scale u k.c x));
      sum = h.is.sum ∙ ap (λ n. k.c *ℤ n) weights;
    } in
    let e : height q s p b ≡ dot h.bs (map (value q) vs) = same_heights d q vs m x b h.bs k.c moved here.weighted w in
    subst (λ (z : ℤ). z ≤ℤ (k.c *ℤ dot ((m -ℤ pos 1) ∷ pos 1 ∷ []) (map (value q) (zeros d ∷ x ∷ [])))) (sym e) h.is.low
  where
    weights : (m -ℤ pos 1) +ℤ (pos 1 +ℤ pos 0) ≡ m
    weights = omega (arith, ints)

    sums : (u : List ℤ) → (m -ℤ pos 1) *ℤ dot u (zeros d) +ℤ (pos 1 *ℤ dot u x +ℤ pos 0) ≡ dot u x
    sums u =
        let z : (m -ℤ pos 1) *ℤ dot u (zeros d) ≡ pos 0 = ap (λ n. (m -ℤ pos 1) *ℤ n) (dot_comm u (zeros d) ∙ zeros-dot d u) ∙ mul_zero_z (m -ℤ pos 1) in
        omega (arith, ints, z)

-- a placed member over which the numbers of x / m aren't negative
pub holding : (d : ℕ) (q : List ℤ) (t : List (List (List ℤ))) (m : ℤ) (x : List ℤ) → IsDelaunay d q t → pos 0 <ℤ m → length x ≡ d → (c : ℤ) × Holds d t m x c
holding d q t m x del pm lx =
    let pav = paving_of d q t del in
    let k : HasCommon d t = common d t (λ s c. (pav.classes s c).simplex) in
    let o = one_member t del.occupied in
    let start = over_translate d t k o.0 (zeros d) m x o.1 (pav.classes o.0 o.1).simplex (length-zeros d) lx in
    let here : IsAt d t m x k.c o.0 (zeros d) start.0 = record { member = o.1; dimension = length-zeros d; weighted = start.1 } in
    let fuel = fuel_for (top_of d q m x k.c) (height q o.0 (zeros d) start.0) in
    (k.c, walk d q t k m x (top_of d q m x k.c) pav lx (λ s p b h. low_enough d q t m x pav pm lx k s p b h) fuel.0 o.0 (zeros d) start.0 here fuel.1)
