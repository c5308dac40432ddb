-- Sums of products with coordinates of points.
use Rattle.std.proofs.Common.{◌≡◌, ◌<◌, ◌≤◌, ◌+◌, ◌*◌, ◌^◌, ℕ, suc, ℤ, pos, ◌*ℤ◌, arith, ◌∙◌, ap, List, [], length, map, get_or, drop, nat_abs, mul-le-mul}
use Rattle.std.specs.List.{All}
use Rattle.std.proofs.lemmas.List.{get_or-drop, length-drop, length-map}
use Rattle.lt_model.specs.Facets.{number_at}
use Rattle.lt_model.specs.Limits.{span_limit}
use Rattle.lt_model.specs.Simplices.{AllOfDimension}
use Rattle.lt_model.proofs.Walk.{number_at-map}
use Rattle.lt_model.proofs.Points.{get_dimension}
use Rattle.lt_lattice.specs.Ranges.{IsBelow}
use Rattle.lt_lattice.proofs.Dots.{product_within}
use Rattle.lt_solve.specs.Systems.{answer_limit}
use Rattle.lt_triang.specs.Bounds.{AreWithin}
use Rattle.lt_triang.proofs.Gaps.{twice_limit}
use Rattle.lt_triang.proofs.Shifts.{get_within}

-- coordinate k of a point after the first
pub coordinate_at : (targets : List (List ℤ)) (k i : ℕ) → i + 1 < length targets → get_or (map (number_at k) (drop 1 targets)) i (pos 0) ≡ number_at k (get_or targets (i + 1) [])
coordinate_at targets k i h =
    let swap : 1 + i ≡ i + 1 = omega arith in
    number_at-map (number_at k) i (drop 1 targets) [] (omega (arith, length-drop 1 targets, h)) ∙ ap (number_at k) (get_or-drop 1 targets i [] ∙ ap (λ n. get_or targets n []) swap)

pub count_coordinates : (targets : List (List ℤ)) (k d : ℕ) → length targets ≡ suc d → length (map (number_at k) (drop 1 targets)) ≡ d
count_coordinates targets k d h = length-map (drop 1 targets) (number_at k) ∙ omega (arith, length-drop 1 targets, h)

-- how great a term of the sum is
pub term_within : (d : ℕ) (terms : List ℤ) (targets : List (List ℤ)) (k i : ℕ) → All (IsBelow answer_limit) terms → AreWithin (span_limit d) targets → AllOfDimension d targets → k < d → i < length terms → i + 1 < length targets →
    nat_abs (get_or terms i (pos 0) *ℤ number_at k (get_or targets (i + 1) [])) ≤ answer_limit * span_limit d
term_within d terms targets k i below near dimension hk hi ht =
    let x : nat_abs (get_or terms i (pos 0)) ≤ answer_limit = omega (arith, below i (pos 0) hi) in
    let y : nat_abs (number_at k (get_or targets (i + 1) [])) ≤ span_limit d =
    get_within (span_limit d) (i + 1) targets [] near ht k (pos 0) (omega (arith, get_dimension d (i + 1) targets [] dimension ht, hk))
    in
    product_within (get_or terms i (pos 0)) (number_at k (get_or targets (i + 1) [])) answer_limit (span_limit d) x y

-- the sums stay far below 2^127
pub sums_fit : (d i s p : ℕ) → d ≤ 6 → i < d → s ≤ i * (answer_limit * span_limit d) → p ≤ answer_limit * span_limit d → s + p < 2 ^ 80
sums_fit d i s p few hi hs hp =
    let limit : span_limit d ≤ 2 ^ 19 = omega (arith, twice_limit d) in
    let w : answer_limit * span_limit d ≤ 2 ^ 56 * 2 ^ 19 = mul-le-mul (same (2 ^ 56)) limit in
    let before : i ≤ 6 = omega (arith, few, hi) in
    let all : i * (answer_limit * span_limit d) ≤ 6 * (2 ^ 56 * 2 ^ 19) = mul-le-mul before w in
    omega (arith, all, w, hs, hp)
  where
    same : (n : ℕ) → n ≤ n
    same n = omega arith
