-- How a basis is gathered, row by row, and that it exists.
use Rattle.std.proofs.Common.{◌≡◌, ◌<◌, ◌≤◌, ◌+◌, ◌-◌, ◌*◌, ◌^◌, ℕ, zero, suc, ℤ, pos, negsuc, ◌*ℤ◌, refl, ap, arith, sym, ◌∙◌, subst, List, [], ◌∷◌, ◌++◌, length, get_or, drop, take, nat_abs, inl, inr, mul-le-mul}
use Rattle.std.specs.Prelude.{◌≤ℤ◌, ◌<ℤ◌}
use Rattle.std.specs.List.{All}
use Rattle.std.proofs.lemmas.Int.{ints}
use Rattle.std.proofs.lemmas.Bool.{cases_lt}
use Rattle.std.proofs.lemmas.List.{length-append, take-append-le, take_all, drop-append-le, drop_at, length-drop, get_or_append_left, get_or-append_right}
use Rattle.std.proofs.lemmas.List.Elements.{All-nil, All-cons, All-append}
use Rattle.lt_model.specs.Vectors.{scale, unit, zeros, combine, AreLinearlyIndependent}
use Rattle.lt_model.specs.Simplices.{AllOfDimension, IsSimplex, translate}
use Rattle.lt_model.proofs.Differences.{differences_from_independent}
use Rattle.lt_model.proofs.Flat.{get-first_rows}
use Rattle.lt_model.proofs.Squares.{length-scale}
use Rattle.lt_model.proofs.Opposite.{length-unit}
use Rattle.lt_lattice.specs.Ranges.{IsWithin, IsBelow}
use Rattle.lt_lattice.proofs.Dots.{product_within}
use Rattle.lt_solve.specs.Systems.{column_limit, answer_limit, IsColumnDependency}
use Rattle.lt_triang.specs.Flat.{leading}
use Rattle.lt_triang.proofs.Gaps.{minus-zeros, twice_limit}
use Rattle.lt_triang.proofs.Signs.{leading_primitive}
use Rattle.lt_match.specs.Bases.{IsBasis}

-- ---- the vertices after the first are independent where it is 0

kept : (d : ℕ) (vs : List (List ℤ)) → AllOfDimension d vs → translate (scale (negsuc 0) (zeros d)) vs ≡ vs
kept d [] all = refl
kept d (v ∷ vs) all = rw (minus-zeros d v all.0, kept d vs all.1) refl

pub rest_independent : (d : ℕ) (points : List (List ℤ)) → 2 ≤ d → IsSimplex d points → get_or points 0 [] ≡ zeros d → AreLinearlyIndependent (drop 1 points)
rest_independent d [] low h first = absurd (omega (arith, h.count))
rest_independent d (v ∷ vs) low h first =
    let count : length vs ≡ d = omega (arith, h.count) in
    let free : AreLinearlyIndependent (translate (scale (negsuc 0) v) vs) = differences_from_independent d v vs (omega (arith, count, low)) count h.points (λ b lb sb nb. h.independent b lb sb nb) in
    subst AreLinearlyIndependent (ap (λ (p : List ℤ). translate (scale (negsuc 0) p) vs) first ∙ kept d vs h.points.1) free

pub none_leads : (n : ℕ) → leading (zeros n) ≡ pos 0
none_leads zero = refl
none_leads (suc n) = none_leads n

pub independent_columns : (vs : List (List ℤ)) (terms : List ℤ) → AreLinearlyIndependent vs → IsColumnDependency vs terms → ⊥
independent_columns vs terms free h = leading_primitive terms h.primitive (ap leading (free terms h.one_each h.sum) ∙ none_leads (length vs))

-- ---- gathering the rows

-- the rows before row n
pub record IsBasisUpTo (d : ℕ) (points : List (List ℤ)) (n : ℕ) (scales terms : List ℤ) : Type 0 where
  pub count : length scales ≡ n
  pub terms_count : length terms ≡ n * d
  pub below : All (IsBelow answer_limit) terms
  pub small : All (IsBelow (2 ^ 80)) scales
  pub great : (j : ℕ) → j < n → pos (column_limit d) ≤ℤ get_or scales j (pos 0)
  pub each : (j : ℕ) → j < n → combine (take d (drop (j * d) terms)) (drop 1 points) ≡ scale (get_or scales j (pos 0)) (unit d j)

pub basis_more : (d : ℕ) (points : List (List ℤ)) (n : ℕ) (scales terms : List ℤ) (x : ℤ) (row : List ℤ) → IsBasisUpTo d points n scales terms → length row ≡ d → All (IsBelow answer_limit) row → pos (column_limit d) ≤ℤ x → nat_abs x < 2 ^ 80 →
    combine row (drop 1 points) ≡ scale x (unit d n) → IsBasisUpTo d points (n + 1) (scales ++ x ∷ []) (terms ++ row)
basis_more d points n scales terms x row h lr below great small sum = record {
  count = omega (arith, length-append scales (x ∷ []), h.count);
  terms_count = omega (arith, length-append terms row, h.terms_count, lr);
  below = All-append (IsBelow answer_limit) terms row h.below below;
  small = All-append (IsBelow (2 ^ 80)) scales (x ∷ []) h.small (All-cons (IsBelow (2 ^ 80)) x [] small (All-nil (IsBelow (2 ^ 80))));
  great = λ j hj. elim (cases_lt j n) [
    | inl l ↦ subst (λ (z : ℤ). pos (column_limit d) ≤ℤ z) (sym (before j l)) (h.great j l)
    | inr l ↦ subst (λ (z : ℤ). pos (column_limit d) ≤ℤ z) (sym (here j l hj)) great
  ];
  each = λ j hj. elim (cases_lt j n) [
    | inl l ↦ (rw (row_before j l, before j l) (h.each j l))
    | inr l ↦ let e : j ≡ n = omega arith in (rw (row_here j e, here j l hj, e) sum)
  ];
}
  where
    before : (j : ℕ) → j < n → get_or (scales ++ x ∷ []) j (pos 0) ≡ get_or scales j (pos 0)
    before j l = get_or_append_left scales (x ∷ []) (pos 0) j (omega (arith, h.count, l))

    here : (j : ℕ) → n ≤ j → j < n + 1 → get_or (scales ++ x ∷ []) j (pos 0) ≡ x
    here j l k =
        let none : j - n ≡ 0 = omega arith in
        get_or-append_right scales (x ∷ []) n j (pos 0) h.count l ∙ (rw none refl)

    row_before : (j : ℕ) → j < n → take d (drop (j * d) (terms ++ row)) ≡ take d (drop (j * d) terms)
    row_before j l =
        let le : (k : ℕ) → k ≤ k = λ k. omega arith in
        let m : suc j * d ≤ n * d = mul-le-mul l (le d) in
        ap (take d) (drop-append-le (j * d) terms row (omega (arith, m, h.terms_count))) ∙ take-append-le d (drop (j * d) terms) row (omega (arith, m, h.terms_count, length-drop (j * d) terms))

    row_here : (j : ℕ) → j ≡ n → take d (drop (j * d) (terms ++ row)) ≡ row
    row_here j e = ap (take d) (drop_at terms row (j * d) (h.terms_count ∙ ap (λ k. k * d) (sym e))) ∙ take_all d row (omega (arith, lr))

pub basis_done : (d : ℕ) (points : List (List ℤ)) (n : ℕ) (scales terms : List ℤ) → n ≡ d → IsBasisUpTo d points n scales terms → IsBasis d points scales terms
basis_done d points n scales terms e h = record {
  count = h.count ∙ e;
  terms_count = h.terms_count ∙ ap (λ k. k * d) e;
  below = h.below;
  small = h.small;
  great = λ j hj. h.great j (omega (arith, e, hj));
  each = λ j hj. ap (λ (r : List ℤ). combine r (drop 1 points)) (get-first_rows d d j terms hj) ∙ h.each j (omega (arith, e, hj));
}

-- ---- one row

pub small_column : (d : ℕ) → column_limit d ≤ 2 ^ 20
small_column d = omega (arith, twice_limit d)

pub scaled_great : (den : ℤ) (m : ℕ) → pos 0 <ℤ den → pos m ≤ℤ (den *ℤ pos m)
scaled_great (pos zero) m h = absurd (omega (arith, ints))
scaled_great (pos (suc n)) m h = let k : suc n * m ≡ m + n * m = omega arith in let e : pos (suc n) *ℤ pos m ≡ pos (suc n * m) = omega (arith, ints) in omega (arith, ints, e, k)
scaled_great (negsuc n) m h = absurd (omega (arith, ints))

pub scaled_small : (den : ℤ) (m : ℕ) → nat_abs den < answer_limit → m ≤ 2 ^ 20 → nat_abs (den *ℤ pos m) < 2 ^ 80
scaled_small den m h k =
    let w : nat_abs (den *ℤ pos m) ≤ 2 ^ 56 * 2 ^ 20 = product_within den (pos m) (2 ^ 56) (2 ^ 20) (omega (arith, h)) (omega (arith, ints, k)) in
    omega (arith, w)

zeros_small : (m n : ℕ) (c : ℤ) → All (IsWithin m) (scale c (zeros n))
zeros_small m zero c = All-nil (IsWithin m)
zeros_small m (suc n) c = All-cons (IsWithin m) (c *ℤ pos 0) (scale c (zeros n)) (omega (arith, ints)) (zeros_small m n c)

pub multiple_small : (m d j : ℕ) → All (IsWithin m) (scale (pos m) (unit d j))
multiple_small m zero j = All-nil (IsWithin m)
multiple_small m (suc d) zero = All-cons (IsWithin m) (pos m *ℤ pos 1) (scale (pos m) (zeros d)) (omega (arith, ints)) (zeros_small m d (pos m))
multiple_small m (suc d) (suc j) = All-cons (IsWithin m) (pos m *ℤ pos 0) (scale (pos m) (unit d j)) (omega (arith, ints)) (multiple_small m d j)

pub length-multiple : (m : ℤ) (d j : ℕ) → length (scale m (unit d j)) ≡ d
length-multiple m d j = length-scale m (unit d j) ∙ length-unit d j
