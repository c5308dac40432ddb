-- How the numbers of a matrix are gathered, row by row.
use Rattle.std.proofs.Common.{◌≡◌, ◌<◌, ◌≤◌, ◌+◌, ◌-◌, ◌*◌, ◌^◌, ℕ, suc, ℤ, pos, ◌*ℤ◌, ap, arith, sym, ◌∙◌, subst, List, [], ◌∷◌, ◌++◌, length, map, get_or, drop, nat_abs, inl, inr, Bool, true, false, cond, mul-le-mul}
use Rattle.std.specs.Prelude.{◌≤ℤ◌, nat_le, Option, Some, None, MatchOption}
use Rattle.std.specs.List.{All}
use Rattle.std.proofs.lemmas.Int.{ints, unsigned_abs-mul}
use Rattle.std.proofs.lemmas.Bool.{cases_lt}
use Rattle.std.proofs.lemmas.List.{length-append, get_or_append_left, get_or-append_right}
use Rattle.std.proofs.lemmas.List.Elements.{All-nil, All-cons, All-append, All-take, All-drop}
use Rattle.lt_model.specs.Limits.{span_limit}
use Rattle.lt_model.specs.Vectors.{dot}
use Rattle.lt_model.specs.Facets.{number_at}
use Rattle.lt_model.specs.Flat.{rows}
use Rattle.lt_model.proofs.Flat.{get-first_rows, number_at-first_rows}
use Rattle.lt_lattice.specs.Ranges.{IsBelow}
use Rattle.lt_solve.specs.Systems.{column_limit, answer_limit}
use Rattle.lt_match.specs.Bases.{IsEntry}

-- ---- a number is small

-- the limit isn't 0
by_limit : (d : ℕ) (P : ℕ → Type 0) → P 400 → P 100 → P (span_limit d)
by_limit d P a b = at (nat_le d 5)
  where
    at : (t : Bool) → P (cond t 400 100)
    at true = a
    at false = b

pub quotient_small : (d : ℕ) (x scale sum : ℤ) → d ≤ 6 → scale *ℤ x ≡ sum → pos (column_limit d) ≤ℤ scale → nat_abs sum ≤ d * (answer_limit * span_limit d) → nat_abs x < 2 ^ 62
quotient_small d x scale sum few e great small =
    let whole : nat_abs scale * nat_abs x ≡ nat_abs sum = sym (unsigned_abs-mul scale x) ∙ ap nat_abs e in
    let least : column_limit d * nat_abs x ≤ nat_abs scale * nat_abs x = mul-le-mul (magnitude (column_limit d) scale great) (same (nat_abs x)) in
    let most : d * (answer_limit * span_limit d) ≤ 6 * (answer_limit * span_limit d) = mul-le-mul few (same (answer_limit * span_limit d)) in
    let both : column_limit d * nat_abs x ≤ 6 * (answer_limit * span_limit d) = omega (arith, whole, least, most, small) in
    by_limit d (λ l. (2 * l) * nat_abs x ≤ 6 * (answer_limit * l) → nat_abs x < 2 ^ 62) (λ h. omega (arith, h)) (λ h. omega (arith, h)) both
  where
    same : (n : ℕ) → n ≤ n
    same n = omega arith

    magnitude : (m : ℕ) (z : ℤ) → pos m ≤ℤ z → m ≤ nat_abs z
    magnitude m z h = omega (arith, ints, h)

-- ---- the numbers so far

-- n numbers, each of which is that of its row and its column
pub record AreEntries (d : ℕ) (scales terms : List ℤ) (targets : List (List ℤ)) (n : ℕ) (numbers : List ℤ) : Type 0 where
  pub count : length numbers ≡ n
  pub below : All (IsBelow (2 ^ 62)) numbers
  pub each : (k j : ℕ) → j < d → k * d + j < n → IsEntry d scales terms targets k j (get_or numbers (k * d + j) (pos 0))

-- a row and a column are known by their place
one_place : (d k j k' j' : ℕ) → j < d → j' < d → k * d + j ≡ k' * d + j' → (k ≡ k') × (j ≡ j')
one_place d k j k' j' h h' e =
    elim (cases_lt k k') [
      | inl l ↦ let m : suc k * d ≤ k' * d = mul-le-mul l (same d) in absurd (omega (arith, m, h, e))
      | inr g ↦ elim (cases_lt k' k) [
        | inl l ↦ let m : suc k' * d ≤ k * d = mul-le-mul l (same d) in absurd (omega (arith, m, h', e))
        | inr g' ↦ let s : k ≡ k' = omega (arith, g, g') in (s, omega (arith, e, ap (λ n. n * d) s))
      ]
    ]
  where
    same : (n : ℕ) → n ≤ n
    same n = omega arith

pub entries_more : (d : ℕ) (scales terms : List ℤ) (targets : List (List ℤ)) (k j : ℕ) (numbers : List ℤ) (x : ℤ) → AreEntries d scales terms targets (k * d + j) numbers → j < d → IsEntry d scales terms targets k j x → IsBelow (2 ^ 62) x →
    AreEntries d scales terms targets (k * d + (j + 1)) (numbers ++ x ∷ [])
entries_more d scales terms targets k j numbers x h hj is below = record {
  count = omega (arith, length-append numbers (x ∷ []), h.count);
  below = All-append (IsBelow (2 ^ 62)) numbers (x ∷ []) h.below (All-cons (IsBelow (2 ^ 62)) x [] below (All-nil (IsBelow (2 ^ 62))));
  each = λ k' j' hj' hp. elim (cases_lt (k' * d + j') (k * d + j)) [
    | inl l ↦ subst (IsEntry d scales terms targets k' j') (sym (get_or_append_left numbers (x ∷ []) (pos 0) (k' * d + j') (omega (arith, h.count, l)))) (h.each k' j' hj' l)
    | inr g ↦
        let e : k' * d + j' ≡ k * d + j = omega (arith, g, hp) in
        let same = one_place d k' j' k j hj' hj e in
        let none : (k' * d + j') - (k * d + j) ≡ 0 = omega (arith, e) in
        let here : get_or (numbers ++ x ∷ []) (k' * d + j') (pos 0) ≡ x = get_or-append_right numbers (x ∷ []) (k * d + j) (k' * d + j') (pos 0) h.count g ∙ ap (λ n. get_or (x ∷ []) n (pos 0)) none in
        subst (IsEntry d scales terms targets k' j') (sym here) (rw (same.0, same.1) is)
  ];
}

-- the number of the matrix at each place
pub entries_at : (d : ℕ) (scales terms : List ℤ) (targets : List (List ℤ)) (numbers : List ℤ) → AreEntries d scales terms targets (d * d) numbers → (k j : ℕ) → k < d → j < d → IsEntry d scales terms targets k j (number_at j (get_or (rows d numbers) k []))
entries_at d scales terms targets numbers h k j hk hj =
    let le : suc k * d ≤ d * d = mul-le-mul hk (same d) in
    subst (IsEntry d scales terms targets k j) (sym (number_at-first_rows d d k j numbers hk hj)) (h.each k j hj (omega (arith, le, hj)))
  where
    same : (n : ℕ) → n ≤ n
    same n = omega arith

pub row_below : (m d j : ℕ) (terms : List ℤ) → j < d → All (IsBelow m) terms → All (IsBelow m) (get_or (rows d terms) j [])
row_below m d j terms hj all = rw (get-first_rows d d j terms hj) (All-take {X = ℤ} (IsBelow m) d (drop (j * d) terms) (All-drop {X = ℤ} (IsBelow m) (j * d) terms all))

-- an answer on a quotient is one on an entry
pub entry_found : (d : ℕ) (scales terms : List ℤ) (targets : List (List ℤ)) (k j : ℕ) (scale sum : ℤ) (r : Option ℤ) → d ≤ 6 → scale ≡ get_or scales j (pos 0) → pos (column_limit d) ≤ℤ scale → sum ≡ dot (get_or (rows d terms) j []) (map (number_at k) (drop 1 targets)) →
    nat_abs sum ≤ d * (answer_limit * span_limit d) → MatchOption r ((x : ℤ) → scale *ℤ x ≡ sum → ⊥) (λ x. scale *ℤ x ≡ sum) → MatchOption r ((x : ℤ) → IsEntry d scales terms targets k j x → ⊥) (λ x. IsEntry d scales terms targets k j x × IsBelow (2 ^ 62) x)
entry_found d scales terms targets k j scale sum None few es great is small h = λ x e. h x (ap (λ z. z *ℤ x) es ∙ e ∙ sym is)
entry_found d scales terms targets k j scale sum (Some x) few es great is small h = (ap (λ z. z *ℤ x) (sym es) ∙ h ∙ is, quotient_small d x scale sum few h great small)
