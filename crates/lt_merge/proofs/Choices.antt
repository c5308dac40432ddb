-- Where each of n numbers has one of m numbers, and no two have the same, n is at most m.
use Rattle.std.proofs.Common.{◌≡◌, ℕ, zero, suc, ◌<◌, ◌≤◌, ◌∙◌, refl, arith, sym, subst, inl, inr, List, [], ◌∷◌, ◌++◌, length, get_or, true, false, eqb, ne_eqb, length-append}
use Rattle.std.specs.List.{IsDistinct, list_any}
use Rattle.std.proofs.lemmas.Bool.{cases_lt, eqb-true}
use Rattle.std.proofs.lemmas.List.{get_or_at, get_or_append_left, get_or_default}
use Rattle.std.proofs.lemmas.List.Folds.{Any-from_list_any}
use Rattle.std.proofs.lemmas.Map.Keys.{IsDistinct-from_apart}
use Rattle.std.proofs.lemmas.Map.Steps.{length-le_from_distinct_below}

module _ (m : ℕ) (Has : ℕ → ℕ → Type 0) where
  -- a number for each
  record ArePicked (n : ℕ) (xs : List ℕ) : Type 0 where
    count : length xs ≡ n
    each : (i : ℕ) → i < n → (get_or xs i 0 < m) × Has i (get_or xs i 0)

  pick : (n : ℕ) → ((i : ℕ) → i < n → (k : ℕ) × (k < m) × Has i k) → (xs : List ℕ) × ArePicked n xs
  pick zero f = ([], record { count = refl; each = λ i l. absurd (omega (arith, l)) })
  pick (suc n) f =
      let before = pick n (λ i l. f i (omega (arith, l))) in
      let last = f n (omega arith) in
      let xs : List ℕ = before.0 in
      let long : length xs ≡ n = before.1.count in (
        xs ++ last.0 ∷ [],
        record {
          count = omega (arith, long, length-append xs (last.0 ∷ []));
          each = λ i l. elim (cases_lt i n) [
            | inl k ↦ subst (λ (x : ℕ). (x < m) × Has i x) (sym (get_or_append_left xs (last.0 ∷ []) 0 i (omega (arith, k, long)))) (before.1.each i k)
            | inr k ↦ (
                let e : n ≡ i = omega (arith, l, k) in
                subst (λ (x : ℕ). (x < m) × Has i x) (sym (get_or_at xs last.0 [] 0 i (long ∙ e))) (subst (λ (j : ℕ). (last.0 < m) × Has j last.0) e (last.1, last.2))
                )
          ];
        },
      )

  pub few_choices : (n : ℕ) → ((i : ℕ) → i < n → (k : ℕ) × (k < m) × Has i k) → ((i j k : ℕ) → i < n → j < n → Has i k → Has j k → i ≡ j) → n ≤ m
  few_choices n f once = subst (λ (k : ℕ). k ≤ m) p.count (length-le_from_distinct_below xs m distinct below)
    where
      xs : List ℕ
      xs = (pick n f).0

      p : ArePicked n xs
      p = (pick n f).1

      apart : (i j d : ℕ) → i < j → j < length xs → eqb (get_or xs i d) (get_or xs j d) ≡ false
      apart i j d l k =
          let n1 : j < n = omega (arith, k, p.count) in
          let n0 : i < n = omega (arith, l, n1) in
          ne_eqb (get_or xs i d) (get_or xs j d) (λ e.
          let same : get_or xs i 0 ≡ get_or xs j 0 = get_or_default xs i 0 d (omega (arith, l, k)) ∙ e ∙ get_or_default xs j d 0 k in
          let one : i ≡ j = once i j (get_or xs j 0) n0 n1 (subst (λ (x : ℕ). Has i x) same (p.each i n0).1) (p.each j n1).1 in
          absurd (omega (arith, l, one)))

      distinct : IsDistinct eqb xs
      distinct = IsDistinct-from_apart eqb xs apart

      below : (q : ℕ) → list_any (eqb q) xs ≡ true → q < m
      below q h =
          let a = Any-from_list_any (eqb q) xs h in
          let is : q ≡ get_or xs a.0 0 = eqb-true q a.1 a.4 ∙ sym (get_or_default xs a.0 0 a.1 a.2 ∙ a.3) in
          subst (λ (x : ℕ). x < m) (sym is) (p.each a.0 (omega (arith, a.2, p.count))).0
