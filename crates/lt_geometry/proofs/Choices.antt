-- Lists without repetition, sublists of a length, and binomial numbers.
use Rattle.std.proofs.Common.{◌≡◌, ℕ, zero, suc, ◌<◌, ◌≤◌, ◌+◌, refl, ap, arith, sym, ◌∙◌, subst, List, [], ◌∷◌, ◌++◌, length, length-append, map, get_or, ◌⊎◌, inl, inr}
use Rattle.std.specs.List.{Contains, AllByRecursion}
use Rattle.std.specs.List.Sorted.{IsStrictlySortedBy}
use Rattle.std.specs.declared.cmp.Ordering.{Ordering}
use Rattle.std.specs.declared.cmp.Ordering.TheVariants.{Less}
use Rattle.std.specs.Cmp.{IsTotalOrder}
use Rattle.std.proofs.lemmas.List as lists
use Rattle.std.proofs.lemmas.List.Elements.{Contains-append_left, Contains-append_right}
use Rattle.lt_model.proofs.Sets.{Contains-head, Contains-tail, Contains-cases, Contains-none, each_holds, never_below_itself, Contains-map}
use Rattle.lt_model.proofs.Walk.{length-without}
use Rattle.lt_model.specs.Facets.{without}
use Rattle.lt_geometry.specs.Few.{binomial}
use Rattle.lt_geometry.proofs.Rearranged.{IsDistinct}
use Rattle.lt_geometry.proofs.Sorting.{above_all}

abbrev pub Stands : {X : Type 0} → List X → ℕ → X → Type 0
Stands [] i x = ⊥
Stands (y ∷ xs) zero x = y ≡ x
Stands (y ∷ xs) (suc i) x = Stands xs i x

module _ {X : Type 0} where
  place_of : (xs : List X) (x : X) → Contains xs x → (i : ℕ) × Stands xs i x
  place_of [] x h = Contains-none x h
  place_of (y ∷ xs) x h = elim (Contains-cases y xs x h) [ inl e ↦ (0, e) | inr r ↦ (suc (place_of xs x r).0, (place_of xs x r).1) ]

  place_within : (xs : List X) (i : ℕ) (x : X) → Stands xs i x → i < length xs
  place_within [] i x h = absurd h
  place_within (y ∷ xs) zero x h = omega arith
  place_within (y ∷ xs) (suc i) x h = let r : i < length xs = place_within xs i x h in omega arith

  one_of : (xs : List X) (i : ℕ) (x z : X) → Stands xs i x → Contains xs z → (x ≡ z) ⊎ Contains (without i xs) z
  one_of [] i x z h c = absurd h
  one_of (y ∷ xs) zero x z h c = elim (Contains-cases y xs z c) [ inl e ↦ inl (sym h ∙ e) | inr r ↦ inr r ]
  one_of (y ∷ xs) (suc i) x z h c =
      elim (Contains-cases y xs z c) [
        | inl e ↦ inr (subst (λ (w : X). Contains (y ∷ without i xs) w) e (Contains-head y (without i xs)))
        | inr r ↦ elim (one_of xs i x z h r) [ inl e ↦ inl e | inr s ↦ inr (Contains-tail y (without i xs) z s) ]
      ]

-- where each member of xs has its own in ys, xs is no longer
pub fit : {X Y : Type 0} (R : X → Y → Type 0) (xs : List X) (ys : List Y) → IsDistinct xs → ((x : X) → Contains xs x → (y : Y) × Contains ys y × R x y) → ((x x' : X) (y : Y) → Contains xs x → Contains xs x' → R x y → R x' y → x ≡ x') → length xs ≤ length ys
fit R [] ys a has one = omega arith
fit {X} {Y} R (x ∷ xs) ys a has one =
    let h = has x (Contains-head x xs) in
    let p = place_of ys h.0 h.1 in
    let n = length-without p.0 ys (place_within ys p.0 h.0 p.1) in
    let k = fit R xs (without p.0 ys) a.1 (λ z c. rest z c (has z (Contains-tail x xs z c)) h.0 h.2 p.0 p.1) (λ z z' y c c' r r'. one z z' y (Contains-tail x xs z c) (Contains-tail x xs z' c') r r') in
    omega (arith, n, k)
  where
    rest : (z : X) → Contains xs z → (g : (y : Y) × Contains ys y × R z y) → (y : Y) → R x y → (i : ℕ) → Stands ys i y → (v : Y) × Contains (without i ys) v × R z v
    rest z c g y r i s =
        elim (one_of ys i y g.0 s g.1) [
          | inl e ↦ absurd (a.0 (subst (λ (w : X). Contains xs w) (one z x y (Contains-tail x xs z c) (Contains-head x xs) (subst (λ (v : Y). R z v) (sym e) g.2) r) c))
          | inr m ↦ (g.0, m, g.2)
        ]

module _ {X : Type 0} (R : X → X → Ordering) (o : IsTotalOrder R) where
  -- those above y of which none is y are in the rest
  pub drop_head : (y : X) (xs ys : List X) → AllByRecursion (λ z. R y z ≡ Less) xs → ((z : X) → Contains xs z → Contains (y ∷ ys) z) → (z : X) → Contains xs z → Contains ys z
  drop_head y xs ys above h z c =
      elim (Contains-cases y ys z (h z c)) [
        | inl e ↦ absurd (never_below_itself R o y (subst (λ (w : X). R y w ≡ Less) (sym e) (each_holds (λ w. R y w ≡ Less) xs z above c)))
        | inr r ↦ r
      ]

-- ---- the sublists of a length

abbrev pub sublists : {X : Type 0} → List X → ℕ → List (List X)
sublists [] zero = [] ∷ []
sublists [] (suc k) = []
sublists (x ∷ xs) zero = [] ∷ []
sublists (x ∷ xs) (suc k) = map (λ l. x ∷ l) (sublists xs k) ++ sublists xs (suc k)

pub length-sublists : {X : Type 0} (xs : List X) (k : ℕ) → length (sublists xs k) ≡ binomial (length xs) k
length-sublists [] zero = refl
length-sublists [] (suc k) = refl
length-sublists (x ∷ xs) zero = refl
length-sublists {X} (x ∷ xs) (suc k) =
    let e1 = length-append (map (λ (l : List X). x ∷ l) (sublists xs k)) (sublists xs (suc k)) in
    let e2 = lists.length-map (sublists xs k) (λ (l : List X). x ∷ l) in
    omega (arith, e1, e2, length-sublists xs k, length-sublists xs (suc k))

module _ {X : Type 0} (R : X → X → Ordering) (o : IsTotalOrder R) where
  -- an ascending list within an ascending list is one of its sublists
  pub is_sublist : (ys xs : List X) → IsStrictlySortedBy R xs → IsStrictlySortedBy R ys → ((z : X) → Contains xs z → Contains ys z) → Contains (sublists ys (length xs)) xs
  unfolding IsStrictlySortedBy
  is_sublist [] [] sx sy h = Contains-head [] []
  is_sublist [] (x ∷ xs) sx sy h = Contains-none x (h x (Contains-head x xs))
  is_sublist (y ∷ ys) [] sx sy h = Contains-head [] []
  is_sublist (y ∷ ys) (x ∷ xs) sx sy h =
      elim (Contains-cases y ys x (h x (Contains-head x xs))) [
        | inl e ↦
            let above : AllByRecursion (λ z. R y z ≡ Less) xs = subst (λ (w : X). AllByRecursion (λ z. R w z ≡ Less) xs) (sym e) sx.0 in
            let k = is_sublist ys xs sx.1 sy.1 (drop_head R o y xs ys above (λ z c. h z (Contains-tail x xs z c))) in
            let m : Contains (map (λ (l : List X). y ∷ l) (sublists ys (length xs))) (y ∷ xs) = Contains-map (λ (l : List X). y ∷ l) (sublists ys (length xs)) xs k in
            let n : Contains (map (λ (l : List X). y ∷ l) (sublists ys (length xs))) (x ∷ xs) = subst (λ (w : X). Contains (map (λ (l : List X). y ∷ l) (sublists ys (length xs))) (w ∷ xs)) e m in
            Contains-append_left (map (λ (l : List X). y ∷ l) (sublists ys (length xs))) (sublists ys (suc (length xs))) (x ∷ xs) n
        | inr r ↦
            let first : R y x ≡ Less = each_holds (λ w. R y w ≡ Less) ys x sy.0 r in
            let k = is_sublist ys (x ∷ xs) sx sy.1 (drop_head R o y (x ∷ xs) ys (first, above_all R o y x xs first sx.0) h) in
            Contains-append_right (map (λ (l : List X). y ∷ l) (sublists ys (length xs))) (sublists ys (suc (length xs))) (x ∷ xs) k
      ]

-- ---- binomial numbers

binomial_more : (n k : ℕ) → binomial n k ≤ binomial (suc n) k
binomial_more zero zero = omega arith
binomial_more (suc n) zero = omega arith
binomial_more n (suc k) = omega arith

pub binomial_monotone : (n m k : ℕ) → n ≤ m → binomial n k ≤ binomial m k
binomial_monotone n m k h = let r = gap n m h in subst (λ (x : ℕ). binomial n k ≤ binomial x k) (sym r.1) (up n r.0 k)
  where
    gap : (n m : ℕ) → n ≤ m → (r : ℕ) × (m ≡ r + n)
    gap zero m h = (m, omega arith)
    gap (suc n) zero h = absurd (omega arith)
    gap (suc n) (suc m) h = let s = gap n m (omega arith) in (s.0, omega (arith, s.1))

    up : (n r k : ℕ) → binomial n k ≤ binomial (r + n) k
    up n zero k = let e : zero + n ≡ n = omega arith in rw e (omega arith)
    up n (suc r) k =
        let e : suc r + n ≡ suc (r + n) = omega arith in
        let f = binomial_more (r + n) k in
        let g = up n r k in
        rw e (omega (arith, f, g))

-- the first seven of a row of Pascal's triangle
abbrev sums : List ℕ → List ℕ
sums [] = []
sums (a ∷ []) = []
sums (a ∷ b ∷ l) = (a + b) ∷ sums (b ∷ l)

abbrev pub pascal : ℕ → List ℕ
pascal zero = 1 ∷ 0 ∷ 0 ∷ 0 ∷ 0 ∷ 0 ∷ 0 ∷ []
pascal (suc n) = 1 ∷ sums (pascal n)

abbrev row : ℕ → List ℕ
row n = binomial n 0 ∷ binomial n 1 ∷ binomial n 2 ∷ binomial n 3 ∷ binomial n 4 ∷ binomial n 5 ∷ binomial n 6 ∷ []

pub pascal_row : (n : ℕ) → pascal n ≡ row n
pascal_row zero = refl
pascal_row (suc zero) = refl
pascal_row (suc (suc n)) = ap (λ (l : List ℕ). 1 ∷ sums l) (pascal_row (suc n))

at_row : (n k : ℕ) (l : List ℕ) → pascal n ≡ l → get_or (row n) k 0 ≡ get_or l k 0
at_row n k l e = ap (λ (r : List ℕ). get_or r k 0) (sym (pascal_row n) ∙ e)

pub binomials : (binomial 3 2 ≡ 3) × (binomial 7 3 ≡ 35) × (binomial 15 4 ≡ 1365) × (binomial 31 5 ≡ 169911) × (binomial 63 6 ≡ 67945521)
binomials = (at_row 3 2 (pascal 3) refl, at_row 7 3 (pascal 7) refl, at_row 15 4 (pascal 15) refl, at_row 31 5 (pascal 31) refl, at_row 63 6 (pascal 63) refl)
