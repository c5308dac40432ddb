-- Orders by what they begin with.
use Rattle.std.proofs.Common.{◌≡◌, ◌≢◌, ◌<◌, ◌≤◌, ◌+◌, ◌-◌, ◌*◌, ◌++◌, ℕ, zero, suc, ℤ, refl, ap, ap₂, arith, sym, ◌∙◌, subst, List, [], ◌∷◌, length, get_or, inl, inr}
use Rattle.std.specs.Prelude.{Option, Some, None, MatchOption}
use Rattle.std.specs.List.{Contains}
use Rattle.std.proofs.lemmas.Bool.{cases_lt}
use Rattle.std.proofs.lemmas.List.{length-append, get_or_default, get_or_append_left, get_or-append_right}
use Rattle.std.proofs.lemmas.List.Elements.{Contains-get_or}
use Rattle.lt_model.specs.Vectors.{minus}
use Rattle.lt_model.specs.Facets.{without}
use Rattle.lt_model.specs.Flat.{rows}
use Rattle.lt_model.specs.Principal.{IsOrder}
use Rattle.lt_model.proofs.Sets.{Contains-tail}
use Rattle.lt_model.proofs.Walk.{length-without}
use Rattle.lt_geometry.proofs.Candidates.{below, down_from, down_below, length-down, distinct_down}
use Rattle.lt_geometry.proofs.Rearranged.{IsDistinct, other_place, no_longer, arranged_from, arranged_members}
use Rattle.lt_match.specs.Matches.{BeginsWith, AreSigned, IsBeginning, IsEarlier, HasNoMatch, IsMatch, IsFirstOrder}

same_numbers : (xs ys : List ℕ) → length xs ≡ length ys → ((i : ℕ) → i < length xs → get_or xs i 0 ≡ get_or ys i 0) → xs ≡ ys
same_numbers [] [] l h = refl
same_numbers [] (y ∷ ys) l h = absurd (omega arith)
same_numbers (x ∷ xs) [] l h = absurd (omega arith)
same_numbers (x ∷ xs) (y ∷ ys) l h = ap₂ (λ (a : ℕ) (r : List ℕ). a ∷ r) (h 0 (omega arith)) (same_numbers xs ys (omega arith) (λ i p. h (suc i) (omega arith)))

-- ---- all numbers below n

down_has : (n j : ℕ) → j < n → Contains (down_from n) j
down_has zero j h = absurd (omega arith)
down_has (suc n) j h = elim (cases_lt j n) [ inl l ↦ Contains-tail n (down_from n) j (down_has n j l) | inr g ↦ (0, omega arith, omega (arith, g, h)) ]

distinct_places : (xs : List ℕ) → ((i j : ℕ) → i < j → j < length xs → get_or xs i 0 ≢ get_or xs j 0) → IsDistinct xs
distinct_places [] h = tt
distinct_places (x ∷ xs) h = (
  λ (k, p, e). h 0 (suc k) (omega arith) (omega (arith, p)) (sym e ∙ get_or_default xs k x 0 p),
  distinct_places xs (λ i j l p. h (suc i) (suc j) (omega (arith, l)) (omega (arith, p))),
)

-- n different numbers below n are an order
pub whole_order : (n : ℕ) (chosen : List ℕ) → IsBeginning n chosen → length chosen ≡ n → IsOrder n chosen
whole_order n chosen b l = record {
  count = l;
  each = λ j h. arranged_members 0 (down_from n) chosen (arranged_from 0 (down_from n) chosen (length-down n ∙ sym l) (distinct_places chosen b.distinct) within) j (down_has n j h);
}
  where
    within : (x : ℕ) → Contains chosen x → Contains (down_from n) x
    within x (k, p, e) = down_has n x (subst (λ (y : ℕ). y < n) (get_or_default chosen k 0 x p ∙ e) (b.below k p))

-- an order holds no number twice
pub order_distinct : (n : ℕ) (p : List ℕ) (i j : ℕ) → IsOrder n p → i < j → j < n → get_or p i 0 ≡ get_or p j 0 → ⊥
order_distinct n p i j o l h e =
    let short : length (down_from n) ≤ length (without j p) = no_longer (without j p) (down_from n) (distinct_down n) there in
    omega (arith, short, length-down n, length-without j p (omega (arith, o.count, h)), o.count)
  where
    there : (y : ℕ) → Contains (down_from n) y → Contains (without j p) y
    there y c =
        let at : Contains p y = o.each y (down_below n y c) in
        elim (other_place 0 j at.0 p y at.1 at.2) [
          | inr r ↦ r
          | inl s ↦
              let here : get_or p j y ≡ y = ap (λ k. get_or p k y) (sym s) ∙ at.2 in
              let twin : get_or p i y ≡ y = get_or_default p i y 0 (omega (arith, o.count, l, h)) ∙ e ∙ get_or_default p j 0 y (omega (arith, o.count, h)) ∙ here in
              elim (other_place 0 j i p y (omega (arith, o.count, l, h)) twin) [ inl f ↦ absurd (omega (arith, f, l)) | inr r ↦ r ]
        ]

-- ---- one number more

last_of : (chosen : List ℕ) (k : ℕ) → get_or (chosen ++ k ∷ []) (length chosen) 0 ≡ k
last_of chosen k =
    let none : length chosen - length chosen ≡ 0 = omega arith in
    get_or-append_right chosen (k ∷ []) (length chosen) (length chosen) 0 refl (omega arith) ∙ ap (λ n. get_or (k ∷ []) n 0) none

longer : (chosen : List ℕ) (k : ℕ) → length (chosen ++ k ∷ []) ≡ length chosen + 1
longer chosen k = length-append chosen (k ∷ [])

pub beginning_more : (n : ℕ) (chosen : List ℕ) (k : ℕ) → IsBeginning n chosen → length chosen < n → k < n → (Contains chosen k → ⊥) → IsBeginning n (chosen ++ k ∷ [])
beginning_more n chosen k b l h new = record {
  few = omega (arith, longer chosen k, l);
  below = λ i hi. elim (cases_lt i (length chosen)) [
    | inl s ↦ subst (λ (y : ℕ). y < n) (sym (get_or_append_left chosen (k ∷ []) 0 i s)) (b.below i s)
    | inr g ↦ let e : length chosen ≡ i = omega (arith, g, hi, longer chosen k) in subst (λ (y : ℕ). y < n) (sym (ap (λ m. get_or (chosen ++ k ∷ []) m 0) (sym e) ∙ last_of chosen k)) h
  ];
  distinct = λ i j ij hj. elim (cases_lt j (length chosen)) [
    | inl s ↦ λ e. b.distinct i j ij s (sym (get_or_append_left chosen (k ∷ []) 0 i (omega (arith, ij, s))) ∙ e ∙ get_or_append_left chosen (k ∷ []) 0 j s)
    | inr g ↦ λ e.
        let last : length chosen ≡ j = omega (arith, g, hj, longer chosen k) in
        let hi : i < length chosen = omega (arith, ij, last) in
        let same : get_or chosen i 0 ≡ k = sym (get_or_append_left chosen (k ∷ []) 0 i hi) ∙ e ∙ ap (λ m. get_or (chosen ++ k ∷ []) m 0) (sym last) ∙ last_of chosen k in
        new (subst (λ (y : ℕ). Contains chosen y) same (Contains-get_or chosen i 0 hi))
  ];
}

pub begins_more : (chosen p : List ℕ) (k : ℕ) → BeginsWith chosen p → get_or p (length chosen) 0 ≡ k → BeginsWith (chosen ++ k ∷ []) p
begins_more chosen p k b e = λ i h. elim (cases_lt i (length chosen)) [
  | inl s ↦ b i s ∙ sym (get_or_append_left chosen (k ∷ []) 0 i s)
  | inr g ↦ let last : i ≡ length chosen = omega (arith, g, h, longer chosen k) in ap (λ m. get_or p m 0) last ∙ e ∙ sym (ap (λ m. get_or (chosen ++ k ∷ []) m 0) last ∙ last_of chosen k)
]

begins_less : (chosen p : List ℕ) (k : ℕ) → BeginsWith (chosen ++ k ∷ []) p → BeginsWith chosen p
begins_less chosen p k b = λ i h. b i (omega (arith, longer chosen k, h)) ∙ get_or_append_left chosen (k ∷ []) 0 i h

begins_last : (chosen p : List ℕ) (k : ℕ) → BeginsWith (chosen ++ k ∷ []) p → get_or p (length chosen) 0 ≡ k
begins_last chosen p k b = b (length chosen) (omega (arith, longer chosen k)) ∙ last_of chosen k

-- ---- the search

-- no order that begins with the numbers has a match
abbrev pub HasNoneFrom : ℕ → List (List (List ℤ)) → List (List (List ℤ)) → List (List ℤ) → List ℕ → Type 0
HasNoneFrom d t t2 s chosen = (p : List ℕ) → BeginsWith chosen p → HasNoMatch d t t2 s p

module _ (d : ℕ) (t t2 : List (List (List ℤ))) (s : List (List ℤ)) (chosen : List ℕ) where
  -- a number that stands there stands in no order twice
  pub none_twice : (k : ℕ) → length chosen < suc d → Contains chosen k → HasNoneFrom d t t2 s (chosen ++ k ∷ [])
  none_twice k l (i, p, e) = λ q b u m. order_distinct (suc d) q i (length chosen) m.order p l (begins_less chosen q k b i p ∙ get_or_default chosen i 0 k p ∙ e ∙ sym (begins_last chosen q k b))

  -- nor does one at which the pair has another signature than the vertex that goes to it
  pub none_signed : (ps qs : List (List ℤ)) (k : ℕ) → AreSigned d t t2 s ps qs → length chosen < suc d → get_or ps (length chosen) [] ≢ get_or qs k [] → HasNoneFrom d t t2 s (chosen ++ k ∷ [])
  none_signed ps qs k h l differ = λ q b. h.none q (length chosen) l (λ e. differ (e ∙ ap (λ n. get_or qs n []) (begins_last chosen q k b)))

  -- where no number goes on
  pub none_from : length chosen < suc d → ((k : ℕ) → k < suc d → HasNoneFrom d t t2 s (chosen ++ k ∷ [])) → HasNoneFrom d t t2 s chosen
  none_from l none = λ p b u m.
      let k = get_or p (length chosen) 0 in
      none k (below p (suc d) (suc d) m.order.count refl m.order.each (length chosen) l) p (begins_more chosen p k b refl) u m

  -- an order that begins with all its numbers is these
  pub from_whole : (p : List ℕ) (u : List (List ℤ)) → length chosen ≡ suc d → BeginsWith chosen p → IsMatch d t t2 s p u → IsMatch d t t2 s chosen u
  from_whole p u l b m = record { order = whole; candidate = record { square = m.candidate.square; images = λ i h. m.candidate.images i h ∙ ap₂ (λ (x y : ℕ). minus (get_or s x []) (get_or s y [])) (b i (omega (arith, l, h))) (b 0 (omega (arith, l))) }; carries = m.carries }
    where
      same : p ≡ chosen
      same = same_numbers p chosen (m.order.count ∙ sym l) (λ i h. b i (omega (arith, l, m.order.count, h)))

      whole : IsOrder (suc d) chosen
      whole = subst (IsOrder (suc d)) same m.order

  pub found_whole : (u : List (List ℤ)) → length chosen ≡ suc d → IsMatch d t t2 s chosen u → IsFirstOrder d t t2 s chosen u
  found_whole u l m = record { order = chosen; begins = λ i h. refl; «match» = m; before = λ q b (k, h, e, less) w n. absurd (omega (arith, b k h, less)) }

  -- the first order that goes on with k is the first of all where no lesser number goes on
  pub found_more : (k : ℕ) (u : List (List ℤ)) → ((j : ℕ) → j < k → HasNoneFrom d t t2 s (chosen ++ j ∷ [])) → IsFirstOrder d t t2 s (chosen ++ k ∷ []) u → IsFirstOrder d t t2 s chosen u
  found_more k u none f = record {
    order = f.order;
    begins = begins_less chosen f.order k f.begins;
    «match» = f.«match»;
    before = λ q b earlier. before q b earlier;
  }
    where
      before : (q : List ℕ) → BeginsWith chosen q → IsEarlier q f.order → HasNoMatch d t t2 s q
      before q b (m, h, same, less) =
          elim (cases_lt m (length chosen)) [
            | inl l ↦ absurd (omega (arith, b m l, begins_less chosen f.order k f.begins m l, less))
            | inr g ↦ elim (cases_lt (length chosen) m) [
              | inl l ↦ f.before q (begins_more chosen q k b (same (length chosen) l ∙ begins_last chosen f.order k f.begins)) (m, h, same, less)
              | inr g' ↦
                  let here : m ≡ length chosen = omega (arith, g, g') in
                  let lesser : get_or q (length chosen) 0 < k = subst (λ (x : ℕ). get_or q (length chosen) 0 < x) (begins_last chosen f.order k f.begins) (subst (λ (i : ℕ). get_or q i 0 < get_or f.order i 0) here less) in
                  none (get_or q (length chosen) 0) lesser q (begins_more chosen q (get_or q (length chosen) 0) b refl)
            ]
          ]

  -- an answer for all the numbers is one for the orders that begin with them
  pub leaf : (r : Option (List ℤ)) → length chosen ≡ suc d → MatchOption r (HasNoMatch d t t2 s chosen) (λ u. (length u ≡ d * d) × IsMatch d t t2 s chosen (rows d u)) → MatchOption r (HasNoneFrom d t t2 s chosen) (λ u. (length u ≡ d * d) × IsFirstOrder d t t2 s chosen (rows d u))
  leaf None l h = λ p b u m. h u (from_whole p u l b m)
  leaf (Some u) l h = (h.0, found_whole (rows d u) l h.1)
