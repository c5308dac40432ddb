-- Lists in another order, and the numbers that go with them.
use Rattle.std.proofs.lemmas.List.Elements.{Contains-get_or, Contains-append_cases}
use Rattle.std.proofs.lemmas.List.{get_or_default}
use Rattle.std.proofs.Common.{◌≡◌, ◌≢◌, ℕ, zero, suc, ℤ, pos, ◌+ℤ◌, ◌*ℤ◌, ◌<◌, ◌≤◌, refl, ap, arith, sym, ◌∙◌, subst, List, [], ◌∷◌, length, map, get_or, inl, inr, ◌⊎◌, ◌++◌}
use Rattle.std.proofs.lemmas.Int.{ints}
use Rattle.std.specs.List.{Contains}
use Rattle.std.specs.List.Sorted.{IsPermutation}
use Rattle.std.proofs.lemmas.List.Sorted.{IsPermutation-refl, IsPermutation-trans, IsPermutation-cons, IsPermutation-append_left, IsPermutation-append_comm}
use Rattle.lt_model.specs.Facets.{without, number_at}
use Rattle.lt_model.specs.Vectors.{dot, total}
use Rattle.lt_model.proofs.Excess.{dot-constant}
use Rattle.lt_model.proofs.Sets.{Contains-head, Contains-tail, Contains-cases, Contains-none}
use Rattle.lt_model.proofs.Walk.{dot-without, without-map, number_at-map, length-without, length-map}

module _ {X : Type 0} where
  pub Contains-without : (xs : List X) (k : ℕ) (x a : X) → Contains xs x → get_or xs k a ≢ x → Contains (without k xs) x
  Contains-without [] k x a c n = Contains-none x c
  Contains-without (y ∷ xs) zero x a c n = elim (Contains-cases y xs x c) [ inl e ↦ absurd (n e) | inr r ↦ r ]
  Contains-without (y ∷ xs) (suc k) x a c n =
      elim (Contains-cases y xs x c) [
        | inl e ↦ subst (λ (z : X). Contains (y ∷ without k xs) z) e (Contains-head y (without k xs))
        | inr r ↦ Contains-tail y (without k xs) x (Contains-without xs k x a r n)
      ]

  pub Contains-with : (xs : List X) (k : ℕ) (x : X) → Contains (without k xs) x → Contains xs x
  Contains-with [] k x c = c
  Contains-with (y ∷ xs) zero x c = Contains-tail y xs x c
  Contains-with (y ∷ xs) (suc k) x c =
      elim (Contains-cases y (without k xs) x c) [
        | inl e ↦ subst (λ (z : X). Contains (y ∷ xs) z) e (Contains-head y xs)
        | inr r ↦ Contains-tail y xs x (Contains-with xs k x r)
      ]

  -- no member stands twice
  abbrev pub IsDistinct : List X → Type 0
  IsDistinct [] = Unit {0}
  IsDistinct (x ∷ xs) = (Contains xs x → ⊥) × IsDistinct xs

  pub not_in_without : (xs : List X) (k : ℕ) (a : X) → IsDistinct xs → k < length xs → Contains (without k xs) (get_or xs k a) → ⊥
  not_in_without [] k a d h c = absurd (omega arith)
  not_in_without (x ∷ xs) zero a d h c = d.0 c
  not_in_without (x ∷ xs) (suc k) a d h c =
      elim (Contains-cases x (without k xs) (get_or xs k a) c) [
        | inl e ↦ d.0 (subst (λ (z : X). Contains xs z) (sym e) (Contains-get_or xs k a (omega arith)))
        | inr r ↦ not_in_without xs k a d.1 (omega arith) r
      ]

  pub distinct_without : (xs : List X) (k : ℕ) → IsDistinct xs → IsDistinct (without k xs)
  distinct_without [] k d = tt
  distinct_without (x ∷ xs) zero d = d.1
  distinct_without (x ∷ xs) (suc k) d = (λ c. d.0 (Contains-with xs k x c), distinct_without xs k d.1)

  pub distinct_append : (xs ys : List X) → IsDistinct xs → IsDistinct ys → ((x : X) → Contains xs x → Contains ys x → ⊥) → IsDistinct (xs ++ ys)
  distinct_append [] ys h k apart = k
  distinct_append (x ∷ xs) ys h k apart = (
    λ c. elim (Contains-append_cases xs ys x c) [ inl l ↦ h.0 l | inr r ↦ apart x (Contains-head x xs) r ],
    distinct_append xs ys h.1 k (λ y l r. apart y (Contains-tail x xs y l) r),
  )

  pub same_place : (xs : List X) (i k : ℕ) (a : X) → IsDistinct xs → i < length xs → k < length xs → get_or xs i a ≡ get_or xs k a → i ≡ k
  same_place [] i k a d hi hk e = absurd (omega arith)
  same_place (x ∷ xs) zero zero a d hi hk e = refl
  same_place (x ∷ xs) zero (suc k) a d hi hk e = absurd (d.0 (subst (λ (z : X). Contains xs z) (sym e) (Contains-get_or xs k a (omega arith))))
  same_place (x ∷ xs) (suc i) zero a d hi hk e = absurd (d.0 (subst (λ (z : X). Contains xs z) e (Contains-get_or xs i a (omega arith))))
  same_place (x ∷ xs) (suc i) (suc k) a d hi hk e = ap suc (same_place xs i k a d.1 (omega arith) (omega arith) e)

  -- a list without repetition is no longer than one that has its members
  pub no_longer : (xs ys : List X) → IsDistinct ys → ((x : X) → Contains ys x → Contains xs x) → length ys ≤ length xs
  no_longer xs [] d h = omega arith
  no_longer xs (y ∷ ys) d h =
      let c : Contains xs y = h y (Contains-head y ys) in
      let is : get_or xs c.0 y ≡ y = c.2 in
      let rest : length ys ≤ length (without c.0 xs) =
      no_longer (without c.0 xs) ys d.1 (λ x m. Contains-without xs c.0 x y (h x (Contains-tail y ys x m)) (λ f. d.0 (subst (λ (z : X). Contains ys z) (sym f ∙ is) m)))
      in
      omega (arith, rest, length-without c.0 xs c.1)

  pub same_length : (xs ys : List X) → IsDistinct xs → IsDistinct ys → ((x : X) → Contains xs x → Contains ys x) → ((x : X) → Contains ys x → Contains xs x) → length xs ≡ length ys
  same_length xs ys dx dy f g =
      let a = no_longer xs ys dy g in
      let b = no_longer ys xs dx f in
      omega (arith, a, b)

-- the place of which the list without place m has place k
abbrev pub raised : ℕ → ℕ → ℕ
raised zero k = suc k
raised (suc m) zero = zero
raised (suc m) (suc k) = suc (raised m k)

pub get-raised : {X : Type 0} (m k : ℕ) (xs : List X) (a : X) → m < length xs → get_or xs (raised m k) a ≡ get_or (without m xs) k a
get-raised m k [] a h = absurd (omega arith)
get-raised zero k (x ∷ xs) a h = refl
get-raised (suc m) zero (x ∷ xs) a h = refl
get-raised (suc m) (suc k) (x ∷ xs) a h = get-raised m k xs a (omega arith)

raised_within : {X : Type 0} (m k : ℕ) (xs : List X) → m < length xs → k < length (without m xs) → raised m k < length xs
raised_within m k [] h l = absurd (omega arith)
raised_within zero k (x ∷ xs) h l = omega arith
raised_within (suc m) zero (x ∷ xs) h l = omega arith
raised_within (suc m) (suc k) (x ∷ xs) h l =
    let ih = raised_within m k xs (omega arith) (omega arith) in
    omega (arith, ih)

-- a list and its member at place k before the others
pub to_front : {X : Type 0} (k : ℕ) (e : X) (xs : List X) → k < length xs → IsPermutation xs (get_or xs k e ∷ without k xs)
to_front k e [] h = absurd (omega arith)
to_front zero e (x ∷ xs) h = IsPermutation-refl (x ∷ xs)
to_front (suc k) e (x ∷ xs) h =
    IsPermutation-trans (x ∷ xs) (x ∷ get_or xs k e ∷ without k xs) (get_or xs k e ∷ x ∷ without k xs) (IsPermutation-cons x xs (get_or xs k e ∷ without k xs) (to_front k e xs (omega arith))) (exchanged x (get_or xs k e) (without k xs))
  where
    exchanged : {X : Type 0} (x y : X) (xs : List X) → IsPermutation (x ∷ y ∷ xs) (y ∷ x ∷ xs)
    exchanged x y xs = IsPermutation-append_left xs (x ∷ y ∷ []) (y ∷ x ∷ []) (IsPermutation-append_comm (x ∷ []) (y ∷ []))

without-raised : {X : Type 0} (k p : ℕ) (e : X) (xs : List X) → k < length xs → IsPermutation (without (raised k p) xs) (get_or xs k e ∷ without p (without k xs))
without-raised k p e [] h = absurd (omega arith)
without-raised zero p e (x ∷ xs) h = IsPermutation-refl (x ∷ without p xs)
without-raised (suc k) zero e (x ∷ xs) h = to_front k e xs (omega arith)
without-raised (suc k) (suc p) e (x ∷ xs) h =
    IsPermutation-trans (x ∷ without (raised k p) xs) (x ∷ get_or xs k e ∷ without p (without k xs)) (get_or xs k e ∷ x ∷ without p (without k xs))
    (IsPermutation-cons x (without (raised k p) xs) (get_or xs k e ∷ without p (without k xs)) (without-raised k p e xs (omega arith))) (exchanged x (get_or xs k e) (without p (without k xs)))
  where
    exchanged : {X : Type 0} (x y : X) (xs : List X) → IsPermutation (x ∷ y ∷ xs) (y ∷ x ∷ xs)
    exchanged x y xs = IsPermutation-append_left xs (x ∷ y ∷ []) (y ∷ x ∷ []) (IsPermutation-append_comm (x ∷ []) (y ∷ []))

module _ {X : Type 0} (e : X) where
  -- ys holds the members of xs in some order
  abbrev pub IsArranged : List X → List X → Type 0
  IsArranged xs [] = length xs ≡ 0
  IsArranged xs (y ∷ ys) = (k : ℕ) × (k < length xs) × (get_or xs k e ≡ y) × IsArranged (without k xs) ys

  pub arranged_from : (xs ys : List X) → length xs ≡ length ys → IsDistinct ys → ((x : X) → Contains ys x → Contains xs x) → IsArranged xs ys
  arranged_from xs [] l d h = l
  arranged_from xs (y ∷ ys) l d h =
      let c : Contains xs y = h y (Contains-head y ys) in
      let is : get_or xs c.0 e ≡ y = get_or_default xs c.0 e y c.1 ∙ c.2 in
      let rest : IsArranged (without c.0 xs) ys =
      arranged_from (without c.0 xs) ys (omega (arith, l, length-without c.0 xs c.1)) d.1
      (λ x m. Contains-without xs c.0 x e (h x (Contains-tail y ys x m)) (λ f. d.0 (subst (λ (z : X). Contains ys z) (sym f ∙ is) m)))
      in
      (c.0, c.1, is, rest)

  pub other_place : (k m : ℕ) (xs : List X) (x : X) → m < length xs → get_or xs m x ≡ x → (m ≡ k) ⊎ Contains (without k xs) x
  other_place k m [] x h is = absurd (omega arith)
  other_place zero zero (y ∷ xs) x h is = inl refl
  other_place zero (suc m) (y ∷ xs) x h is = inr (m, omega arith, is)
  other_place (suc k) zero (y ∷ xs) x h is = inr (0, omega arith, is)
  other_place (suc k) (suc m) (y ∷ xs) x h is = elim (other_place k m xs x (omega arith) is) [ inl f ↦ inl (ap suc f) | inr c ↦ inr (Contains-tail y (without k xs) x c) ]

  -- no member is left out
  pub arranged_members : (xs ys : List X) → IsArranged xs ys → (x : X) → Contains xs x → Contains ys x
  arranged_members xs [] r x c = absurd (omega (arith, r, c.1))
  arranged_members xs (y ∷ ys) r x c =
      elim (other_place r.0 c.0 xs x c.1 c.2) [
        | inl f ↦ subst (λ (z : X). Contains (y ∷ ys) z) (sym r.2 ∙ get_or_default xs r.0 e x r.1 ∙ ap (λ n. get_or xs n x) (sym f) ∙ c.2) (Contains-head y ys)
        | inr d ↦ Contains-tail y ys x (arranged_members (without r.0 xs) ys r.3 x d)
      ]

  module _ {Y : Type 0} (f : Y) where
    -- what belongs to the members of xs, in the order of ys
    abbrev pub arrange : (xs ys : List X) → IsArranged xs ys → List Y → List Y
    arrange xs [] r bs = []
    arrange xs (y ∷ ys) r bs = get_or bs r.0 f ∷ arrange (without r.0 xs) ys r.3 (without r.0 bs)

    pub length-arrange : (xs ys : List X) (r : IsArranged xs ys) (bs : List Y) → length (arrange xs ys r bs) ≡ length ys
    length-arrange xs [] r bs = refl
    length-arrange xs (y ∷ ys) r bs = ap suc (length-arrange (without r.0 xs) ys r.3 (without r.0 bs))

    pub arrange_is_permutation : (xs ys : List X) (r : IsArranged xs ys) (bs : List Y) → length bs ≡ length xs → IsPermutation bs (arrange xs ys r bs)
    arrange_is_permutation xs [] r [] l = IsPermutation-refl []
    arrange_is_permutation xs [] r (b ∷ bs) l = absurd (omega (arith, r))
    arrange_is_permutation xs (y ∷ ys) r bs l =
        let lk : r.0 < length bs = omega (arith, r.1) in
        let rest : IsPermutation (without r.0 bs) (arrange (without r.0 xs) ys r.3 (without r.0 bs)) = arrange_is_permutation (without r.0 xs) ys r.3 (without r.0 bs) (omega (arith, length-without r.0 bs lk, length-without r.0 xs r.1)) in
        IsPermutation-trans bs (get_or bs r.0 f ∷ without r.0 bs) (arrange xs (y ∷ ys) r bs) (to_front r.0 f bs lk) (IsPermutation-cons (get_or bs r.0 f) (without r.0 bs) (arrange (without r.0 xs) ys r.3 (without r.0 bs)) rest)

    -- where the member at place i of ys stands in xs, and what belongs to it
    pub record HasPlaceOf (xs ys : List X) (r : IsArranged xs ys) (i : ℕ) : Type 0 where
      pub place : ℕ
      pub within : place < length xs
      pub member : get_or xs place e ≡ get_or ys i e
      pub belongs : (bs : List Y) → length bs ≡ length xs → get_or (arrange xs ys r bs) i f ≡ get_or bs place f
      pub others : (bs : List Y) → length bs ≡ length xs → IsPermutation (without place bs) (without i (arrange xs ys r bs))

    pub placed_of : (xs ys : List X) (r : IsArranged xs ys) (i : ℕ) → i < length ys → HasPlaceOf xs ys r i
    placed_of xs [] r i h = absurd (omega arith)
    placed_of xs (y ∷ ys) r zero h = record {
      place = r.0;
      within = r.1;
      member = r.2;
      belongs = λ bs l. refl;
      others = λ bs l. arrange_is_permutation (without r.0 xs) ys r.3 (without r.0 bs) (omega (arith, length-without r.0 bs (omega (arith, r.1)), length-without r.0 xs r.1));
    }
    placed_of xs (y ∷ ys) r (suc i) h =
        let p = placed_of (without r.0 xs) ys r.3 i (omega arith) in
        record {
          place = raised r.0 p.place;
          within = raised_within r.0 p.place xs r.1 p.within;
          member = get-raised r.0 p.place xs e r.1 ∙ p.member;
          belongs = λ bs l. p.belongs (without r.0 bs) (omega (arith, length-without r.0 bs (omega (arith, r.1)), length-without r.0 xs r.1)) ∙ sym (get-raised r.0 p.place bs f (omega (arith, r.1)));
          others = λ bs l.
              let lk : r.0 < length bs = omega (arith, r.1) in
              let ll : length (without r.0 bs) ≡ length (without r.0 xs) = omega (arith, length-without r.0 bs lk, length-without r.0 xs r.1) in
              IsPermutation-trans (without (raised r.0 p.place) bs) (get_or bs r.0 f ∷ without p.place (without r.0 bs)) (get_or bs r.0 f ∷ without i (arrange (without r.0 xs) ys r.3 (without r.0 bs)))
              (without-raised r.0 p.place f bs lk) (IsPermutation-cons (get_or bs r.0 f) (without p.place (without r.0 bs)) (without i (arrange (without r.0 xs) ys r.3 (without r.0 bs))) (p.others (without r.0 bs) ll));
        }

-- ---- the case of points and their numbers

-- ws holds the members of vs in some order
abbrev pub IsRearranged : List (List ℤ) → List (List ℤ) → Type 0
IsRearranged = IsArranged []

pub rearranged_from : (vs ws : List (List ℤ)) → length vs ≡ length ws → IsDistinct ws → ((x : List ℤ) → Contains ws x → Contains vs x) → IsRearranged vs ws
rearranged_from = arranged_from []

-- the numbers b of vs, in the order of ws
abbrev pub rearrange : (vs ws : List (List ℤ)) → IsRearranged vs ws → List ℤ → List ℤ
rearrange = arrange [] (pos 0)

pub length-rearrange : (vs ws : List (List ℤ)) (r : IsRearranged vs ws) (b : List ℤ) → length (rearrange vs ws r b) ≡ length ws
length-rearrange vs [] r b = refl
length-rearrange vs (w ∷ ws) r b = ap suc (length-rearrange (without r.0 vs) ws r.3 (without r.0 b))

pub length-rearranged : (vs ws : List (List ℤ)) → IsRearranged vs ws → length ws ≡ length vs
length-rearranged vs [] r = sym r
length-rearranged vs (w ∷ ws) r = ap suc (length-rearranged (without r.0 vs) ws r.3) ∙ length-without r.0 vs r.1

pub dot-rearrange : (g : List ℤ → ℤ) (vs ws : List (List ℤ)) (r : IsRearranged vs ws) (b : List ℤ) → length b ≡ length vs → dot (rearrange vs ws r b) (map g ws) ≡ dot b (map g vs)
dot-rearrange g [] [] r [] l = refl
dot-rearrange g [] [] r (a ∷ b) l = absurd (omega arith)
dot-rearrange g (v ∷ vs) [] r b l = absurd (omega (arith, r))
dot-rearrange g vs (w ∷ ws) r b l =
    let k : ℕ = r.0 in
    let lb : length (without k b) ≡ length (without k vs) = omega (arith, length-without k b (omega (arith, r.1)), length-without k vs r.1) in
    let ih : dot (rearrange (without k vs) ws r.3 (without k b)) (map g ws) ≡ dot (without k b) (map g (without k vs)) = dot-rearrange g (without k vs) ws r.3 (without k b) lb in
    let e1 : dot b (map g vs) ≡ number_at k b *ℤ number_at k (map g vs) +ℤ dot (without k b) (without k (map g vs)) = dot-without k b (map g vs) (l ∙ sym (length-map g vs)) in
    let e2 : number_at k (map g vs) ≡ g w = number_at-map g k vs [] r.1 ∙ ap g r.2 in
    sym (e1 ∙ ap (λ n. number_at k b *ℤ n +ℤ dot (without k b) (without k (map g vs))) e2 ∙ ap (λ l. number_at k b *ℤ g w +ℤ dot (without k b) l) (without-map g k vs) ∙ ap (λ n. number_at k b *ℤ g w +ℤ n) (sym ih))

pub total-rearrange : (vs ws : List (List ℤ)) (r : IsRearranged vs ws) (b : List ℤ) → length b ≡ length vs → total (rearrange vs ws r b) ≡ total b
total-rearrange vs ws r b l =
    let one : List ℤ → ℤ = λ v. pos 1 in
    let e1 : dot (rearrange vs ws r b) (map one ws) ≡ total (rearrange vs ws r b) *ℤ pos 1 = dot-constant (rearrange vs ws r b) (pos 1) ws (length-rearrange vs ws r b) in
    let e2 : dot b (map one vs) ≡ total b *ℤ pos 1 = dot-constant b (pos 1) vs l in
    let e3 = dot-rearrange one vs ws r b l in
    omega (arith, ints, e1, e2, e3)

-- where the member at place i of ws stands in vs, and its number
pub record HasPlace (vs ws : List (List ℤ)) (r : IsRearranged vs ws) (i : ℕ) : Type 0 where
  pub place : ℕ
  pub within : place < length vs
  pub member : get_or vs place [] ≡ get_or ws i []
  pub number : (b : List ℤ) → length b ≡ length vs → number_at i (rearrange vs ws r b) ≡ number_at place b
  pub others : (b : List ℤ) → length b ≡ length vs → IsPermutation (without place b) (without i (rearrange vs ws r b))

pub placed : (vs ws : List (List ℤ)) (r : IsRearranged vs ws) (i : ℕ) → i < length ws → HasPlace vs ws r i
placed vs ws r i h =
    let p = placed_of [] (pos 0) vs ws r i h in
    record { place = p.place; within = p.within; member = p.member; number = p.belongs; others = p.others }
