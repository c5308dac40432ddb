-- The index of facets: how it grows, and why the first facet in a bucket is the first of all.
use Rattle.std.proofs.Common.{◌≡◌, ℕ, suc, ℤ, ◌<◌, refl, ap, ap₂, arith, sym, ◌∙◌, subst, List, [], ◌∷◌, ◌++◌, inl, inr, ◌⊎◌, length, get_or, set, Vec, Option, None, Some, ◌≤◌}
use Rattle.std.specs.List.{Contains}
use Rattle.std.proofs.lemmas.Bool.{cases_eq, cases_lt, cases_order}
use Rattle.std.proofs.lemmas.List.{get_or_append_left, get_or_push, length_push, get_or-set_same, get_or-set_other, length-set, length-map, map-set, get_or-map, get_or_default}
use Rattle.std.proofs.lemmas.List.Elements.{Contains-append_left, Contains-push, Contains-get_or}
use Rattle.lt_model.specs.Simplices.{IsClass}
use Rattle.lt_triang.specs.Across.{IsFacing, IsNotFacing, IsOpen}
use Rattle.lt_triang.specs.Codes.{bucket_of}
use Rattle.lt_triang.specs.Indexed.{buckets_of, entry_at, IsIndexBelow, IsIndex, ArePlaces, AreNotFacing}
use Rattle.lt_model.specs.Order.{IsBefore}
use Rattle.lt_triang.specs.Kept.{AreClasses}
use Rattle.lt_triang.specs.Walled.{IsWall, IsWallTo, IsFirstIn, IsFirstAnswer, IsAcrossAnswer}
use Rattle.lt_triang.specs.declared.walls.Wall.{Wall}
use Rattle.lt_triang.proofs.Coded.{same_bucket}

abbrev Facet : Type 0
Facet = ℕ × ℕ

earlier_next : (a : Facet) (m k : ℕ) → IsBefore a (m, k) → IsBefore a (m, suc k)
earlier_next a m k (inl l) = inl l
earlier_next a m k (inr (e, l)) = inr (e, omega (arith, l))

earlier_self : (m k : ℕ) → IsBefore (m, k) (m, suc k)
earlier_self m k = inr (refl, omega arith)

split : (n j m k : ℕ) → IsBefore (n, j) (m, suc k) → IsBefore (n, j) (m, k) ⊎ ((n ≡ m) × (j ≡ k))
split n j m k (inl l) = inl (inl l)
split n j m k (inr (e, l)) = elim (cases_lt j k) [ inl q ↦ inl (inr (e, q)) | inr q ↦ inr (e, omega (arith, l, q)) ]

not_both : (a b : Facet) → IsBefore a b → IsBefore b a → ⊥
not_both a b (inl l) (inl q) = absurd (omega (arith, l, q))
not_both a b (inl l) (inr (e, q)) = absurd (omega (arith, l, e))
not_both a b (inr (e, l)) (inl q) = absurd (omega (arith, q, e))
not_both a b (inr (e, l)) (inr (f, q)) = absurd (omega (arith, l, q))

not_itself : (a : Facet) → IsBefore a a → ⊥
not_itself a h = not_both a a h h

-- ---- how the index grows

-- a bucket with a facet more, or the same
after : (bs : List (List Facet)) (at : ℕ) (x : Facet) → at < length bs → (b : ℕ) →
    (get_or (set bs at (get_or bs at [] ++ x ∷ [])) b [] ≡ get_or bs b [] ++ x ∷ []) × (b ≡ at) ⊎ (get_or (set bs at (get_or bs at [] ++ x ∷ [])) b [] ≡ get_or bs b [])
after bs at x l b =
    elim (cases_eq b at) [
      | inl e ↦ inl (subst (λ (c : ℕ). get_or (set bs at (get_or bs at [] ++ x ∷ [])) c [] ≡ get_or bs c [] ++ x ∷ []) (sym e) (get_or-set_same bs at (get_or bs at [] ++ x ∷ []) [] l), e)
      | inr ne ↦ inr (get_or-set_other bs at b (get_or bs at [] ++ x ∷ []) [] ne)
    ]

-- an element of a list with one more
last_or : (xs : List Facet) (x : Facet) (q : ℕ) → q < length (xs ++ x ∷ []) → ((q < length xs) × (get_or (xs ++ x ∷ []) q (0, 0) ≡ get_or xs q (0, 0))) ⊎ ((q ≡ length xs) × (get_or (xs ++ x ∷ []) q (0, 0) ≡ x))
last_or xs x q l =
    elim (cases_lt q (length xs)) [
      | inl h ↦ inl (h, get_or_append_left xs (x ∷ []) (0, 0) q h)
      | inr h ↦ let e : q ≡ length xs = omega (arith, l, h, length_push xs x) in inr (e, get_or_push xs x (0, 0) q (sym e))
    ]

pub record IsGrown (d m k : ℕ) (xs ys : List Facet) : Type 0 where
  pub before : (q : ℕ) → q < length ys → IsBefore (get_or ys q (0, 0)) (m, suc k)
  pub ascending : (p q : ℕ) → p < q → q < length ys → IsBefore (get_or ys p (0, 0)) (get_or ys q (0, 0))
  pub places : (q : ℕ) → q < length ys → (get_or ys q (0, 0)).1 < suc d
  pub kept : (x : Facet) → Contains xs x → Contains ys x

pushed : (d m k : ℕ) (xs : List Facet) → k < suc d → ((q : ℕ) → q < length xs → IsBefore (get_or xs q (0, 0)) (m, k)) → ((p q : ℕ) → p < q → q < length xs → IsBefore (get_or xs p (0, 0)) (get_or xs q (0, 0))) →
    ((q : ℕ) → q < length xs → (get_or xs q (0, 0)).1 < suc d) → IsGrown d m k xs (xs ++ (m, k) ∷ [])
pushed d m k xs lk before ascending places = record {
  before = λ q l. elim (last_or xs (m, k) q l) [
    | inl (h, e) ↦ subst (λ (a : Facet). IsBefore a (m, suc k)) (sym e) (earlier_next (get_or xs q (0, 0)) m k (before q h))
    | inr (h, e) ↦ subst (λ (a : Facet). IsBefore a (m, suc k)) (sym e) (earlier_self m k)
  ];
  ascending = λ p q lt l. elim (last_or xs (m, k) q l) [
    | inl (h, e) ↦ subst (λ (a : Facet). IsBefore (get_or (xs ++ (m, k) ∷ []) p (0, 0)) a) (sym e) (subst (λ (a : Facet). IsBefore a (get_or xs q (0, 0))) (sym (get_or_append_left xs ((m, k) ∷ []) (0, 0) p (omega (arith, lt, h)))) (ascending p q lt h))
    | inr (h, e) ↦ subst (λ (a : Facet). IsBefore (get_or (xs ++ (m, k) ∷ []) p (0, 0)) a) (sym e) (subst (λ (a : Facet). IsBefore a (m, k)) (sym (get_or_append_left xs ((m, k) ∷ []) (0, 0) p (omega (arith, lt, h)))) (before p (omega (arith, lt, h))))
  ];
  places = λ q l. elim (last_or xs (m, k) q l) [
    | inl (h, e) ↦ subst (λ (a : Facet). a.1 < suc d) (sym e) (places q h)
    | inr (h, e) ↦ subst (λ (a : Facet). a.1 < suc d) (sym e) lk
  ];
  kept = λ x c. Contains-append_left xs ((m, k) ∷ []) x c;
}

same : (d m k : ℕ) (xs : List Facet) → ((q : ℕ) → q < length xs → IsBefore (get_or xs q (0, 0)) (m, k)) → ((p q : ℕ) → p < q → q < length xs → IsBefore (get_or xs p (0, 0)) (get_or xs q (0, 0))) →
    ((q : ℕ) → q < length xs → (get_or xs q (0, 0)).1 < suc d) → IsGrown d m k xs xs
same d m k xs before ascending places = record {
  before = λ q l. earlier_next (get_or xs q (0, 0)) m k (before q l);
  ascending = ascending;
  places = places;
  kept = λ x c. c;
}

grown : (d m k at : ℕ) (t : List (List (List ℤ))) (bs : List (List Facet)) → k < suc d → at < length bs → IsIndexBelow d t m k bs → (b : ℕ) → IsGrown d m k (get_or bs b []) (get_or (set bs at (get_or bs at [] ++ (m, k) ∷ [])) b [])
grown d m k at t bs lk la h b =
    elim (after bs at (m, k) la b) [
      | inl (e, _) ↦ subst (IsGrown d m k (get_or bs b [])) (sym e) (pushed d m k (get_or bs b []) lk (λ q l. h.before b q l) (λ p q lt l. h.ascending b p q lt l) (λ q l. h.places b q l))
      | inr e ↦ subst (IsGrown d m k (get_or bs b [])) (sym e) (same d m k (get_or bs b []) (λ q l. h.before b q l) (λ p q lt l. h.ascending b p q lt l) (λ q l. h.places b q l))
    ]

pub index_grows : (d : ℕ) (t : List (List (List ℤ))) (m k at : ℕ) (bs bs' : List (List Facet)) → k < suc d → at < length bs → at ≡ bucket_of t m k → bs' ≡ set bs at (get_or bs at [] ++ (m, k) ∷ []) → IsIndexBelow d t m k bs → IsIndexBelow d t m (suc k) bs'
index_grows d t m k at bs bs' lk la ea e h =
    subst (IsIndexBelow d t m (suc k)) (sym e) (record {
      count = length-set bs at (get_or bs at [] ++ (m, k) ∷ []) ∙ h.count;
      each = λ n j p q. found n j p (split n j m k q);
      before = λ b q l. (grown d m k at t bs lk la h b).before q l;
      ascending = λ b p q lt l. (grown d m k at t bs lk la h b).ascending p q lt l;
      places = λ b q l. (grown d m k at t bs lk la h b).places q l;
    })
  where
    found : (n j : ℕ) → j < suc d → IsBefore (n, j) (m, k) ⊎ ((n ≡ m) × (j ≡ k)) → Contains (get_or (set bs at (get_or bs at [] ++ (m, k) ∷ [])) (bucket_of t n j) []) (n, j)
    found n j p (inl q) = (grown d m k at t bs lk la h (bucket_of t n j)).kept (n, j) (h.each n j p q)
    found n j p (inr (en, ej)) =
        let here : Contains (get_or (set bs at (get_or bs at [] ++ (m, k) ∷ [])) at []) (m, k) =
        subst (λ (l : List Facet). Contains l (m, k)) (sym (get_or-set_same bs at (get_or bs at [] ++ (m, k) ∷ []) [] la)) (Contains-push (get_or bs at []) (m, k)) in
        let there : Contains (get_or (set bs at (get_or bs at [] ++ (m, k) ∷ [])) (bucket_of t m k) []) (m, k) = subst (λ (b : ℕ). Contains (get_or (set bs at (get_or bs at [] ++ (m, k) ∷ [])) b []) (m, k)) ea here in
        rw (en, ej) there

-- ---- what the index tells

pub index_turns : (d : ℕ) (t : List (List (List ℤ))) (m k : ℕ) (bs : List (List Facet)) → suc d ≤ k → IsIndexBelow d t m k bs → IsIndexBelow d t (suc m) 0 bs
index_turns d t m k bs lk h = record {
  count = h.count;
  each = λ n j p e. h.each n j p (wider n j p e);
  before = λ b q l. past (entry_at bs b q) (h.before b q l);
  ascending = h.ascending;
  places = h.places;
}
  where
    wider : (n j : ℕ) → j < suc d → IsBefore (n, j) (suc m, 0) → IsBefore (n, j) (m, k)
    wider n j p (inl l) = elim (cases_lt n m) [ inl q ↦ inl q | inr q ↦ inr (omega (arith, l, q), omega (arith, p, lk)) ]
    wider n j p (inr (e, l)) = absurd (omega (arith, l))

    past : (a : Facet) → IsBefore a (m, k) → IsBefore a (suc m, 0)
    past a (inl l) = inl (omega (arith, l))
    past a (inr (e, l)) = inl (omega (arith, e))

pub index_places : (d : ℕ) (t : List (List (List ℤ))) (bs : List (List Facet)) (b : ℕ) → IsIndex d t bs → ArePlaces d t (get_or bs b [])
index_places d t bs b h q l = (inside (entry_at bs b q) (h.before b q l), h.places b q l)
  where
    inside : (a : Facet) → IsBefore a (length t, 0) → a.0 < length t
    inside a (inl l) = l
    inside a (inr (e, l)) = absurd (omega (arith, l))

-- a facet that lies across stands in the bucket
stands : (d : ℕ) (t : List (List (List ℤ))) (bs : List (List Facet)) (n i m j : ℕ) (p : List ℤ) → AreClasses d t → IsIndex d t bs → m < length t → j < suc d → IsFacing d (get_or t n []) i (get_or t m []) p j → Contains (get_or bs (bucket_of t n i) []) (m, j)
stands d t bs n i m j p h x lm lj f =
    let k : IsClass d (get_or t m []) = h.classes (get_or t m []) (Contains-get_or t m [] lm) in
    subst (λ (b : ℕ). Contains (get_or bs b []) (m, j)) (same_bucket d t n i m j p k.simplex.points f) (x.each m j lj (inl lm))

pub none_found : (d : ℕ) (t : List (List (List ℤ))) (bs : List (List Facet)) (n i : ℕ) → AreClasses d t → IsIndex d t bs → AreNotFacing d t (get_or t n []) i (get_or bs (bucket_of t n i) []) (length (get_or bs (bucket_of t n i) [])) → IsOpen d t (get_or t n []) i
none_found d t bs n i h x none m j lm lj p f = at (stands d t bs n i m j p h x lm lj f)
  where
    fs : List Facet
    fs = get_or bs (bucket_of t n i) []

    at : Contains fs (m, j) → ⊥
    at (q, lq, e) =
        let e' : get_or fs q (0, 0) ≡ (m, j) = get_or_default fs q (0, 0) (m, j) lq ∙ e in
        none q lq p (subst (λ (a : Facet). IsFacing d (get_or t n []) i (get_or t a.0 []) p a.1) (sym e') f)

pub first_found : (d : ℕ) (t : List (List (List ℤ))) (bs : List (List Facet)) (n i : ℕ) (w : Wall) → AreClasses d t → IsIndex d t bs → IsFirstIn d t (get_or t n []) i (get_or bs (bucket_of t n i) []) w → IsWall d t (get_or t n []) i w
first_found d t bs n i w h x f = record {
  scale = told.scale;
  coefficients = told.coefficients;
  first = record {
    member = member;
    place = place;
    facing = told.facing;
    earlier = λ m k lm lk. not m k (omega (arith, lm, member)) lk (inl lm);
    before = λ k lk. not w.class k member (omega (arith, lk, place)) (inr (refl, lk));
  };
  outer = told.outer;
  numbers = told.numbers;
}
  where
    fs : List Facet
    fs = get_or bs (bucket_of t n i) []

    found : Facet
    found = get_or fs f.at (0, 0)

    entry : found ≡ (w.class, w.vertex)
    entry = ap₂ (λ (m j : ℕ). (m, j)) (sym f.told.class) (sym f.told.vertex)

    told : IsWallTo d t (get_or t n []) i w.class w.vertex w
    told = subst (λ (a : Facet). IsWallTo d t (get_or t n []) i a.0 a.1 w) entry f.told

    member : w.class < length t
    member = subst (λ (a : Facet). a.0 < length t) entry (index_places d t bs (bucket_of t n i) x f.at f.within).0

    place : w.vertex < suc d
    place = subst (λ (a : Facet). a.1 < suc d) entry (index_places d t bs (bucket_of t n i) x f.at f.within).1

    not : (m k : ℕ) → m < length t → k < suc d → IsBefore (m, k) (w.class, w.vertex) → IsNotFacing d (get_or t n []) i (get_or t m []) k
    not m k lm lk e r g = at (stands d t bs n i m k r h x lm lk g)
      where
        at : Contains fs (m, k) → ⊥
        at (q, lq, c) =
            let c' : get_or fs q (0, 0) ≡ (m, k) = get_or_default fs q (0, 0) (m, k) lq ∙ c in
            elim (cases_order q f.at) [
              | inl same ↦ not_itself (w.class, w.vertex) (subst (λ (a : Facet). IsBefore a (w.class, w.vertex)) (sym c' ∙ ap (λ y. get_or fs y (0, 0)) same ∙ entry) e)
              | inr (inl less) ↦ f.before q less r (subst (λ (a : Facet). IsFacing d (get_or t n []) i (get_or t a.0 []) r a.1) (sym c') g)
              | inr (inr more) ↦ not_both (m, k) (w.class, w.vertex) e (subst (λ (a : Facet). IsBefore a (m, k)) entry (subst (λ (a : Facet). IsBefore found a) c' (x.ascending (bucket_of t n i) f.at q more lq)))
            ]

pub first_of_all : (d : ℕ) (t : List (List (List ℤ))) (bs : List (List Facet)) (n i : ℕ) → AreClasses d t → IsIndex d t bs → (r : Option Wall) →
    IsFirstAnswer d t (get_or t n []) i (get_or bs (bucket_of t n i) []) r → IsAcrossAnswer d t (get_or t n []) i r
first_of_all d t bs n i h x None k = none_found d t bs n i h x k
first_of_all d t bs n i h x (Some w) k = first_found d t bs n i w h x k

-- ---- buckets as they are kept

pub bucket_at : {Z : Type 0} (vs : List (Vec Facet Z)) (b : ℕ) (v : Vec Facet Z) → b < length (buckets_of vs) → v ≡ get_or vs b v → get_or (buckets_of vs) b [] ≡ v.items
bucket_at {Z} vs b v l e =
    let items : Vec Facet Z → List Facet = λ (w : Vec Facet Z). w.items in
    get_or-map items vs b v [] (omega (arith, l, length-map vs items)) ∙ ap items (sym e)

pub bucket_put : {Z : Type 0} (vs : List (Vec Facet Z)) (b : ℕ) (v w : Vec Facet Z) (x : Facet) → b < length (buckets_of vs) → v ≡ get_or vs b v → w.items ≡ v.items ++ x ∷ [] → buckets_of (set vs b w) ≡ set (buckets_of vs) b (get_or (buckets_of vs) b [] ++ x ∷ [])
bucket_put {Z} vs b v w x l e f =
    let items : Vec Facet Z → List Facet = λ (u : Vec Facet Z). u.items in
    map-set items vs b w ∙ ap (set (buckets_of vs) b) (f ∙ ap (λ y. y ++ x ∷ []) (sym (bucket_at vs b v l e)))
