-- What the flip keeps and makes of each member, one after the other, are the classes of the flip.
use Rattle.std.proofs.Common.{◌≡◌, ℕ, suc, ℤ, pos, negsuc, ◌<◌, ◌≤◌, arith, sym, ◌∙◌, subst, List, [], ◌∷◌, ◌++◌, length, get_or, ◌⊎◌, inl, inr, ◌↔◌}
use Rattle.std.specs.declared.cmp.Ordering.TheVariants.{Less}
use Rattle.std.specs.List.{Contains, All}
use Rattle.std.specs.List.Sorted.{IsStrictlySortedBy}
use Rattle.std.proofs.lemmas.List.{get_or_default, map-append}
use Rattle.std.proofs.lemmas.List.Elements.{Contains-get_or, Contains-push, Contains-push_cases, Contains-append_left, Contains-append_right, Contains-append_cases, All-push}
use Rattle.std.proofs.lemmas.Map.Keys.{Less-from_sorted}
use borrow.Author.Count.{below_more}
use Rattle.lt_model.specs.Order.{simplex_cmp}
use Rattle.lt_model.proofs.Sets.{Contains-none}
use Rattle.lt_model.specs.Simplices.{IsExpression}
use Rattle.lt_model.specs.Triangulations.{IsDelaunay}
use Rattle.lt_model.specs.Walls.{IsFacet}
use Rattle.lt_model.specs.Flips.{IsExchanged, IsFlipOf}
use Rattle.lt_geometry.specs.Regulators.{outer_vertex}
use Rattle.lt_geometry.specs.Exchanges.{IsMadeFrom}
use Rattle.lt_geometry.proofs.ExchangeLaws.{taken_out, exchanged_members, made as is_made, all_made}
use Rattle.lt_flip.specs.Merged.{classes_at, AreMerged}
use Rattle.lt_flip.specs.Outers.{HasNoFacet, IsOuterOf}
use Rattle.lt_flip.specs.Flipped.{IsFlippedClass, HasFlipped, AreParts}
use Rattle.lt_flip.proofs.Merged.{class_at, count_at, ascending_more}

-- what is known of the triangulation and the facet
pub record IsFlippable (d : ℕ) (a : List ℤ) (t : List (List (List ℤ))) (n : List ℤ) : Type 0 where
  pub two : 2 ≤ d
  pub delaunay : IsDelaunay d a t
  pub facet : IsFacet d t n

-- what holds below m and at m holds below the next number
pub next_too : (P : ℕ → Type 0) (m : ℕ) → ((i : ℕ) → i < m → P i) → P m → (i : ℕ) → i < suc m → P i
next_too P m h p i l = below_more P m h p i (omega arith)

-- what is made of a member stays in a longer list
still_flipped : (d : ℕ) (t : List (List (List ℤ))) (n : List ℤ) (s : List (List ℤ)) (all more : List (List (List ℤ))) → ((r : List (List ℤ)) → Contains all r → Contains more r) → HasFlipped d t n s all → HasFlipped d t n s more
still_flipped d t n s all more f (inl h) = inl (h.0, f s h.1)
still_flipped d t n s all more f (inr h) = inr (record { vertex = h.vertex; scale = h.scale; coefficients = h.coefficients; outer = h.outer; each = λ k r m. f r (h.each k r m) })

-- no member is kept or made yet
pub no_parts : (d : ℕ) (t : List (List (List ℤ))) (n : List ℤ) → AreParts d t n 0 [] []
unfolding IsStrictlySortedBy
no_parts d t n = record { places = λ k x l. absurd (omega arith); ascending = tt; only = λ s c. Contains-none s c; each = λ i l. absurd (omega arith) }

places_more : (m : ℕ) (kept : List ℕ) → All (λ k. k < m) kept → All (λ k. k < suc m) kept
places_more m kept h k x l = let p : get_or kept k x < m = h k x l in omega (arith, p)

-- the members at places below m come before the one at m
come_before : (t : List (List (List ℤ))) (m : ℕ) (kept : List ℕ) → IsStrictlySortedBy simplex_cmp t → m < length t → All (λ k. k < m) kept → (s : List (List ℤ)) → Contains (classes_at t kept) s → simplex_cmp s (get_or t m []) ≡ Less
come_before t m kept up hm h s (i, l, e) =
    let li : i < length kept = subst (λ (j : ℕ). i < j) (count_at t kept) l in
    let is : get_or t (get_or kept i 0) [] ≡ s = class_at t kept i li ∙ get_or_default (classes_at t kept) i [] s l ∙ e in
    subst (λ (r : List (List ℤ)). simplex_cmp r (get_or t m []) ≡ Less) is (Less-from_sorted simplex_cmp t (get_or kept i 0) m [] up (h i 0 li) hm)

-- a member with the regulator at none of its facets is kept
pub kept_more : (d : ℕ) (a : List ℤ) (t : List (List (List ℤ))) (n : List ℤ) (m : ℕ) (kept : List ℕ) (made : List (List (List ℤ))) → IsFlippable d a t n → m < length t → AreParts d t n m kept made → HasNoFacet d t (get_or t m []) n → AreParts d t n (suc m) (kept ++ m ∷ []) made
kept_more d a t n m kept made k hm h none = record {
  places = All-push (λ j. j < suc m) kept m (places_more m kept h.places) (omega arith);
  ascending = subst (λ (l : List (List (List ℤ))). IsStrictlySortedBy simplex_cmp l) (sym longer) (ascending_more (classes_at t kept) s h.ascending (come_before t m kept k.delaunay.ascending hm h.places));
  only = λ r c. only r (subst (λ (l : List (List (List ℤ))). Contains (l ++ made) r) longer c);
  each = next_too (λ i. HasFlipped d t n (get_or t i []) (classes_at t (kept ++ m ∷ []) ++ made)) m
      (λ i l. still_flipped d t n (get_or t i []) (classes_at t kept ++ made) (classes_at t (kept ++ m ∷ []) ++ made) more (h.each i l))
      (inl (none, subst (λ (l : List (List (List ℤ))). Contains (l ++ made) s) (sym longer) (Contains-append_left (classes_at t kept ++ s ∷ []) made s (Contains-push (classes_at t kept) s))));
}
  where
    s : List (List ℤ)
    s = get_or t m []

    longer : classes_at t (kept ++ m ∷ []) ≡ classes_at t kept ++ s ∷ []
    longer = map-append (λ k. get_or t k []) kept (m ∷ [])

    more : (r : List (List ℤ)) → Contains (classes_at t kept ++ made) r → Contains (classes_at t (kept ++ m ∷ []) ++ made) r
    more r c = subst (λ (l : List (List (List ℤ))). Contains (l ++ made) r) (sym longer) (elim (Contains-append_cases (classes_at t kept) made r c) [
      | inl x ↦ Contains-append_left (classes_at t kept ++ s ∷ []) made r (Contains-append_left (classes_at t kept) (s ∷ []) r x)
      | inr x ↦ Contains-append_right (classes_at t kept ++ s ∷ []) made r x
    ])

    stays : IsExchanged d t n (pos 1) s → ⊥
    stays ex = let r = ((exchanged_members d a n t s k.two k.delaunay k.facet).0 ex).1 in none r.0 r.1 r.2

    only : (r : List (List ℤ)) → Contains ((classes_at t kept ++ s ∷ []) ++ made) r → IsFlippedClass d t n r
    only r c = elim (Contains-append_cases (classes_at t kept ++ s ∷ []) made r c) [
      | inl x ↦ elim (Contains-push_cases (classes_at t kept) s r x) [
        | inl o ↦ h.only r (Contains-append_left (classes_at t kept) made r o)
        | inr e ↦ subst (IsFlippedClass d t n) e (inl (Contains-get_or t m [] hm, stays))
      ]
      | inr x ↦ h.only r (Contains-append_right (classes_at t kept) made r x)
    ]

-- of another member the classes are made
made_more : (d : ℕ) (a : List ℤ) (t : List (List (List ℤ))) (n : List ℤ) (m : ℕ) (kept : List ℕ) (made more : List (List (List ℤ))) (w : List ℤ) (c : ℤ) (b : List ℤ) → IsFlippable d a t n → m < length t → AreParts d t n m kept made → IsOuterOf d t (get_or t m []) n w c b →
    ((r : List (List ℤ)) → Contains more r ↔ (Contains made r ⊎ ((k : ℕ) × IsMadeFrom d (get_or t m []) w b k r))) → AreParts d t n (suc m) kept more
made_more d a t n m kept made more w c b k hm h o is = record {
  places = places_more m kept h.places;
  ascending = h.ascending;
  only = λ r x. elim (Contains-append_cases keeps more r x) [
    | inl y ↦ h.only r (Contains-append_left keeps made r y)
    | inr y ↦ elim ((is r).0 y) [ inl z ↦ h.only r (Contains-append_right keeps made r z) | inr (l, z) ↦ inr (comes r l z) ]
  ];
  each = next_too (λ i. HasFlipped d t n (get_or t i []) (keeps ++ more)) m (λ i l. still_flipped d t n (get_or t i []) (keeps ++ made) (keeps ++ more) longer (h.each i l))
      (inr (record { vertex = w; scale = c; coefficients = b; outer = o; each = λ l r y. Contains-append_right keeps more r ((is r).1 (inr (l, y))) }));
}
  where
    keeps : List (List (List ℤ))
    keeps = classes_at t kept

    longer : (r : List (List ℤ)) → Contains (keeps ++ made) r → Contains (keeps ++ more) r
    longer r x = elim (Contains-append_cases keeps made r x) [
      | inl y ↦ Contains-append_left keeps more r y
      | inr y ↦ Contains-append_right keeps more r ((is r).1 (inl y))
    ]

    s : List (List ℤ)
    s = get_or t m []

    v : List ℤ
    v = outer_vertex o.outer.next o.outer.shift o.outer.outer

    comes : (r : List (List ℤ)) (l : ℕ) → IsMadeFrom d s w b l r → IsExchanged d t n (negsuc 0) r
    comes r l y =
        is_made d a n t s o.facet o.outer.next o.outer.shift o.outer.outer c b l r k.delaunay (Contains-get_or t m [] hm) o.place o.regulator o.outer.neighbour
        (subst (λ (z : List ℤ). IsExpression s z c b) o.outer.vertex o.expression) (subst (λ (z : List ℤ). IsMadeFrom d s z b l r) o.outer.vertex y)

-- the same where the call says so of equal numbers and lists
pub made_there : (d : ℕ) (a : List ℤ) (t : List (List (List ℤ))) (n : List ℤ) (m : ℕ) (kept : List ℕ) (made more : List (List (List ℤ))) (w : List ℤ) (c : ℤ) (b : List ℤ) (e : ℕ) (s : List (List ℤ)) → IsFlippable d a t n → m < length t → AreParts d t n m kept made → IsOuterOf d t (get_or t m []) n w c b →
    e ≡ d → s ≡ get_or t m [] → ((r : List (List ℤ)) → Contains more r ↔ (Contains made r ⊎ ((k : ℕ) × IsMadeFrom e s w b k r))) → AreParts d t n (suc m) kept more
made_there d a t n m kept made more w c b e s k hm h o same is f =
    made_more d a t n m kept made more w c b k hm h o
    (subst (λ (l : List (List ℤ)). (r : List (List ℤ)) → Contains more r ↔ (Contains made r ⊎ ((k : ℕ) × IsMadeFrom d l w b k r))) is
    (subst (λ (i : ℕ). (r : List (List ℤ)) → Contains more r ↔ (Contains made r ⊎ ((k : ℕ) × IsMadeFrom i s w b k r))) same f))

-- all members give all classes of the flip
all_flipped : (d : ℕ) (a : List ℤ) (t : List (List (List ℤ))) (n : List ℤ) (kept : List ℕ) (made : List (List (List ℤ))) → IsFlippable d a t n → AreParts d t n (length t) kept made → (s : List (List ℤ)) → Contains (classes_at t kept ++ made) s ↔ IsFlippedClass d t n s
all_flipped d a t n kept made k h s = (h.only s, to)
  where
    all : List (List (List ℤ))
    all = classes_at t kept ++ made

    of_member : (r : List (List ℤ)) → Contains t r → HasFlipped d t n r all
    of_member r (i, l, e) = subst (λ (z : List (List ℤ)). HasFlipped d t n z all) (get_or_default t i [] r l ∙ e) (h.each i l)

    to : IsFlippedClass d t n s → Contains all s
    to (inl (ms, stays)) =
        elim (of_member s ms) [
          | inl (none, c) ↦ c
          | inr mk ↦ absurd (stays (taken_out d a n t s mk.outer.facet k.delaunay ms mk.outer.place mk.outer.regulator))
        ]
    to (inr ex) =
        let f = all_made d a n t s k.two k.delaunay k.facet ex in
        elim (of_member f.0 f.1) [
          | inl (none, c) ↦ absurd (let r = f.2 in none r.0 r.1 r.2)
          | inr mk ↦
              (let o = mk.outer in
              let g = f.3 o.facet o.outer.next o.outer.shift o.outer.outer mk.scale mk.coefficients o.place o.regulator o.outer.neighbour (subst (λ (z : List ℤ). IsExpression f.0 z mk.scale mk.coefficients) o.outer.vertex o.expression) in
              mk.each g.0 s (subst (λ (z : List ℤ). IsMadeFrom d f.0 z mk.coefficients g.0 s) (sym o.outer.vertex) g.1))
        ]

-- merged, and the made ones sorted, they are the flip
pub flip_from : (d : ℕ) (a : List ℤ) (t : List (List (List ℤ))) (n : List ℤ) (kept : List ℕ) (made sorted all : List (List (List ℤ))) → IsFlippable d a t n → AreParts d t n (length t) kept made → ((s : List (List ℤ)) → Contains sorted s ↔ Contains made s) → AreMerged (classes_at t kept) sorted all → IsFlipOf d t n all
flip_from d a t n kept made sorted all k h same m = record { ascending = m.ascending; members = λ s. (to s, from s) }
  where
    keeps : List (List (List ℤ))
    keeps = classes_at t kept

    to : (s : List (List ℤ)) → Contains all s → IsFlippedClass d t n s
    to s c = elim ((m.members s).0 c) [
      | inl x ↦ h.only s (Contains-append_left keeps made s x)
      | inr x ↦ h.only s (Contains-append_right keeps made s ((same s).0 x))
    ]

    from : (s : List (List ℤ)) → IsFlippedClass d t n s → Contains all s
    from s f = elim (Contains-append_cases keeps made s ((all_flipped d a t n kept made k h s).1 f)) [
      | inl x ↦ (m.members s).1 (inl x)
      | inr x ↦ (m.members s).1 (inr ((same s).1 x))
    ]
