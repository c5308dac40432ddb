-- One more class of two ascending lists that are merged.
use Rattle.std.proofs.Common.{◌≡◌, ℕ, ℤ, ◌<◌, ◌≤◌, ◌+◌, arith, ap, sym, ◌∙◌, subst, List, [], ◌∷◌, ◌++◌, length, get_or, take, ◌⊎◌, inl, inr, ◌↔◌}
use Rattle.std.specs.declared.cmp.Ordering.TheVariants.{Less, Equal, Greater}
use Rattle.std.specs.Ordering.{ordering_reverse}
use Rattle.std.specs.List.{Contains, AllByRecursion}
use Rattle.std.specs.List.Sorted.{IsStrictlySortedBy}
use Rattle.std.proofs.lemmas.Bool.{cases_lt}
use Rattle.std.proofs.lemmas.List.{get_or-map, length-map, take_more, take_all}
use Rattle.std.proofs.lemmas.List.Elements.{Contains-push, Contains-push_cases, Contains-append_left}
use Rattle.std.proofs.lemmas.Map.Keys.{Less-from_sorted}
use Rattle.lt_model.specs.Order.{simplex_cmp}
use Rattle.lt_model.proofs.Sets.{Contains-head, Contains-tail, Contains-none, simplex_cmp_total}
use Rattle.lt_triang.proofs.Tied.{equal_lists}
use Rattle.lt_flip.specs.Merged.{classes_at, AreBefore, AreMergedBelow, AreMerged}

-- ---- places

pub class_at : (t : List (List (List ℤ))) (kept : List ℕ) (m : ℕ) → m < length kept → get_or t (get_or kept m 0) [] ≡ get_or (classes_at t kept) m []
class_at t kept m h = sym (get_or-map (λ k. get_or t k []) kept m 0 [] h)

pub count_at : (t : List (List (List ℤ))) (kept : List ℕ) → length (classes_at t kept) ≡ length kept
count_at t kept = length-map kept (λ k. get_or t k [])

-- ---- order

-- a class that comes after all others goes to the end
pub ascending_more : (all : List (List (List ℤ))) (x : List (List ℤ)) → IsStrictlySortedBy simplex_cmp all → ((s : List (List ℤ)) → Contains all s → simplex_cmp s x ≡ Less) → IsStrictlySortedBy simplex_cmp (all ++ x ∷ [])
unfolding IsStrictlySortedBy
ascending_more [] x up h = (tt, tt)
ascending_more (s ∷ all) x up h = (last s all up.0 (h s (Contains-head s all)), ascending_more all x up.1 (λ r c. h r (Contains-tail s all r c)))
  where
    last : (s : List (List ℤ)) (rest : List (List (List ℤ))) → AllByRecursion (λ y. simplex_cmp s y ≡ Less) rest → simplex_cmp s x ≡ Less → AllByRecursion (λ y. simplex_cmp s y ≡ Less) (rest ++ x ∷ [])
    last s [] a l = (l, tt)
    last s (y ∷ rest) a l = (a.0, last s rest a.1 l)

-- what comes before the member at a place comes before those from there on
pub before_rest : (x : List (List ℤ)) (ys : List (List (List ℤ))) (k i : ℕ) → IsStrictlySortedBy simplex_cmp ys → simplex_cmp x (get_or ys k []) ≡ Less → k ≤ i → i < length ys → simplex_cmp x (get_or ys i []) ≡ Less
before_rest x ys k i up l h hi =
    elim (cases_lt k i) [
      | inl after ↦ simplex_cmp_total.trans x (get_or ys k []) (get_or ys i []) l (Less-from_sorted simplex_cmp ys k i [] up after hi)
      | inr same ↦ let e : k ≡ i = omega arith in subst (λ (j : ℕ). simplex_cmp x (get_or ys j []) ≡ Less) e l
    ]

other_way : (x y : List (List ℤ)) → simplex_cmp x y ≡ Greater → simplex_cmp y x ≡ Less
other_way x y h = simplex_cmp_total.antisymm y x ∙ ap ordering_reverse h

-- ---- steps

pub none_merged : (xs ys : List (List (List ℤ))) → AreMergedBelow xs ys 0 0 []
unfolding IsStrictlySortedBy
none_merged xs ys = record {
  first = omega arith;
  second = omega arith;
  ascending = tt;
  members = λ s. (λ c. Contains-none s c, λ c. elim c [ inl a ↦ Contains-none s a | inr b ↦ Contains-none s b ]);
  before_first = λ s i c. Contains-none s c;
  before_second = λ s i c. Contains-none s c;
}

-- the members of a list up to the next place
front_more : (xs : List (List (List ℤ))) (m : ℕ) (s : List (List ℤ)) → m < length xs → Contains (take (m + 1) xs) s ↔ (Contains (take m xs) s ⊎ (get_or xs m [] ≡ s))
front_more xs m s h = (
  λ c. Contains-push_cases (take m xs) (get_or xs m []) s (subst (λ (l : List (List (List ℤ))). Contains l s) (take_more xs m [] h) c),
  λ c. subst (λ (l : List (List (List ℤ))). Contains l s) (sym (take_more xs m [] h)) (elim c [ inl a ↦ Contains-append_left (take m xs) (get_or xs m [] ∷ []) s a | inr e ↦ subst (Contains (take m xs ++ get_or xs m [] ∷ [])) e (Contains-push (take m xs) (get_or xs m [])) ]),
)

before_more : (all : List (List (List ℤ))) (x : List (List ℤ)) (xs : List (List (List ℤ))) (m n : ℕ) → m ≤ n → AreBefore all xs m → ((i : ℕ) → n ≤ i → i < length xs → simplex_cmp x (get_or xs i []) ≡ Less) → AreBefore (all ++ x ∷ []) xs n
before_more all x xs m n le h f s i c l hi =
    elim (Contains-push_cases all x s c) [
      | inl a ↦ h s i a (omega (arith, le, l)) hi
      | inr e ↦ subst (λ (r : List (List ℤ)). simplex_cmp r (get_or xs i []) ≡ Less) e (f i l hi)
    ]

pub turned : (xs ys : List (List (List ℤ))) (m k : ℕ) (all : List (List (List ℤ))) → AreMergedBelow xs ys m k all → AreMergedBelow ys xs k m all
turned xs ys m k all h = record {
  first = h.second;
  second = h.first;
  ascending = h.ascending;
  members = λ s. (λ c. elim ((h.members s).0 c) [ inl a ↦ inr a | inr b ↦ inl b ], λ c. (h.members s).1 (elim c [ inl a ↦ inr a | inr b ↦ inl b ]));
  before_first = h.before_second;
  before_second = h.before_first;
}

-- the next member of the first list, which comes before the rest of the second
pub first_more : (xs ys : List (List (List ℤ))) (m k : ℕ) (all : List (List (List ℤ))) → IsStrictlySortedBy simplex_cmp xs → m < length xs → ((i : ℕ) → k ≤ i → i < length ys → simplex_cmp (get_or xs m []) (get_or ys i []) ≡ Less) → AreMergedBelow xs ys m k all → AreMergedBelow xs ys (m + 1) k (all ++ get_or xs m [] ∷ [])
first_more xs ys m k all up hm f h = record {
  first = omega arith;
  second = h.second;
  ascending = ascending_more all x h.ascending (λ s c. h.before_first s m c (omega arith) hm);
  members = λ s. (to s, from s);
  before_first = before_more all x xs m (m + 1) (omega arith) h.before_first (λ i l hi. Less-from_sorted simplex_cmp xs m i [] up (omega arith) hi);
  before_second = before_more all x ys k k (omega arith) h.before_second f;
}
  where
    x : List (List ℤ)
    x = get_or xs m []

    to : (s : List (List ℤ)) → Contains (all ++ x ∷ []) s → Contains (take (m + 1) xs) s ⊎ Contains (take k ys) s
    to s c = elim (Contains-push_cases all x s c) [
      | inl a ↦ elim ((h.members s).0 a) [ inl p ↦ inl ((front_more xs m s hm).1 (inl p)) | inr q ↦ inr q ]
      | inr e ↦ inl ((front_more xs m s hm).1 (inr e))
    ]

    from : (s : List (List ℤ)) → Contains (take (m + 1) xs) s ⊎ Contains (take k ys) s → Contains (all ++ x ∷ []) s
    from s (inl p) = elim ((front_more xs m s hm).0 p) [ inl a ↦ Contains-append_left all (x ∷ []) s ((h.members s).1 (inl a)) | inr e ↦ subst (Contains (all ++ x ∷ [])) e (Contains-push all x) ]
    from s (inr q) = Contains-append_left all (x ∷ []) s ((h.members s).1 (inr q))

-- the next member of the second list, which comes before the rest of the first
second_more : (xs ys : List (List (List ℤ))) (m k : ℕ) (all : List (List (List ℤ))) → IsStrictlySortedBy simplex_cmp ys → k < length ys → ((i : ℕ) → m ≤ i → i < length xs → simplex_cmp (get_or ys k []) (get_or xs i []) ≡ Less) → AreMergedBelow xs ys m k all → AreMergedBelow xs ys m (k + 1) (all ++ get_or ys k [] ∷ [])
second_more xs ys m k all up hk f h = turned ys xs (k + 1) m (all ++ get_or ys k [] ∷ []) (first_more ys xs k m all up hk f (turned xs ys m k all h))

-- ---- by the order of the next members

pub below_more : (xs ys : List (List (List ℤ))) (m k : ℕ) (all : List (List (List ℤ))) → IsStrictlySortedBy simplex_cmp xs → IsStrictlySortedBy simplex_cmp ys → m < length xs → simplex_cmp (get_or xs m []) (get_or ys k []) ≡ Less → AreMergedBelow xs ys m k all → AreMergedBelow xs ys (m + 1) k (all ++ get_or xs m [] ∷ [])
below_more xs ys m k all up rise hm l h = first_more xs ys m k all up hm (λ i p hi. before_rest (get_or xs m []) ys k i rise l p hi) h

pub above_more : (xs ys : List (List (List ℤ))) (m k : ℕ) (all : List (List (List ℤ))) → IsStrictlySortedBy simplex_cmp xs → IsStrictlySortedBy simplex_cmp ys → k < length ys → simplex_cmp (get_or xs m []) (get_or ys k []) ≡ Greater → AreMergedBelow xs ys m k all → AreMergedBelow xs ys m (k + 1) (all ++ get_or ys k [] ∷ [])
above_more xs ys m k all up rise hk g h = second_more xs ys m k all rise hk (λ i p hi. before_rest (get_or ys k []) xs m i up (other_way (get_or xs m []) (get_or ys k []) g) p hi) h

pub end_more : (xs ys : List (List (List ℤ))) (m k : ℕ) (all : List (List (List ℤ))) → IsStrictlySortedBy simplex_cmp ys → k < length ys → length xs ≤ m → AreMergedBelow xs ys m k all → AreMergedBelow xs ys m (k + 1) (all ++ get_or ys k [] ∷ [])
end_more xs ys m k all rise hk e h = second_more xs ys m k all rise hk (λ i p hi. absurd (omega (arith, p, hi, e))) h

-- equal ones go in once
pub both_more : (xs ys : List (List (List ℤ))) (m k : ℕ) (all : List (List (List ℤ))) → IsStrictlySortedBy simplex_cmp xs → IsStrictlySortedBy simplex_cmp ys → m < length xs → k < length ys → simplex_cmp (get_or xs m []) (get_or ys k []) ≡ Equal → AreMergedBelow xs ys m k all → AreMergedBelow xs ys (m + 1) (k + 1) (all ++ get_or ys k [] ∷ [])
both_more xs ys m k all up rise hm hk e h = record {
  first = omega arith;
  second = omega arith;
  ascending = ascending_more all y h.ascending (λ s c. h.before_second s k c (omega arith) hk);
  members = λ s. (to s, from s);
  before_first = before_more all y xs m (m + 1) (omega arith) h.before_first (λ i l hi. subst (λ (r : List (List ℤ)). simplex_cmp r (get_or xs i []) ≡ Less) same (Less-from_sorted simplex_cmp xs m i [] up (omega arith) hi));
  before_second = before_more all y ys k (k + 1) (omega arith) h.before_second (λ i l hi. Less-from_sorted simplex_cmp ys k i [] rise (omega arith) hi);
}
  where
    y : List (List ℤ)
    y = get_or ys k []

    same : get_or xs m [] ≡ y
    same = equal_lists (get_or xs m []) y e

    to : (s : List (List ℤ)) → Contains (all ++ y ∷ []) s → Contains (take (m + 1) xs) s ⊎ Contains (take (k + 1) ys) s
    to s c = elim (Contains-push_cases all y s c) [
      | inl a ↦ elim ((h.members s).0 a) [ inl p ↦ inl ((front_more xs m s hm).1 (inl p)) | inr q ↦ inr ((front_more ys k s hk).1 (inl q)) ]
      | inr f ↦ inr ((front_more ys k s hk).1 (inr f))
    ]

    from : (s : List (List ℤ)) → Contains (take (m + 1) xs) s ⊎ Contains (take (k + 1) ys) s → Contains (all ++ y ∷ []) s
    from s (inl p) = elim ((front_more xs m s hm).0 p) [ inl a ↦ Contains-append_left all (y ∷ []) s ((h.members s).1 (inl a)) | inr f ↦ subst (Contains (all ++ y ∷ [])) (sym same ∙ f) (Contains-push all y) ]
    from s (inr q) = elim ((front_more ys k s hk).0 q) [ inl a ↦ Contains-append_left all (y ∷ []) s ((h.members s).1 (inr a)) | inr f ↦ subst (Contains (all ++ y ∷ [])) f (Contains-push all y) ]

-- both to their ends
pub all_merged : (xs ys : List (List (List ℤ))) (m k : ℕ) (all : List (List (List ℤ))) → length xs ≤ m → length ys ≤ k → AreMergedBelow xs ys m k all → AreMerged xs ys all
all_merged xs ys m k all hm hk h = record {
  ascending = h.ascending;
  members = subst (λ (l : List (List (List ℤ))). (s : List (List ℤ)) → Contains all s ↔ (Contains l s ⊎ Contains ys s)) (take_all m xs hm)
      (subst (λ (l : List (List (List ℤ))). (s : List (List ℤ)) → Contains all s ↔ (Contains (take m xs) s ⊎ Contains l s)) (take_all k ys hk) h.members);
}
