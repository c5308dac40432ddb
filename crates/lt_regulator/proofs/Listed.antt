-- The regulators of the facets, member by member and facet by facet; sorted, they are the regulators of the triangulation.
use Rattle.std.proofs.Common.{◌≡◌, ℕ, zero, suc, ℤ, negsuc, ◌+◌, ◌<◌, ◌≤◌, refl, arith, sym, ◌∙◌, subst, List, [], ◌∷◌, ◌++◌, length, get_or, inl, inr, ◌↔◌}
use Rattle.std.specs.List.{Contains}
use Rattle.std.specs.List.Sorted.{IsStrictlySortedBy}
use Rattle.std.proofs.lemmas.Bool.{cases_lt}
use Rattle.std.proofs.lemmas.List.Elements.{Contains-get_or, Contains-push_cases}
use Rattle.lt_model.proofs.Sets.{Contains-none}
use Rattle.lt_model.specs.Order.{number_list_cmp}
use Rattle.lt_model.specs.Facets.{IsNeighbour}
use Rattle.lt_model.specs.Vectors.{scale}
use Rattle.lt_model.specs.Triangulations.{IsDelaunay}
use Rattle.lt_model.specs.Walls.{IsRegulator, AreRegulators}
use Rattle.lt_geometry.specs.Regulators.{IsRegulatorAt}
use Rattle.lt_geometry.proofs.Regulators.{all_regulators, one_regulator, mutual_regulator}
use Rattle.lt_geometry.proofs.Sides.{mutual_neighbour}
use Rattle.lt_triang.specs.Across.{IsFirstAcross}
use Rattle.lt_triang.specs.Kept.{dimension_of}
use Rattle.lt_triang.proofs.Made.{neighbour_from}
use Rattle.lt_regulator.specs.Regulated.{HasRegulatorsOf, HasRegulatorsBelow}

-- the regulators of the members before m, and those of the first facets of m
pub record IsListed (t : List (List (List ℤ))) (m facets : ℕ) (ns : List (List ℤ)) : Type 0 where
  pub below : HasRegulatorsBelow t m ns
  pub own : HasRegulatorsOf t m facets ns

last_is : (ns : List (List ℤ)) (n : List ℤ) → Contains (ns ++ n ∷ []) n
last_is [] n = (0, omega arith, refl)
last_is (x ∷ ns) n = let r = last_is ns n in (suc r.0, omega (arith, r.1), r.2)

front_is : (ns : List (List ℤ)) (n x : List ℤ) → Contains ns x → Contains (ns ++ n ∷ []) x
front_is [] n x c = Contains-none x c
front_is (y ∷ ns) n x (zero, p, e) = (0, omega arith, e)
front_is (y ∷ ns) n x (suc k, p, e) = let r = front_is ns n x (k, omega arith, e) in (suc r.0, omega (arith, r.1), r.2)

kept : (t : List (List (List ℤ))) (m facets : ℕ) (ns : List (List ℤ)) (n : List ℤ) → HasRegulatorsOf t m facets ns → HasRegulatorsOf t m facets (ns ++ n ∷ [])
kept t m facets ns n h = record { each = λ i p. let r = h.each i p in (r.0, front_is ns n r.0 r.1, r.2) }

-- one regulator more
pub listed_more : (t : List (List (List ℤ))) (m i : ℕ) (ns : List (List ℤ)) (n : List ℤ) → IsListed t m i ns → m < length t → i < suc (dimension_of t) → IsRegulatorAt (dimension_of t) t (get_or t m []) i n → IsListed t m (i + 1) (ns ++ n ∷ [])
listed_more t m i ns n h lm li r = record {
  below = record {
    only = λ x c. elim (Contains-push_cases ns n x c) [ inl b ↦ h.below.only x b | inr e ↦ subst (λ (y : List ℤ). IsRegulator (dimension_of t) t y) e new ];
    all = λ k p. kept t k (suc (dimension_of t)) ns n (h.below.all k p);
  };
  own = record { each = λ k p. each k p };
}
  where
    new : IsRegulator (dimension_of t) t n
    new = (all_regulators (dimension_of t) t n).1 (get_or t m [], i, Contains-get_or t m [] lm, li, r)

    each : (k : ℕ) → k < i + 1 → (x : List ℤ) × Contains (ns ++ n ∷ []) x × IsRegulatorAt (dimension_of t) t (get_or t m []) k x
    each k p =
        elim (cases_lt k i) [
          | inl l ↦ (let s = h.own.each k l in (s.0, front_is ns n s.0 s.1, s.2))
          | inr l ↦ (n, last_is ns n, let e : i ≡ k = omega (arith, l, p) in subst (λ (z : ℕ). IsRegulatorAt (dimension_of t) t (get_or t m []) z n) e r)
        ]

-- a facet that the member shares with an earlier one has its regulator there
pub listed_before : (q : List ℤ) (t : List (List (List ℤ))) (m i n : ℕ) (p : List ℤ) (j : ℕ) (ns : List (List ℤ)) → IsDelaunay (dimension_of t) q t → IsListed t m i ns → m < length t → i < suc (dimension_of t) → n < m →
    IsFirstAcross (dimension_of t) t (get_or t m []) i n p j → IsListed t m (i + 1) ns
listed_before q t m i n p j ns k h lm li before f = record { below = h.below; own = record { each = λ e l. each e l } }
  where
    d : ℕ
    d = dimension_of t

    there : (x : List ℤ) × Contains ns x × IsRegulatorAt d t (get_or t n []) j x
    there = (h.below.all n before).each j f.place

    back : IsNeighbour d t (get_or t n []) j (get_or t m []) (scale (negsuc 0) p) i
    back = mutual_neighbour d q t (get_or t m []) i (get_or t n []) p j k (Contains-get_or t m [] lm) li (neighbour_from d t (get_or t m []) i n p j f)

    here : IsRegulatorAt d t (get_or t m []) i there.0
    here = mutual_regulator d q t (get_or t n []) j (get_or t m []) (scale (negsuc 0) p) i there.0 k (Contains-get_or t n [] f.member) f.place back there.2

    each : (e : ℕ) → e < i + 1 → (x : List ℤ) × Contains ns x × IsRegulatorAt d t (get_or t m []) e x
    each e l =
        elim (cases_lt e i) [
          | inl b ↦ h.own.each e b
          | inr b ↦ (there.0, there.1, let same : i ≡ e = omega (arith, b, l) in subst (λ (z : ℕ). IsRegulatorAt d t (get_or t m []) z there.0) same here)
        ]

-- all facets of the member
pub listed_whole : (t : List (List (List ℤ))) (m i : ℕ) (ns : List (List ℤ)) → IsListed t m i ns → suc (dimension_of t) ≤ i → HasRegulatorsBelow t (suc m) ns
listed_whole t m i ns h p = record { only = h.below.only; all = λ k q. elim (cases_lt k m) [ inl l ↦ h.below.all k l | inr l ↦ subst (λ (z : ℕ). HasRegulatorsOf t z (suc (dimension_of t)) ns) (same k l q) own ] }
  where
    same : (k : ℕ) → m ≤ k → k < suc m → m ≡ k
    same k l q = omega arith

    own : HasRegulatorsOf t m (suc (dimension_of t)) ns
    own = record { each = λ j q. h.own.each j (omega (arith, p, q)) }

get_default : (t : List (List (List ℤ))) (k : ℕ) (s : List (List ℤ)) → k < length t → get_or t k s ≡ get_or t k []
get_default [] k s p = absurd (omega arith)
get_default (x ∷ t) zero s p = refl
get_default (x ∷ t) (suc k) s p = get_default t k s (omega arith)

-- sorted and distinct, they are the regulators
pub are_regulators : (q : List ℤ) (t : List (List (List ℤ))) (all ns : List (List ℤ)) → IsDelaunay (dimension_of t) q t → HasRegulatorsBelow t (length t) all → IsStrictlySortedBy number_list_cmp ns → ((n : List ℤ) → Contains ns n ↔ Contains all n) → AreRegulators (dimension_of t) t ns
are_regulators q t all ns k h up same = record { ascending = up; members = λ n. (λ c. h.only n ((same n).0 c), λ r. (same n).1 (held n ((all_regulators (dimension_of t) t n).0 r))) }
  where
    held : (n : List ℤ) → (s : List (List ℤ)) × (i : ℕ) × Contains t s × (i < suc (dimension_of t)) × IsRegulatorAt (dimension_of t) t s i n → Contains all n
    held n (s, i, (m, p, e), hi, r) =
        let is : get_or t m [] ≡ s = sym (get_default t m s p) ∙ e in
        let f = (h.all m p).each i hi in
        let r' : IsRegulatorAt (dimension_of t) t s i f.0 = subst (λ (z : List (List ℤ)). IsRegulatorAt (dimension_of t) t z i f.0) is f.2 in
        subst (λ (x : List ℤ). Contains all x) (one_regulator (dimension_of t) q t s i f.0 n k (m, p, e) hi r' r) f.1
