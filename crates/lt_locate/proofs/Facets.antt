-- The facets of a triangulation are the regulators of its list that have a wall form in it.
use Rattle.std.proofs.Common.{◌≡◌, ◌≢◌, ℕ, zero, suc, ℤ, pos, negsuc, ◌<ℤ◌, ◌≤ℤ◌, ◌<◌, refl, ap, arith, sym, ◌∙◌, subst, List, [], length, get_or}
use Rattle.std.proofs.lemmas.Int.{ints}
use Rattle.std.specs.List.{Contains}
use Rattle.std.proofs.lemmas.List.{get_or_default}
use Rattle.std.proofs.lemmas.List.Elements.{Contains-get_or}
use Rattle.lt_model.specs.Order.{number_list_cmp}
use Rattle.lt_model.specs.Vectors.{dot}
use Rattle.lt_model.specs.Forms.{numbers_of_form}
use Rattle.lt_model.specs.Walls.{AreRegulators, IsFacet}
use Rattle.lt_model.proofs.Sets.{number_list_cmp_total}
use Rattle.lt_lp.specs.Alternatives.{HasWallForm}
use Rattle.lt_laws.specs.Facets.{IsInside}
use Rattle.lt_locate.specs.declared.facing.Sign.{Sign}
use Rattle.lt_locate.specs.declared.facing.Sign.TheVariants.{Negative, Zero}
use Rattle.lt_locate.specs.Facing.{IsOfSign, IsMetAt, IsFirstMet}
use Rattle.lt_locate.specs.Firsts.{IsFirst}
use Rattle.lt_locate.proofs.First.{first_in}
use Rattle.lt_locate.proofs.Places.{one_place}

-- a facet of t with the sign at q
abbrev pub IsMetFacet : ℕ → List (List (List ℤ)) → List ℤ → Sign → List ℤ → Type 0
IsMetFacet d t q sign n = IsFacet d t n × IsOfSign sign (dot n q)

module _ (d : ℕ) (t : List (List (List ℤ))) (ns : List (List ℤ)) (r : AreRegulators d t ns) where
  facet_at : (k : ℕ) → k < length ns → HasWallForm (numbers_of_form d) ns k → IsFacet d t (get_or ns k [])
  facet_at k l (w, f) = (w, record { regulator = (r.members (get_or ns k [])).0 (Contains-get_or ns k [] l); numbers = f.numbers; zero_there = f.zero_there; others = λ m reg ne. other m ne ((r.members m).1 reg) })
    where
      other : (m : List ℤ) → m ≢ get_or ns k [] → Contains ns m → pos 0 <ℤ dot m w
      other m ne (j, lj, e) =
          let at : get_or ns j [] ≡ m = get_or_default ns j [] m lj ∙ e in
          subst (λ (z : List ℤ). pos 0 <ℤ dot z w) at (f.others j lj (λ s. ne (sym at ∙ ap (λ (i : ℕ). get_or ns i []) s)))

  wall_at : (k : ℕ) → k < length ns → IsFacet d t (get_or ns k []) → HasWallForm (numbers_of_form d) ns k
  wall_at k l (w, f) = (w, record { numbers = f.numbers; zero_there = f.zero_there; others = λ j lj ne. f.others (get_or ns j []) ((r.members (get_or ns j [])).0 (Contains-get_or ns j [] lj)) (λ e. ne (one_place number_list_cmp number_list_cmp_total ns j k [] r.ascending lj l e)) })

  facet_listed : (n : List ℤ) → IsFacet d t n → Contains ns n
  facet_listed n f = (r.members n).1 f.1.regulator

  module _ (q : List ℤ) (sign : Sign) where
    met_at : (k : ℕ) → k < length ns → IsMetFacet d t q sign (get_or ns k []) → IsMetAt d ns q sign k
    met_at k l f = (f.1, wall_at k l f.0)

    pub first_met : (n : List ℤ) → IsFirstMet d ns q sign n → IsFirst (IsMetFacet d t q sign) n
    first_met n f = first_in (IsMetFacet d t q sign) ns f.place n r.ascending f.within f.is (facet_at f.place f.within f.met.1, f.met.0)
        (λ j l m. (let w : j < length ns = (let b = f.within in omega arith) in f.before j l (met_at j w m))) (λ y m. facet_listed y m.0)

    pub none_met : ((k : ℕ) → k < length ns → IsMetAt d ns q sign k → ⊥) → (n : List ℤ) → IsMetFacet d t q sign n → ⊥
    none_met h n m = go (facet_listed n m.0)
      where
        go : Contains ns n → ⊥
        go (k, l, e) = h k l (met_at k l (subst (IsMetFacet d t q sign) (sym (get_or_default ns k [] n l ∙ e)) m))

-- no facet is negative
pub none_negative : (d : ℕ) (t : List (List (List ℤ))) (q : List ℤ) → ((n : List ℤ) → IsMetFacet d t q Negative n → ⊥) → (m : List ℤ) → IsFacet d t m → pos 0 ≤ℤ dot m q
none_negative d t q h m f = go (dot m q) (λ l. h m (f, l))
  where
    go : (x : ℤ) → (x <ℤ pos 0 → ⊥) → pos 0 ≤ℤ x
    go (pos m) n = omega (arith, ints)
    go (negsuc m) n = absurd (n (omega (arith, ints)))

-- nor 0
pub all_positive : (d : ℕ) (t : List (List (List ℤ))) (q : List ℤ) → ((n : List ℤ) → IsMetFacet d t q Negative n → ⊥) → ((n : List ℤ) → IsMetFacet d t q Zero n → ⊥) → IsInside d t q
all_positive d t q h k m f = go (dot m q) (λ l. h m (f, l)) (λ e. k m (f, e))
  where
    go : (x : ℤ) → (x <ℤ pos 0 → ⊥) → (x ≡ pos 0 → ⊥) → pos 0 <ℤ x
    go (pos zero) n z = absurd (z refl)
    go (pos (suc m)) n z = omega (arith, ints)
    go (negsuc m) n z = absurd (n (omega (arith, ints)))
