-- What a search through all members tells of two triangulations.
use Rattle.std.proofs.Common.{◌≡◌, ◌<◌, ◌*◌, ℕ, ℤ, sym, ◌∙◌, subst, List, [], length, get_or}
use Rattle.std.specs.Prelude.{Option, Some, None, IfSome, MatchOption}
use Rattle.std.specs.List.{Contains}
use Rattle.std.proofs.lemmas.List.{get_or_default}
use Rattle.lt_model.specs.Flat.{rows}
use Rattle.lt_model.specs.Matrices.{AreEquivalent}
use Rattle.lt_geometry.specs.Carrying.{IsFromAnOrder}
use Rattle.lt_geometry.proofs.Candidates.{carries_is_candidate}
use Rattle.lt_triang.specs.Kept.{IsTriangulation, dimension_of}
use Rattle.lt_match.specs.Matches.{HasNoMatch, IsMatch, IsFirstMatch}
use Rattle.lt_match.proofs.Tested.{dimension_is, first_member}

module _ (d : ℕ) (t t2 : List (List (List ℤ))) where
  abbrev pub HasNone : ℕ → Type 0
  HasNone n = (q : List ℕ) → HasNoMatch d t t2 (get_or t2 n []) q

  -- what carries is a match of some member
  pub none_equivalent : IsTriangulation d t → ((n : ℕ) → n < length t2 → HasNone n) → AreEquivalent d t t2 → ⊥
  none_equivalent h none (u, k) = at (carries_is_candidate d u t t2 (get_or t 0 []) h.classes k (first_member d t h))
    where
      at : IsFromAnOrder d t2 (get_or t 0 []) (u) → ⊥
      at o = by o.member
        where
          by : Contains t2 o.to → ⊥
          by (n, p, e) = none n p o.order u (subst (λ (s : List (List ℤ)). IsMatch d t t2 s o.order u) (sym (get_or_default t2 n [] o.to p ∙ e)) (record { order = o.is_order; candidate = o.candidate; carries = k }))

-- an answer in the dimension that the classes tell
pub size_told : (d : ℕ) (t : List (List (List ℤ))) (r : Option (List ℤ)) (N : Type 0) (F : List ℤ → Type 0) → IsTriangulation d t → MatchOption r N (λ u. (length u ≡ d * d) × F u) → IfSome r (λ u. length u ≡ dimension_of t * dimension_of t)
size_told d t None N F h k = tt
size_told d t (Some u) N F h k = subst (λ (n : ℕ). length u ≡ n * n) (sym (dimension_is d t h)) k.0

pub first_told : (d : ℕ) (t t2 : List (List (List ℤ))) (r : Option (List ℤ)) → IsTriangulation d t → MatchOption r ((n : ℕ) → n < length t2 → HasNone d t t2 n) (λ u. (length u ≡ d * d) × IsFirstMatch d t t2 (rows d u)) → MatchOption r (AreEquivalent (dimension_of t) t t2 → ⊥) (λ u. IsFirstMatch (dimension_of t) t t2 (rows (dimension_of t) u))
first_told d t t2 None h k = subst (λ (n : ℕ). AreEquivalent n t t2 → ⊥) (sym (dimension_is d t h)) (none_equivalent d t t2 h k)
first_told d t t2 (Some u) h k = subst (λ (n : ℕ). IsFirstMatch n t t2 (rows n u)) (sym (dimension_is d t h)) k.1
