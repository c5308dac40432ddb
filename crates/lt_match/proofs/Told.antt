-- What the first neighbour at a facet of a member says.
use Rattle.std.proofs.Common.{◌≡◌, ◌<◌, ◌-◌, ◌∙◌, suc, ℕ, ℤ, List, [], length, get_or, arith, subst}
use Rattle.lt_model.specs.Facets.{IsNeighbour}
use Rattle.lt_triang.specs.Across.{IsFirstAcross}
use Rattle.lt_triang.specs.Kept.{IsTriangulation, dimension_of}
use Rattle.lt_triang.proofs.Expressed.{dimension_is, member_dimension}
use Rattle.lt_triang.proofs.Made.{neighbour_from}

less_one : (d n : ℕ) → n ≡ suc d → n - 1 ≡ d
less_one d n e = omega arith

pub told : (d m i n : ℕ) (t : List (List (List ℤ))) (p : List ℤ) (j : ℕ) → IsTriangulation d t → m < length t → IsFirstAcross (length (get_or t m []) - 1) t (get_or t m []) i n p j → IsNeighbour (dimension_of t) t (get_or t m []) i (get_or t n []) p j
told d m i n t p j h lm f =
    subst (λ (e : ℕ). IsNeighbour e t (get_or t m []) i (get_or t n []) p j) (less_one d (length (get_or t m [])) (member_dimension d t m h lm) ∙ dimension_is d t h) (neighbour_from (length (get_or t m []) - 1) t (get_or t m []) i n p j f)
