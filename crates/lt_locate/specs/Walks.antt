-- The walk of a form across facets, from the principal triangulation.
use Rattle.std.specs.Prelude.{ℕ, zero, suc, ℤ, pos, ◌<ℤ◌, ◌≡◌, List}
use Rattle.lt_model.specs.Vectors.{dot}
use Rattle.lt_model.specs.Principal.{IsPrincipal}
use Rattle.lt_model.specs.Walls.{IsFacet, IsAcross}
use Rattle.lt_locate.specs.Firsts.{IsFirst}

-- a facet that is negative at q, and one that is 0 there
abbrev pub IsNegativeFacet : ℕ → List (List (List ℤ)) → List ℤ → List ℤ → Type 0
IsNegativeFacet d t q n = IsFacet d t n × (dot n q <ℤ pos 0)

abbrev pub IsZeroFacet : ℕ → List (List (List ℤ)) → List ℤ → List ℤ → Type 0
IsZeroFacet d t q n = IsFacet d t n × (dot n q ≡ pos 0)

-- i crossings lead to t: none to the principal triangulation, and one more to what lies across the first facet that is
-- negative at q
abbrev pub IsWalked : ℕ → List ℤ → ℕ → List (List (List ℤ)) → Type 0
IsWalked d q zero t = IsPrincipal d t
IsWalked d q (suc i) t = (s : List (List (List ℤ))) × (n : List ℤ) × IsWalked d q i s
    × IsFirst (IsNegativeFacet d s q) n × IsAcross d s n t
