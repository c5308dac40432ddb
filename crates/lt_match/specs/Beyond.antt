-- Signatures of facets: that of the pair there, then that of the neighbour.
use Rattle.std.specs.Prelude.{ℕ, suc, ℤ, ◌<◌, ◌≡◌, List, [], ◌++◌, length, get_or}
use Rattle.lt_model.specs.Facets.{IsNeighbour}
use Rattle.lt_colour.specs.Signatures.{IsPairSignature, IsClassSignature}

-- the signature of the pair at facet i of s, then that of the neighbour there
pub record IsFacetSignature (d : ℕ) (t : List (List (List ℤ))) (s : List (List ℤ)) (i : ℕ) (sig : List ℤ) : Type 0 where
  pub pair : List ℤ
  pub pair_is : IsPairSignature d t s i pair
  pub next : List (List ℤ)
  pub shift : List ℤ
  pub outer : ℕ
  pub neighbour : IsNeighbour d t s i next shift outer
  pub beyond : List ℤ
  pub beyond_is : IsClassSignature d t next beyond
  pub is : sig ≡ pair ++ beyond

-- the signatures of its facets, in their order
pub record AreFacetSignatures (d : ℕ) (t : List (List (List ℤ))) (s : List (List ℤ)) (facets : List (List ℤ)) : Type 0 where
  pub count : length facets ≡ suc d
  pub each : (i : ℕ) → i < suc d → IsFacetSignature d t s i (get_or facets i [])
