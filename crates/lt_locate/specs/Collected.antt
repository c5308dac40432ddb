-- Lists that gather the differences of vertices.
use Rattle.std.specs.Prelude.{ℕ, ℤ, ◌<◌, ◌≡◌, ◌⊎◌, List, [], length, get_or}
use Rattle.std.specs.List.{Contains}
use Rattle.lt_model.specs.Vectors.{minus}

-- the new list holds what the old one held and the points that are meant, and nothing else
pub record Gathers (IsMeant : List ℤ → Type 0) (old new : List (List ℤ)) : Type 0 where
  pub kept : (x : List ℤ) → Contains old x → Contains new x
  pub each : (x : List ℤ) → IsMeant x → Contains new x
  pub only : (x : List ℤ) → Contains new x → Contains old x ⊎ IsMeant x

-- x is the vertex at place k less one of the first m vertices
abbrev pub IsEdgeTo : List (List ℤ) → ℕ → ℕ → List ℤ → Type 0
IsEdgeTo s k m x = (i : ℕ) × (i < m) × (x ≡ minus (get_or s k []) (get_or s i []))

-- x is one of the first m vertices less one before it
abbrev pub IsEdgeBelow : List (List ℤ) → ℕ → List ℤ → Type 0
IsEdgeBelow s m x = (k : ℕ) × (k < m) × IsEdgeTo s k k x

-- x is such a difference of vertices of one of the first m members
abbrev pub IsEdgeOfFirst : List (List (List ℤ)) → ℕ → List ℤ → Type 0
IsEdgeOfFirst t m x = (k : ℕ) × (k < m) × IsEdgeBelow (get_or t k []) (length (get_or t k [])) x
