-- Members with a given regulator at a facet, and the vertex beyond it.
use Rattle.std.specs.Prelude.{ℕ, suc, ℤ, ◌*◌, ◌<◌, ◌≡◌, List, ◌∷◌, length}
use Rattle.lt_model.specs.Limits.{span_limit}
use Rattle.lt_model.specs.Simplices.{IsExpression}
use Rattle.lt_triang.specs.Across.{IsOuterVertex}
use Rattle.lt_triang.specs.Bounds.{AreNear}
use Rattle.lt_geometry.specs.Regulators.{IsRegulatorAt}

-- n is the regulator of none of the facets of s
abbrev pub HasNoFacet : ℕ → List (List (List ℤ)) → List (List ℤ) → List ℤ → Type 0
HasNoFacet d t s n = (i : ℕ) → i < suc d → IsRegulatorAt d t s i n → ⊥

-- w is the outer vertex of the neighbour at a facet of s with the regulator n, and c, b is an expression of it
pub record IsOuterOf (d : ℕ) (t : List (List (List ℤ))) (s : List (List ℤ)) (n w : List ℤ) (c : ℤ) (b : List ℤ) : Type 0 where
  pub facet : ℕ
  pub place : facet < suc d
  pub regulator : IsRegulatorAt d t s facet n
  pub outer : IsOuterVertex d t s facet w
  pub dimension : length w ≡ d
  pub near : AreNear (2 * span_limit d) (w ∷ s)
  pub expression : IsExpression s w c b
