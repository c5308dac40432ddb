-- Lists that hold the regulators at facets of members.
use Rattle.std.specs.Prelude.{ℕ, suc, ℤ, ◌<◌, ◌≡◌, List, [], get_or}
use Rattle.std.specs.List.{Contains}
use Rattle.lt_model.specs.Simplices.{IsExpression}
use Rattle.lt_model.specs.Walls.{excess_normal, IsRegulator}
use Rattle.lt_geometry.specs.Regulators.{IsRegulatorAt}
use Rattle.lt_triang.specs.Across.{IsOuterVertex}
use Rattle.lt_triang.specs.Kept.{dimension_of}

-- the numbers of the excess of the outer vertex of the neighbour of s at facet i, by some expression
pub record IsOuterExcess (d : ℕ) (t : List (List (List ℤ))) (s : List (List ℤ)) (i : ℕ) (numbers : List ℤ) : Type
    0 where
  pub vertex : List ℤ
  pub c : ℤ
  pub b : List ℤ
  pub outer : IsOuterVertex d t s i vertex
  pub expression : IsExpression s vertex c b
  pub value : numbers ≡ excess_normal s vertex c b

-- the normals hold a regulator for each facet of the member
pub record HasRegulatorsOf (t : List (List (List ℤ))) (m facets : ℕ) (ns : List (List ℤ)) : Type 0 where
  pub each : (i : ℕ) → i < facets → (n : List ℤ) × Contains ns n × IsRegulatorAt (dimension_of t) t (get_or t m []) i n

-- the normals are regulators, and they hold one for each facet of the first members
pub record HasRegulatorsBelow (t : List (List (List ℤ))) (members : ℕ) (ns : List (List ℤ)) : Type 0 where
  pub only : (n : List ℤ) → Contains ns n → IsRegulator (dimension_of t) t n
  pub all : (m : ℕ) → m < members → HasRegulatorsOf t m (suc (dimension_of t)) ns
