-- The list of the edges of a triangulation.
use Rattle.std.specs.Prelude.{ℕ, ℤ, List, ◌↔◌}
use Rattle.std.specs.List.{Contains}
use Rattle.std.specs.List.Sorted.{IsStrictlySortedBy}
use Rattle.lt_model.specs.Order.{number_list_cmp}
use Rattle.lt_laws.specs.Edges.{IsEdge}

-- exactly the edges, in ascending order, each once
pub record AreEdges (d : ℕ) (t : List (List (List ℤ))) (es : List (List ℤ)) : Type 0 where
  pub ascending : IsStrictlySortedBy number_list_cmp es
  pub members : (x : List ℤ) → Contains es x ↔ IsEdge d t x
