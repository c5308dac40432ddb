use Rattle.lt_locate.specs.Collected.{Gathers, IsEdgeBelow}
use Rattle.lt_locate.proofs.edge_lists.push_edges_of.Given as goal

abbrev pub invariant-loop-to : goal.invariant-loop-to
invariant-loop-to l = Gathers (IsEdgeBelow l.class l.to) l.initial.all.items l.all.items
