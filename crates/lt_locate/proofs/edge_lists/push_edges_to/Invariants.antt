use Rattle.lt_locate.specs.Collected.{Gathers, IsEdgeTo}
use Rattle.lt_locate.proofs.edge_lists.push_edges_to.Given as goal

abbrev pub invariant-loop-from : goal.invariant-loop-from
invariant-loop-from l = Gathers (IsEdgeTo l.class l.to l.from) l.initial.all.items l.all.items
