use Rattle.std.proofs.Common.{[]}
use Rattle.lt_locate.specs.Collected.{Gathers, IsEdgeOfFirst}
use Rattle.lt_locate.proofs.edge_lists.edges.Given as goal

abbrev pub invariant-loop-class : goal.invariant-loop-class
invariant-loop-class l = Gathers (IsEdgeOfFirst l.t l.class) [] l.all.items
