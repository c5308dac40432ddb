use Rattle.lt_locate.proofs.Gathered.{to_none, to_more}
use Rattle.lt_locate.proofs.edge_lists.push_edges_to.Goals as goal

pub loop-from-init : goal.loop-from-init
loop-from-init c = to_none c.args.class.now c.args.to c.args.all.now.items

pub loop-from-preserved : goal.loop-from-preserved
loop-from-preserved c = rw c.in_ok-push.ensures.items (to_more c.args.class.now c.args.to c.loop-from.from c.args.all.now.items c.loop-from.all.items c.edge.result c.loop-from.invariant c.edge.ensures)
