use Rattle.lt_locate.proofs.Gathered.{below_none, below_more}
use Rattle.lt_locate.proofs.edge_lists.push_edges_of.Goals as goal

pub loop-to-init : goal.loop-to-init
loop-to-init c = below_none c.args.class.now c.args.all.now.items

pub loop-to-preserved : goal.loop-to-preserved
loop-to-preserved c = below_more c.args.class.now c.loop-to.to c.args.all.now.items c.loop-to.all.items c.push_edges_to.new.all.items c.loop-to.invariant c.in_ok-push_edges_to.ensures
