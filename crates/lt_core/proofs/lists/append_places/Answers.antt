use Rattle.std.proofs.Common.{arith}
use Rattle.lt_core.proofs.Writes.{places_more}
use Rattle.lt_core.proofs.lists.append_places.Goals as goal

pub loop-facet-preserved : goal.loop-facet-preserved
loop-facet-preserved c =
    (places_more c.args.queue.now.items c.loop-facet.queue.items c.push_within.new.all.items c.args.entry c.loop-facet.facet c.loop-facet.invariant.0 c.push_within.ensures.items, omega arith)
