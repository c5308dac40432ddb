use Rattle.std.proofs.Common.{ap, ◌∙◌, refl, map}
use Rattle.lt_core.specs.Marks.{mark_of}
use Rattle.lt_core.proofs.Writes.{opens_more}
use Rattle.lt_core.proofs.lists.opens_of.Goals as goal

pub loop-i-preserved : goal.loop-i-preserved
loop-i-preserved c = ap (map mark_of) c.in_ok-push.ensures.items ∙ opens_more c.loop-i.row.items c.loop-i.i _ c.loop-i.invariant refl
