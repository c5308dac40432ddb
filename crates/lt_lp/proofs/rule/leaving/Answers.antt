use Rattle.std.proofs.Common.{arith}
use Rattle.lt_lp.proofs.Loops.{best_more, best_leaves}
use Rattle.lt_lp.proofs.rule.leaving.Goals as goal

pub loop-row-preserved : goal.loop-row-preserved
loop-row-preserved c = best_more c.args.t.now c.args.column c.loop-row.best c.loop-row.row c.earlier-best.result c.loop-row.invariant c.earlier-best.ensures

pub returns : goal.returns
returns c = best_leaves c.args.t.now c.args.column c.loop-row.best c.loop-row.row (omega arith) c.loop-row.invariant
