use Rattle.std.proofs.Common.{sym, ◌∙◌}
use Rattle.lt_core.proofs.Standing.{same_wides, other_wides}
use Rattle.lt_core.proofs.beginnings.same_wide.Goals as goal

pub returns-then-eq : goal.returns-then-eq
returns-then-eq c = same_wides c.args.class.now c.args.other.now _ _ (sym c.eq.ensures ∙ c.if-eq.true)

pub returns-else-eq : goal.returns-else-eq
returns-else-eq c = other_wides c.args.class.now c.args.other.now _ _ c.eq.result c.eq.ensures c.if-eq.false
