use Rattle.std.proofs.Common.{arith, ◌∙◌, []}
use Rattle.std.proofs.lemmas.List.{get_or_read}
use Rattle.lt_triang.proofs.Shifts.{get-without_below, get-without_above}
use Rattle.lt_triang.proofs.neighbours.facet_vertex.Goals as goal

pub returns-then-k-i : goal.returns-then-k-i
returns-then-k-i c = get_or_read c.args.s.now c.args.k _ (omega arith) c.index-s-k.is [] ∙ get-without_below c.args.i c.args.k c.args.s.now c.if-k-i.true

pub returns-else-k-i : goal.returns-else-k-i
returns-else-k-i c = get_or_read c.args.s.now _ _ (omega arith) c.index-s-k-else-k-i.is [] ∙ get-without_above c.args.i c.args.k c.args.s.now c.if-k-i.false
