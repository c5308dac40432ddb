use Rattle.std.proofs.Common.{◌≤◌, take}
use Rattle.std.specs.List.{flat_map}
use Rattle.lt_text.specs.Gathered.{Gains}
use Rattle.lt_core.specs.Marks.{mark_of}
use Rattle.lt_text.specs.Texts.{mark_line}
use Rattle.lt_text.proofs.marks.gather_each.Given as goal

abbrev pub invariant-loop-mark : goal.invariant-loop-mark
invariant-loop-mark g l = record {
  so_far : Gains (g.K.Sink.held l.initial.out) (g.K.Sink.held l.out) l.initial.block.held l.block.held (flat_map (λ m. mark_line (mark_of m)) (take l.mark-index l.marks));
  later : g.K.Sink.faults l.initial.out ≤ g.K.Sink.faults l.out;
}
