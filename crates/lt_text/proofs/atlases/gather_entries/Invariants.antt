use Rattle.std.proofs.Common.{◌≤◌, take}
use Rattle.lt_text.specs.Gathered.{Gains}
use Rattle.lt_text.specs.Texts.{entries_text}
use Rattle.lt_text.proofs.atlases.gather_entries.Given as goal

abbrev pub invariant-loop-k : goal.invariant-loop-k
invariant-loop-k g l = record {
  so_far : Gains (g.K.Sink.held l.initial.out) (g.K.Sink.held l.out) l.initial.block.held l.block.held (entries_text l.atlas.marks 0 (take l.k l.atlas.entries));
  later : g.K.Sink.faults l.initial.out ≤ g.K.Sink.faults l.out;
}
