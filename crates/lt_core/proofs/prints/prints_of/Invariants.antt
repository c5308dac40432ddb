use Rattle.std.proofs.Common.{◌≡◌, ◌<◌, ℕ, length, get_or, map, []}
use Rattle.lt_model.specs.Atlases.{entry_at}
use Rattle.lt_triang.specs.Kept.{dimension_of}
use Rattle.lt_colour.specs.Signatures.{IsFingerprint}
use Rattle.lt_core.specs.Marks.{entry_of}
use Rattle.lt_core.proofs.prints.prints_of.Given as goal

abbrev pub invariant-loop-entry : goal.invariant-loop-entry
invariant-loop-entry l = record {
  count : length l.all.items ≡ l.entry-index;
  each : (k : ℕ) → k < l.entry-index → IsFingerprint (dimension_of (entry_at (map entry_of l.entries) k).triangulation) (entry_at (map entry_of l.entries) k).triangulation (get_or l.all.items k []);
}
