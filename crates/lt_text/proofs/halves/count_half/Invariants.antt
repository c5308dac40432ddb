use Rattle.std.proofs.Common.{◌≡◌, ◌≤◌, take, length}
use Rattle.lt_model.specs.Negatives.{half}
use Rattle.lt_text.proofs.halves.count_half.Given as goal

abbrev pub invariant-loop-i : goal.invariant-loop-i
invariant-loop-i l = record {
  count : l.count ≡ length (half (take l.i l.triangulation));
  few : l.count ≤ l.i;
}
