use Rattle.std.proofs.Common.{◌≡◌, ◌++◌, ◌*◌, ◌≤◌, drop, length}
use Rattle.lt_model.specs.Flat.{flat}
use Rattle.lt_colour.proofs.signatures.joined.Given as goal

abbrev pub invariant-loop-pair : goal.invariant-loop-pair
invariant-loop-pair l = record {
  so_far : l.all.items ++ flat (drop l.pair-index l.pairs) ≡ flat l.pairs;
  few : length l.all.items ≤ 8 * l.pair-index;
}
