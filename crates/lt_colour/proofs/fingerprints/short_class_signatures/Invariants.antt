use Rattle.std.proofs.Common.{◌≡◌, ◌<◌, ℕ, [], length, get_or}
use Rattle.lt_triang.specs.Kept.{dimension_of}
use Rattle.lt_colour.specs.Signatures.{IsClassSignature}
use Rattle.lt_colour.proofs.fingerprints.short_class_signatures.Given as goal

abbrev pub invariant-loop-class : goal.invariant-loop-class
invariant-loop-class l = record {
  count : length l.all.items ≡ l.class;
  each : (k : ℕ) → k < l.class → IsClassSignature (dimension_of l.t) l.t (get_or l.t k []) (get_or l.all.items k []);
}
