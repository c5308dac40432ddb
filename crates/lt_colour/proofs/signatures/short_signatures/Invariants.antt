use Rattle.std.proofs.Common.{◌≡◌, ◌<◌, ℕ, [], length, get_or}
use Rattle.lt_triang.specs.Kept.{dimension_of}
use Rattle.lt_colour.specs.Signatures.{IsPairSignature}
use Rattle.lt_colour.proofs.signatures.short_signatures.Given as goal

abbrev pub invariant-loop-facet : goal.invariant-loop-facet
invariant-loop-facet l = record {
  count : length l.all.items ≡ l.facet;
  each : (i : ℕ) → i < l.facet → IsPairSignature (dimension_of l.t) l.t (get_or l.t l.class []) i (get_or l.all.items i []);
}
