use Rattle.std.proofs.Common.{◌≡◌, ◌++◌, drop}
use Rattle.lt_model.specs.Flat.{flat}
use Rattle.lt_colour.proofs.fingerprints.joined.Given as goal

abbrev pub invariant-loop-signature : goal.invariant-loop-signature
invariant-loop-signature l = l.all.items ++ flat (drop l.signature-index l.signatures) ≡ flat l.signatures
