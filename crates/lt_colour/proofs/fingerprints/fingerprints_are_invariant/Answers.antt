use Rattle.lt_colour.proofs.Fingerprinted.{same_fingerprint}
use Rattle.lt_colour.proofs.fingerprints.fingerprints_are_invariant.Goals as goal

pub returns : goal.returns
returns c = same_fingerprint
