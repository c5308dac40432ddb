use Rattle.lt_colour.proofs.OneSignature.{same_signature}
use Rattle.lt_colour.proofs.signatures.signatures_are_invariant.Goals as goal

pub returns : goal.returns
returns c = same_signature
