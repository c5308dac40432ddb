use Rattle.lt_text.proofs.AsSpelt.{as_spelt}
use Rattle.lt_text.proofs.atlases.atlases_are_spelt.Goals as goal

pub returns : goal.returns
returns c = as_spelt
