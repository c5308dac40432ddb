use Rattle.lt_text.proofs.Spelt.{spelt}
use Rattle.lt_text.proofs.atlases.example_is_spelt.Goals as goal

pub returns : goal.returns
returns c = spelt
