use Rattle.lt_section.proofs.Telling.{tells}
use Rattle.lt_section.proofs.laws.verdicts_tell.Goals as goal

pub returns : goal.returns
returns c = tells
