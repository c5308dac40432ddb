use Rattle.lt_laws.proofs.Sections as sections
use Rattle.lt_laws.proofs.one_wall_tells.Goals as goal

pub returns : goal.returns
returns c = sections.one_wall_tells
