use Rattle.lt_laws.proofs.Sections as sections
use Rattle.lt_laws.proofs.section_facets_are_live_or_dead.Goals as goal

pub returns : goal.returns
returns c = sections.live_or_dead
