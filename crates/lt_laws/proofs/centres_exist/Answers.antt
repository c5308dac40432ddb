use Rattle.lt_laws.proofs.Circumradii as radii
use Rattle.lt_laws.proofs.centres_exist.Goals as goal

pub returns : goal.returns
returns c = radii.centres_exist
