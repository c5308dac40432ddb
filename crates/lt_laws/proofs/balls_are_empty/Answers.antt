use Rattle.lt_laws.proofs.Circumradii as radii
use Rattle.lt_laws.proofs.balls_are_empty.Goals as goal

pub returns : goal.returns
returns c = radii.balls_are_empty
