use Rattle.lt_laws.proofs.Covering as covering
use Rattle.lt_laws.proofs.centres_move_along.Goals as goal

pub returns : goal.returns
returns c = covering.centre_moved
