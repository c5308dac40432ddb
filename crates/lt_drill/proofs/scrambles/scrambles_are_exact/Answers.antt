use Rattle.lt_drill.proofs.Turns.{one_scramble}
use Rattle.lt_drill.proofs.scrambles.scrambles_are_exact.Goals as goal

pub returns : goal.returns
returns c = one_scramble
