use Rattle.lt_tableau.proofs.Bounds.{normals_small}
use Rattle.lt_lp.proofs.checks.check.Goals as goal

pub is_wall-requires-clause-small : goal.is_wall-requires-clause-small
is_wall-requires-clause-small c = normals_small c.requires.light.0 c.args.normals.now c.requires.light.2

pub is_combination-requires-clause-small : goal.is_combination-requires-clause-small
is_combination-requires-clause-small c = normals_small c.requires.light.0 c.args.normals.now c.requires.light.2
