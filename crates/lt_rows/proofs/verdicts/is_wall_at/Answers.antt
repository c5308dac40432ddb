use Rattle.lt_rows.proofs.PlaneNormals.{principal_light, principal_positive}
use Rattle.lt_rows.proofs.verdicts.is_wall_at.Goals as goal

pub decide-requires-clause-positive : goal.decide-requires-clause-positive
decide-requires-clause-positive c = principal_positive c.of.result c.of-2.result c.of-3.result c.of.ensures c.of-2.ensures c.of-3.ensures

pub check-requires-clause-light : goal.check-requires-clause-light
check-requires-clause-light c = principal_light c.of.result c.of-2.result c.of-3.result c.of.ensures c.of-2.ensures c.of-3.ensures
