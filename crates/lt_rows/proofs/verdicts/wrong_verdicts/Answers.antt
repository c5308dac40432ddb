use Rattle.lt_rows.proofs.PlaneNormals.{principal_light}
use Rattle.lt_rows.proofs.verdicts.wrong_verdicts.Goals as goal

pub check-requires-clause-light : goal.check-requires-clause-light
check-requires-clause-light g c = principal_light c.of.result c.of-2.result c.of-3.result c.of.ensures c.of-2.ensures c.of-3.ensures

pub check-requires-2-clause-light : goal.check-requires-2-clause-light
check-requires-2-clause-light g c = principal_light c.of.result c.of-2.result c.of-3.result c.of.ensures c.of-2.ensures c.of-3.ensures
