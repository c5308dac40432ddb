use Rattle.lt_rows.proofs.PlaneNormals.{sum_light}
use Rattle.lt_rows.proofs.verdicts.a_sum_of_two.Goals as goal

pub check-requires-clause-light : goal.check-requires-clause-light
check-requires-clause-light g c = sum_light c.of.result c.of-2.result c.of-3.result c.of.ensures c.of-2.ensures c.of-3.ensures

pub check-requires-in-Ok-clause-light : goal.check-requires-in-Ok-clause-light
check-requires-in-Ok-clause-light g c = sum_light c.of.result c.of-2.result c.of-3.result c.of.ensures c.of-2.ensures c.of-3.ensures
