use Rattle.lt_model.specs.Principal.{principal_numbers}
use Rattle.lt_triang.proofs.SomeForm.{some_form}
use Rattle.lt_rows.proofs.regulators.principal_regulators.Goals as goal

pub regulators-requires : goal.regulators-requires
regulators-requires c = some_form c.args.d (principal_numbers c.args.d) c.in_ok-t.t c.in_ok-t.ensures.delaunay
