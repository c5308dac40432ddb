use Rattle.lt_model.specs.Principal.{principal_numbers}
use Rattle.lt_triang.proofs.SomeForm.{some_form}
use Rattle.lt_flip.proofs.Wide.{delaunay_dimension}
use Rattle.lt_rows.proofs.matching.principal_of.Goals as goal

pub returns-clause-dimension : goal.returns-clause-dimension
returns-clause-dimension g c = delaunay_dimension c.args.d (principal_numbers c.args.d) c.in-Ok.t c.in-Ok.ensures.delaunay

pub returns-clause-delaunay : goal.returns-clause-delaunay
returns-clause-delaunay g c = some_form c.args.d (principal_numbers c.args.d) c.in-Ok.t c.in-Ok.ensures.delaunay
