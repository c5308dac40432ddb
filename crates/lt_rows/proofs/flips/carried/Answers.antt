use Rattle.lt_triang.specs.Kept.{dimension_of}
use Rattle.lt_flip.proofs.OneAcross.{one_across_of_some_form}
use Rattle.lt_rows.proofs.flips.carried.Goals as goal

pub carried-requires-clause-one : goal.carried-requires-clause-one
carried-requires-clause-one c =
    one_across_of_some_form (dimension_of c.args.t.now) c.args.classes.items c.requires.triangulation c.requires.delaunay
