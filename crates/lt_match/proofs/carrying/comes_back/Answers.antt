use Rattle.lt_match.proofs.Inverses.{told_by}
use Rattle.lt_match.proofs.carrying.comes_back.Goals as goal

pub returns : goal.returns
returns c =
    told_by c.args.d c.args.images.now c.args.points.now c.matrix_taking.result c.is_some.result c.is_some.ensures c.matrix_taking.ensures.size
    (c.matrix_taking.ensures.taking c.args.images.now c.requires.simplex c.requires.first_image c.basis_of.ensures)
