use Rattle.std.proofs.lemmas.Bool.{false≢true}
use Rattle.lt_model.specs.Matrices.{IsSquare}
use Rattle.lt_model.specs.Flat.{rows}
use Rattle.lt_model.proofs.Flat.{rows_square}
use Rattle.lt_geometry.proofs.Matrices.{map-apply_all}
use Rattle.lt_match.proofs.Placed.{image_within}
use Rattle.lt_match.proofs.images.goes_into.Goals as goal

pub has_class_of-requires-clause-dimension : goal.has_class_of-requires-clause-dimension
has_class_of-requires-clause-dimension c =
    let u : IsSquare c.args.d (rows c.args.d c.args.u.now) = rows_square c.args.d c.args.u.now c.requires.square in
    rw c.in-Some.ensures.value (map-apply_all c.args.d (rows c.args.d c.args.u.now) c.args.s.now u.rows)

pub returns-in-None : goal.returns-in-None
returns-in-None c = (
  λ e. absurd (false≢true e),
  λ h. c.in-None.ensures.within.1 (image_within c.args.d (rows c.args.d c.args.u.now) c.args.s.now c.args.t.now c.requires.target (rows_square c.args.d c.args.u.now c.requires.square) c.requires.class h),
)
