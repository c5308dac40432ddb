use Rattle.std.proofs.Common.{sym}
use Rattle.std.proofs.lemmas.Bool.{false≢true}
use Rattle.lt_model.specs.Flat.{rows}
use Rattle.lt_model.specs.Matrices.{IsSquare}
use Rattle.lt_model.proofs.Flat.{rows_square}
use Rattle.lt_geometry.proofs.Matrices.{map-apply_all}
use Rattle.lt_match.proofs.Spans.{span_beyond}
use Rattle.lt_match.proofs.transforms.image_span.Goals as goal

pub span_of-requires : goal.span_of-requires
span_of-requires c =
    let square : IsSquare c.args.d (rows c.args.d c.args.u.now) = rows_square c.args.d c.args.u.now c.requires.square in
    rw (c.as_slice.ensures.value, c.in-Some.ensures.value) (map-apply_all c.args.d (rows c.args.d c.args.u.now) c.args.s.now square.rows)

pub returns-in-None : goal.returns-in-None
returns-in-None c = sym (span_beyond c.args.d (rows c.args.d c.args.u.now) c.args.s.now (rows_square c.args.d c.args.u.now c.requires.square) c.requires.class (λ w. false≢true (c.in-None.ensures.within.1 w)))
