use Rattle.std.proofs.Common.{ℤ, List, map}
use Rattle.std.proofs.lemmas.Bool.{false≢true}
use Rattle.lt_model.specs.Flat.{rows}
use Rattle.lt_model.specs.Matrices.{apply, IsSquare}
use Rattle.lt_model.proofs.Flat.{rows_square}
use Rattle.lt_match.proofs.Placed.{image_near, image_within, image_simplex, image_first}
use Rattle.lt_match.proofs.Inverses.{inverse_from_back, back_from_inverse, takes_images}
use Rattle.lt_match.proofs.carrying.has_inverse.Goals as goal

pub comes_back-requires-clause-simplex : goal.comes_back-requires-clause-simplex
comes_back-requires-clause-simplex c =
    rw (c.as_slice.ensures.value, c.in-Some.ensures.value) (image_simplex c.args.d (rows c.args.d c.args.u.now) c.args.s.now c.requires.goes.0 (rows_square c.args.d c.args.u.now c.requires.square) c.requires.class c.requires.goes.2)

pub comes_back-requires-clause-first_image : goal.comes_back-requires-clause-first_image
comes_back-requires-clause-first_image c =
    rw (c.as_slice.ensures.value, c.in-Some.ensures.value) (image_first c.args.d (rows c.args.d c.args.u.now) c.args.s.now (rows_square c.args.d c.args.u.now c.requires.square) c.requires.class)

pub comes_back-requires-clause-near_images : goal.comes_back-requires-clause-near_images
comes_back-requires-clause-near_images c =
    rw (c.as_slice.ensures.value, c.in-Some.ensures.value) (image_near c.args.d (rows c.args.d c.args.u.now) c.args.s.now c.requires.goes.0 c.requires.goes.1 (rows_square c.args.d c.args.u.now c.requires.square) c.requires.class c.requires.goes.2)

pub unreachable-requires : goal.unreachable-requires
unreachable-requires c =
    let k = image_within c.args.d (rows c.args.d c.args.u.now) c.args.s.now c.requires.goes.0 c.requires.goes.1 (rows_square c.args.d c.args.u.now c.requires.square) c.requires.class c.requires.goes.2 in
    false≢true (c.in-None.ensures.within.1 k)

pub returns : goal.returns
returns c =
    let d = c.args.d in
    let u : List (List ℤ) = rows d c.args.u.now in
    let s = c.args.s.now in
    let su : IsSquare d u = rows_square d c.args.u.now c.requires.square in
    let simplex = image_simplex d u s c.requires.goes.0 su c.requires.class c.requires.goes.2 in
    let told = rw (c.as_slice.ensures.value, c.in-Some.ensures.value) at c.comes_back.ensures in (
      λ e. let r = told.0 e in (r.0, inverse_from_back d u r.0 s (map (apply u) s) su r.1 c.requires.class.simplex simplex (takes_images d u s c.requires.class.simplex.count) r.2),
      λ r. told.1 (r.0, r.1.square, back_from_inverse d u r.0 s su r.1 c.requires.class.simplex.count c.requires.class.simplex.points),
    )
