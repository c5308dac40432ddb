use Rattle.std.proofs.Common.{◌≡◌, sym, ap, ◌∙◌}
use Rattle.lt_triang.specs.Kept.{IsTriangulation, dimension_of}
use Rattle.lt_triang.proofs.Expressed.{dimension_is}
use Rattle.lt_flip.proofs.OneAcross.{one_across_of_some_form}
use Rattle.lt_flip.proofs.flips.flip.Goals as goal

pub carried-requires-clause-one : goal.carried-requires-clause-one
carried-requires-clause-one c =
    one_across_of_some_form (dimension_of c.args.t.now) c.in_ok-classes.classes.items
    c.in_ok-classes.ensures.triangulation c.in_ok-classes.ensures.delaunay

pub returns-clause-dimension : goal.returns-clause-dimension
returns-clause-dimension c =
    let classes = c.in_ok-classes.classes.items in
    let h : IsTriangulation (dimension_of c.args.t.now) classes = c.in_ok-classes.ensures.triangulation in
    let is : c.in_ok-across.across ≡ classes = c.in_ok-across.ensures in
    ap dimension_of is ∙ sym (dimension_is (dimension_of c.args.t.now) classes h)
