use Rattle.std.proofs.Common.{◌≡◌, arith, pos}
use Rattle.lt_model.specs.Limits.{class_span}
use Rattle.lt_triang.specs.Kept.{AreClasses, dimension_of}
use Rattle.lt_triang.proofs.Expressed.{dimension_is}
use Rattle.lt_flip.proofs.Collected.{IsFlippable}
use Rattle.lt_flip.proofs.Wide.{IsSortedFlip, sorted_flip, narrow_flip, flip_triangulation, wide_flip}
use Rattle.lt_flip.proofs.flips.flipped_classes.Goals.{In_ok-classes}
use Rattle.lt_flip.proofs.flips.flipped_classes.Goals as goal

pub flipped-requires-clause-low : goal.flipped-requires-clause-low
flipped-requires-clause-low c =
    let d : c.dimension-d.result ≡ dimension_of c.args.t.now = dimension_is c.dimension-d.result c.args.t.now c.dimension-d.ensures in
    omega (arith, d, c.dimension-d.ensures.low)

-- what is known of the classes of the flip
here : (c : In_ok-classes) → IsSortedFlip (dimension_of c.args.t.now) c.args.t.now c.args.facet.now c.in_ok-classes.classes.items
here c =
    let t = c.args.t.now in
    let d : c.dimension-d.result ≡ dimension_of t = dimension_is c.dimension-d.result t c.dimension-d.ensures in
    let k : IsFlippable (dimension_of t) c.requires.delaunay.0 t c.args.facet.now = record { two = omega (arith, d, c.dimension-d.ensures.low); delaunay = c.requires.delaunay.1; facet = c.requires.facet } in
    sorted_flip (dimension_of t) c.requires.delaunay.0 t c.args.facet.now c.in_ok-classes.classes.items k c.in_ok-classes.ensures

pub returns-in-Some-clause-wide : goal.returns-in-Some-clause-wide
returns-in-Some-clause-wide c =
    let t = c.args.t.now in
    let d : c.dimension-d.result ≡ dimension_of t = dimension_is c.dimension-d.result t c.dimension-d.ensures in
    let h = here (goal.at.returns-in-Some-clause-wide c).In_ok-classes in
    let found = c.index.result.now in
    λ class wide e.
    let f = c.wide.ensures in
    let s_is : class ≡ found = cc in
    let c_is : wide ≡ pos (class_span found) = cc in
    wide_flip (dimension_of t) t c.args.facet.now c.in_ok-classes.classes.items c.as_slice.result.now c.dimension-d.result c.in-Some.i found class wide h c.as_slice.ensures.value d c.in-Some.ensures c.index.ensures s_is c_is

pub returns-in-None-clause-triangulation : goal.returns-in-None-clause-triangulation
returns-in-None-clause-triangulation c =
    let t = c.args.t.now in
    let d : c.dimension-d.result ≡ dimension_of t = dimension_is c.dimension-d.result t c.dimension-d.ensures in
    let classes = c.in_ok-classes.classes.items in
    let h = here (goal.at.returns-in-None-clause-triangulation c).In_ok-classes in
    let a : AreClasses (dimension_of classes) classes = narrow_flip (dimension_of t) t c.args.facet.now classes c.as_slice.result.now c.dimension-d.result (omega (arith, d, c.dimension-d.ensures.low)) (omega (arith, d, c.dimension-d.ensures.high)) h c.as_slice.ensures.value d c.in-None.ensures in
    flip_triangulation (dimension_of t) t c.args.facet.now classes h a

pub returns-in-None-clause-flip : goal.returns-in-None-clause-flip
returns-in-None-clause-flip c = (here (goal.at.returns-in-None-clause-flip c).In_ok-classes).flip

pub returns-in-None-clause-across : goal.returns-in-None-clause-across
returns-in-None-clause-across c = (here (goal.at.returns-in-None-clause-across c).In_ok-classes).across

pub returns-in-None-clause-delaunay : goal.returns-in-None-clause-delaunay
returns-in-None-clause-delaunay c = (here (goal.at.returns-in-None-clause-delaunay c).In_ok-classes).some_form
