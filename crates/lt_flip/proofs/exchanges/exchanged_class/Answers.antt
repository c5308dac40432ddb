use Rattle.std.proofs.Common.{◌∷◌, ◌∙◌, arith, suc}
use Rattle.lt_model.specs.Facets.{without}
use Rattle.lt_flip.proofs.MadeClasses.{exchanged_points, never_flat, class_there}
use Rattle.lt_flip.proofs.exchanges.exchanged_class.Goals as goal

pub of-requires-clause-low : goal.of-requires-clause-low
of-requires-clause-low c =
    let h = exchanged_points c.args.d c.args.s.now c.args.w.now c.args.e.now.scale c.args.e.now.coefficients c.args.k c.as_slice.result.now c.requires.class c.requires.dimension c.requires.near c.requires.expression c.requires.place c.requires.positive (c.as_slice.ensures.value ∙ c.exchanged.ensures) in
    omega (arith, h.simplex.count, c.requires.low)

pub of-requires-clause-high : goal.of-requires-clause-high
of-requires-clause-high c =
    let h = exchanged_points c.args.d c.args.s.now c.args.w.now c.args.e.now.scale c.args.e.now.coefficients c.args.k c.as_slice.result.now c.requires.class c.requires.dimension c.requires.near c.requires.expression c.requires.place c.requires.positive (c.as_slice.ensures.value ∙ c.exchanged.ensures) in
    omega (arith, h.simplex.count, c.requires.high)

pub of-requires-clause-dimension : goal.of-requires-clause-dimension
of-requires-clause-dimension c =
    let h = exchanged_points c.args.d c.args.s.now c.args.w.now c.args.e.now.scale c.args.e.now.coefficients c.args.k c.as_slice.result.now c.requires.class c.requires.dimension c.requires.near c.requires.expression c.requires.place c.requires.positive (c.as_slice.ensures.value ∙ c.exchanged.ensures) in
    h.dimension

pub of-requires-clause-near : goal.of-requires-clause-near
of-requires-clause-near c =
    let h = exchanged_points c.args.d c.args.s.now c.args.w.now c.args.e.now.scale c.args.e.now.coefficients c.args.k c.as_slice.result.now c.requires.class c.requires.dimension c.requires.near c.requires.expression c.requires.place c.requires.positive (c.as_slice.ensures.value ∙ c.exchanged.ensures) in
    h.near

pub unreachable-requires : goal.unreachable-requires
unreachable-requires c =
    let h = exchanged_points c.args.d c.args.s.now c.args.w.now c.args.e.now.scale c.args.e.now.coefficients c.args.k c.as_slice.result.now c.requires.class c.requires.dimension c.requires.near c.requires.expression c.requires.place c.requires.positive (c.as_slice.ensures.value ∙ c.exchanged.ensures) in
    never_flat c.args.d c.as_slice.result.now c.in-Err.field-0 h c.in-Err.ensures.flat

pub returns : goal.returns
returns c =
    let is = c.as_slice.ensures.value ∙ c.exchanged.ensures in
    let h = exchanged_points c.args.d c.args.s.now c.args.w.now c.args.e.now.scale c.args.e.now.coefficients c.args.k c.as_slice.result.now c.requires.class c.requires.dimension c.requires.near c.requires.expression c.requires.place c.requires.positive is in
    class_there c.args.d c.as_slice.result.now (without (suc c.args.k) (c.args.w.now ∷ c.args.s.now)) c.in-Ok.class c.in-Ok._least h is c.in-Ok.ensures.class
