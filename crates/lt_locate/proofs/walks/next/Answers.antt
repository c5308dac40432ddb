use Rattle.std.proofs.Common.{◌∙◌, ◌≤◌, refl, ap, sym, subst, arith, rules, ℤ, Err}
use Rattle.std.proofs.lemmas.Int.{to_z-of_z}
use mir.Syntax.{w64}
use Rattle.lt_flip.specs.Flipped.{IsWideFlip}
use Rattle.lt_triang.specs.Kept.{dimension_of}
use Rattle.lt_triang.proofs.Expressed.{dimension_is}
use Rattle.lt_locate.specs.declared.sides.Side.{Side}
use Rattle.lt_locate.specs.Endings.{IsWideAcross}
use Rattle.lt_locate.specs.Sides.{IsSide}
use Rattle.lt_locate.proofs.Crossed.{wide_across}
use Rattle.lt_locate.proofs.walks.next.Goals as goal

pub returns-in-Err-Wide-clause-stop : goal.returns-in-Err-Wide-clause-stop
returns-in-Err-Wide-clause-stop c =
    let t = c.args.t.now in
    let d = dimension_of t in
    let n = c.in-Ok-Beyond.facet in
    let w = c.in-Err-Wide in
    let e = dimension_is c.dimension-dimension.result t c.dimension-dimension.ensures in
    let two : 2 ≤ d = omega (arith, e, c.dimension-dimension.ensures.low) in
    let s = subst (λ (x : Side). IsSide d t c.args.q.now x) c.in-Ok-Beyond.field-0-is c.in-Ok-Beyond.ensures.side in
    let f : IsWideFlip d t n w.field-0-0 w.span = c.flip.ensures.wide w.field-0-0 w.span (w.is ∙ ap Err w.field-0-is) in
    let a : IsWideAcross d t n w.span = wide_across d c.requires.delaunay.0 n t w.field-0-0 w.span two c.requires.delaunay.1 s.1.is.0 f in
    let same = to_z-of_z w64 w.span (search rules) in
    (refl, (s.0, (n, s.1, subst (λ (x : ℤ). IsWideAcross d t n x) (sym same) a), c.if-crossed-steps.false))
