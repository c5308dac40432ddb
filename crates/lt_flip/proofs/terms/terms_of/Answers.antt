use Rattle.std.proofs.Common.{◌≡◌, ◌++◌, ◌∷◌, [], ◌∙◌, sym, subst, arith, ap, neg_ℤ, ℤ, List, ◌^◌}
use Rattle.std.proofs.lemmas.Int.{ints}
use Rattle.std.specs.List.{All}
use Rattle.lt_lattice.specs.Ranges.{IsWithin}
use Rattle.lt_triang.specs.Flat.{leading}
use Rattle.lt_flip.proofs.Dependencies.{last_near, from_expression, from_flat, turned_flat, kept_flat, within_terms}
use Rattle.lt_flip.proofs.terms.terms_of.Goals as goal

pub expression-expression-requires-clause-near : goal.expression-expression-requires-clause-near
expression-expression-requires-clause-near c = last_near c.args.d c.args.points.now c.index-points-d.result c.requires.ascending c.requires.near c.index-points-d.is

pub opposite-requires-clause-small : goal.opposite-requires-clause-small
opposite-requires-clause-small c =
    let e = c.expression-expression.result in
    let is : c.as_slice-then-leading_of-lt0.result.now ≡ e.coefficients ++ neg_ℤ e.scale ∷ [] = c.as_slice-then-leading_of-lt0.ensures.value ∙ c.with_scale-terms.ensures in
    subst (λ (l : List ℤ). All (IsWithin (2 ^ 63)) l) (sym is) (within_terms e.scale e.coefficients c.expression-expression.ensures.below)

pub returns-then-leading_of-lt0 : goal.returns-then-leading_of-lt0
returns-then-leading_of-lt0 c =
    let e = c.expression-expression.result in
    let is : c.with_scale-terms.result.items ≡ e.coefficients ++ neg_ℤ e.scale ∷ [] = c.with_scale-terms.ensures in
    let raw = from_expression c.args.d c.args.points.now c.index-points-d.result c.in-Ok.class c.in-Ok._least e.scale e.coefficients c.requires.ascending c.index-points-d.is c.in-Ok.ensures.class c.expression-expression.ensures.expression c.expression-expression.ensures.primitive in
    let low : leading (e.coefficients ++ neg_ℤ e.scale ∷ []) ≡ c.leading_of.result = ap leading (sym (c.as_slice.ensures.value ∙ is)) ∙ sym c.leading_of.ensures in
    rw (c.opposite.ensures, c.as_slice-then-leading_of-lt0.ensures.value, is) (turned_flat c.args.d c.args.points.now (e.coefficients ++ neg_ℤ e.scale ∷ []) c.requires.ascending raw (omega (arith, ints, low, c.if-leading_of-lt0.true)))

pub returns-else-leading_of-lt0 : goal.returns-else-leading_of-lt0
returns-else-leading_of-lt0 c =
    let e = c.expression-expression.result in
    let is : c.with_scale-terms.result.items ≡ e.coefficients ++ neg_ℤ e.scale ∷ [] = c.with_scale-terms.ensures in
    let raw = from_expression c.args.d c.args.points.now c.index-points-d.result c.in-Ok.class c.in-Ok._least e.scale e.coefficients c.requires.ascending c.index-points-d.is c.in-Ok.ensures.class c.expression-expression.ensures.expression c.expression-expression.ensures.primitive in
    let low : leading (e.coefficients ++ neg_ℤ e.scale ∷ []) ≡ c.leading_of.result = ap leading (sym (c.as_slice.ensures.value ∙ is)) ∙ sym c.leading_of.ensures in
    rw is (kept_flat c.args.d c.args.points.now (e.coefficients ++ neg_ℤ e.scale ∷ []) c.requires.ascending raw (omega (arith, ints, low, c.if-leading_of-lt0.false)))

pub returns-in-Err : goal.returns-in-Err
returns-in-Err c =
    rw (c.with_last.ensures, c.as_slice-in-Err.ensures.value, c.flat.view_is)
    (from_flat c.args.d c.args.points.now c.index-points-d.result c.in-Err.flat c.requires.ascending c.index-points-d.is c.in-Err.ensures.flat)
