use Rattle.std.proofs.Common.{◌≡◌, ℕ, ℤ, suc, ◌∷◌, [], List, sym, ◌∙◌, subst, arith, get_or, ◌*◌}
use Rattle.std.specs.List.{Contains}
use Rattle.std.proofs.lemmas.List.Elements.{Contains-get_or}
use Rattle.lt_model.specs.Limits.{span_limit}
use Rattle.lt_model.specs.Simplices.{IsClass}
use Rattle.lt_triang.specs.Bounds.{AreNear}
use Rattle.lt_triang.specs.Kept.{dimension_of}
use Rattle.lt_triang.proofs.Expressed.{dimension_is}
use Rattle.lt_flip.specs.Cells.{IsMovedFrom, AreCellPointsBelow}
use Rattle.lt_flip.proofs.Collected.{IsFlippable}
use Rattle.lt_flip.proofs.CellsBelow.{outer_outside, no_cell_more, cell_more}
use Rattle.lt_flip.proofs.cell_list.push_cell_points.Goals as goal

pub cell_points-requires-clause-class : goal.cell_points-requires-clause-class
cell_points-requires-clause-class c =
    let t = c.args.t.now in
    let k : IsClass c.dimension.result (get_or t c.args.class []) = c.dimension.ensures.classes (get_or t c.args.class []) (Contains-get_or t c.args.class [] c.requires.class) in
    rw (c.vertices.ensures, c.class-simplex.ensures, c.from-d.ensures) k

pub cell_points-requires-clause-dimension : goal.cell_points-requires-clause-dimension
cell_points-requires-clause-dimension c =
    let d : c.dimension.result ≡ dimension_of c.args.t.now = dimension_is c.dimension.result c.args.t.now c.dimension.ensures in
    c.in-Some.ensures.dimension ∙ sym d ∙ sym c.from-d.ensures

pub cell_points-requires-clause-near : goal.cell_points-requires-clause-near
cell_points-requires-clause-near c =
    let t = c.args.t.now in
    let d : c.dimension.result ≡ dimension_of t = dimension_is c.dimension.result t c.dimension.ensures in
    let s : c.vertices.result.now ≡ get_or t c.args.class [] = c.vertices.ensures ∙ c.class-simplex.ensures in
    subst (λ (l : List (List ℤ)). AreNear (2 * span_limit c.from-d.result) (c.in-Some.outer.vertex ∷ l)) (sym s)
    (subst (λ (e : ℕ). AreNear (2 * span_limit e) (c.in-Some.outer.vertex ∷ get_or t c.args.class [])) (sym (c.from-d.ensures ∙ d)) c.in-Some.ensures.near)

pub cell_points-requires-clause-outside : goal.cell_points-requires-clause-outside
cell_points-requires-clause-outside c =
    let t = c.args.t.now in
    let d : c.dimension.result ≡ dimension_of t = dimension_is c.dimension.result t c.dimension.ensures in
    let k : IsFlippable (dimension_of t) c.requires.delaunay.0 t c.args.facet.now = record { two = omega (arith, d, c.dimension.ensures.low); delaunay = c.requires.delaunay.1; facet = c.requires.facet } in
    let s : c.vertices.result.now ≡ get_or t c.args.class [] = c.vertices.ensures ∙ c.class-simplex.ensures in
    let o = c.in-Some.outer in
    λ h. outer_outside (dimension_of t) c.requires.delaunay.0 t (get_or t c.args.class []) c.args.facet.now o.vertex o.expression.scale o.expression.coefficients k (Contains-get_or t c.args.class [] c.requires.class) c.in-Some.ensures (subst (λ (l : List (List ℤ)). Contains l o.vertex) s h)

pub returns-in-Ok : goal.returns-in-Ok
returns-in-Ok c =
    let t = c.args.t.now in
    let d : c.dimension.result ≡ dimension_of t = dimension_is c.dimension.result t c.dimension.ensures in
    let k : IsFlippable (dimension_of t) c.requires.delaunay.0 t c.args.facet.now = record { two = omega (arith, d, c.dimension.ensures.low); delaunay = c.requires.delaunay.1; facet = c.requires.facet } in
    let o = c.in-Some.outer in
    let m : IsMovedFrom (dimension_of t) (o.vertex ∷ c.vertices.result.now) c.cell_points.result = subst (λ (e : ℕ). IsMovedFrom e (o.vertex ∷ c.vertices.result.now) c.cell_points.result) (c.from-d.ensures ∙ d) c.cell_points.ensures in
    subst (λ (l : List (List (List ℤ))). AreCellPointsBelow (dimension_of t) t c.args.facet.now (suc c.args.class) l) (sym c.in-Ok.ensures.items)
    (cell_more (dimension_of t) c.requires.delaunay.0 t c.args.facet.now c.args.class c.args.all.now.items o.vertex o.expression.scale o.expression.coefficients c.vertices.result.now c.cell_points.result k c.requires.class c.requires.from c.in-Some.ensures (c.vertices.ensures ∙ c.class-simplex.ensures) m)

pub returns-in-None : goal.returns-in-None
returns-in-None c = no_cell_more (dimension_of c.args.t.now) c.args.t.now c.args.facet.now c.args.class c.args.all.now.items c.requires.from c.in-None.ensures
