use Rattle.std.proofs.Common.{◌≡◌, ℕ, ℤ, suc, ◌∷◌, [], List, sym, ◌∙◌, subst, arith, get_or, ◌*◌, ◌↔◌, ◌⊎◌}
use Rattle.std.specs.List.{Contains}
use Rattle.std.proofs.lemmas.List.Elements.{Contains-get_or}
use Rattle.std.proofs.lemmas.Result.{IfOk-weaker}
use Rattle.lt_model.specs.Limits.{span_limit}
use Rattle.lt_model.specs.Simplices.{IsClass}
use Rattle.lt_triang.specs.Bounds.{AreNear}
use Rattle.lt_triang.specs.Kept.{dimension_of}
use Rattle.lt_triang.proofs.Expressed.{dimension_is}
use Rattle.lt_geometry.specs.Exchanges.{IsMadeFrom}
use Rattle.lt_flip.specs.Flipped.{AreParts}
use Rattle.lt_flip.proofs.Collected.{IsFlippable, kept_more, made_there}
use Rattle.lt_flip.proofs.flips.push_flipped.Goals as goal

pub push_exchanged-requires-clause-class : goal.push_exchanged-requires-clause-class
push_exchanged-requires-clause-class c =
    let t = c.args.t.now in
    let k : IsClass c.dimension.result (get_or t c.args.class []) = c.dimension.ensures.classes (get_or t c.args.class []) (Contains-get_or t c.args.class [] c.requires.class) in
    rw (c.vertices.ensures, c.class-simplex.ensures, c.from-d.ensures) k

pub push_exchanged-requires-clause-dimension : goal.push_exchanged-requires-clause-dimension
push_exchanged-requires-clause-dimension c =
    let d : c.dimension.result ≡ dimension_of c.args.t.now = dimension_is c.dimension.result c.args.t.now c.dimension.ensures in
    c.in-Some.ensures.dimension ∙ sym d ∙ sym c.from-d.ensures

pub push_exchanged-requires-clause-near : goal.push_exchanged-requires-clause-near
push_exchanged-requires-clause-near c =
    let t = c.args.t.now in
    let d : c.dimension.result ≡ dimension_of t = dimension_is c.dimension.result t c.dimension.ensures in
    let s : c.vertices.result.now ≡ get_or t c.args.class [] = c.vertices.ensures ∙ c.class-simplex.ensures in
    subst (λ (l : List (List ℤ)). AreNear (2 * span_limit c.from-d.result) (c.in-Some.outer.vertex ∷ l)) (sym s)
    (subst (λ (e : ℕ). AreNear (2 * span_limit e) (c.in-Some.outer.vertex ∷ get_or t c.args.class [])) (sym (c.from-d.ensures ∙ d)) c.in-Some.ensures.near)

pub returns-in-Some : goal.returns-in-Some
returns-in-Some c =
    let t = c.args.t.now in
    let d : c.dimension.result ≡ dimension_of t = dimension_is c.dimension.result t c.dimension.ensures in
    let k : IsFlippable (dimension_of t) c.requires.delaunay.0 t c.args.facet.now = record { two = omega (arith, d, c.dimension.ensures.low); delaunay = c.requires.delaunay.1; facet = c.requires.facet } in
    let o = c.in-Some.outer in
    IfOk-weaker c.push_exchanged.result (λ x. (r : List (List ℤ)) → Contains c.push_exchanged.new.all.items r ↔ (Contains c.args.made.now.items r ⊎ ((k : ℕ) × IsMadeFrom c.from-d.result c.vertices.result.now o.vertex o.expression.coefficients k r)))
    (λ x. AreParts (dimension_of t) t c.args.facet.now (suc c.args.class) c.args.kept.now.items c.push_exchanged.new.all.items)
    (λ x is. made_there (dimension_of t) c.requires.delaunay.0 t c.args.facet.now c.args.class c.args.kept.now.items c.args.made.now.items c.push_exchanged.new.all.items o.vertex o.expression.scale o.expression.coefficients c.from-d.result c.vertices.result.now k c.requires.class c.requires.from c.in-Some.ensures (c.from-d.ensures ∙ d) (c.vertices.ensures ∙ c.class-simplex.ensures) is)
    c.push_exchanged.ensures

pub returns-in-Ok : goal.returns-in-Ok
returns-in-Ok c =
    let t = c.args.t.now in
    let d : c.dimension.result ≡ dimension_of t = dimension_is c.dimension.result t c.dimension.ensures in
    let k : IsFlippable (dimension_of t) c.requires.delaunay.0 t c.args.facet.now = record { two = omega (arith, d, c.dimension.ensures.low); delaunay = c.requires.delaunay.1; facet = c.requires.facet } in
    subst (λ (l : List ℕ). AreParts (dimension_of t) t c.args.facet.now (suc c.args.class) l c.args.made.now.items) (sym c.in-Ok.ensures.items)
    (kept_more (dimension_of t) c.requires.delaunay.0 t c.args.facet.now c.args.class c.args.kept.now.items c.args.made.now.items k c.requires.class c.requires.from c.in-None.ensures)
