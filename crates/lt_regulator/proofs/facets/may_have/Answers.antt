use Rattle.std.proofs.Common.{get_or, [], ◌∙◌, ap, suc, sym, length}
use Rattle.std.proofs.lemmas.List.Elements.{Contains-get_or}
use Rattle.lt_triang.specs.Kept.{dimension_of}
use Rattle.lt_triang.proofs.Expressed.{dimension_is}
use Rattle.lt_regulator.proofs.Near.{member_class, facet_place}
use Rattle.lt_regulator.proofs.Tested.{multiple_of, one_outer}
use Rattle.lt_regulator.proofs.facets.may_have.Goals as goal

pub signs_agree-requires-clause-count : goal.signs_agree-requires-clause-count
signs_agree-requires-clause-count c =
    rw (c.from.ensures, c.vertices.ensures, c.class-simplex.ensures) (let k = member_class c.dimension-dimension.result c.args.t.now c.args.class c.dimension-dimension.ensures c.requires.class in k.simplex.count)

pub signs_agree-requires-clause-points : goal.signs_agree-requires-clause-points
signs_agree-requires-clause-points c =
    rw (c.from.ensures, c.vertices.ensures, c.class-simplex.ensures) (let k = member_class c.dimension-dimension.result c.args.t.now c.args.class c.dimension-dimension.ensures c.requires.class in k.simplex.points)

pub signs_agree-requires-clause-dimension : goal.signs_agree-requires-clause-dimension
signs_agree-requires-clause-dimension c =
    c.outer_vertex-vertex.ensures.dimension ∙ sym (dimension_is c.dimension-dimension.result c.args.t.now c.dimension-dimension.ensures) ∙ sym c.from.ensures

pub signs_agree-requires-clause-numbers : goal.signs_agree-requires-clause-numbers
signs_agree-requires-clause-numbers c =
    let o = c.outer_numbers-numbers.ensures in
    ap length (c.as_slice.ensures.value ∙ o.is) ∙ ap suc (o.expression.one_each ∙ sym (ap length (c.vertices.ensures ∙ c.class-simplex.ensures)))

pub returns : goal.returns
returns c other r =
    let t = c.args.t.now in
    let s = get_or t c.args.class [] in
    let d = dimension_of t in
    let q = c.requires.delaunay in
    let o = c.outer_numbers-numbers.ensures in
    let here = Contains-get_or t c.args.class [] c.requires.class in
    let place = facet_place c.dimension-dimension.result t c.args.class c.args.facet c.dimension-dimension.ensures c.requires.class c.requires.facet in
    let m = multiple_of d q.0 t s c.args.facet o.vertex o.scale o.coefficients _ q.1 here place o.outer o.expression r in
    let same = one_outer d q.0 t s c.args.facet o.vertex c.outer_vertex-vertex.result q.1 here place o.outer c.outer_vertex-vertex.ensures.vertex in
    c.signs_agree.ensures other o.scale o.coefficients (c.as_slice.ensures.value ∙ o.is) m.0 m.1 (rw (c.vertices.ensures, c.class-simplex.ensures, c.numbers.ensures.value) (rw same at m.2))
