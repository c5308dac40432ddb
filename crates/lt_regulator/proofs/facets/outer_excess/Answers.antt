use Rattle.std.proofs.Common.{arith, ◌*◌, ◌≡◌, get_or, [], ◌∙◌, ap, suc, sym, subst, List, ℤ, length}
use Rattle.std.proofs.lemmas.List.Elements.{Contains-get_or, All-weaker}
use Rattle.lt_model.specs.Limits.{span_limit}
use Rattle.lt_lattice.specs.Ranges.{IsWithin}
use Rattle.lt_triang.proofs.Gaps.{small_limit}
use Rattle.lt_model.specs.Simplices.{IsExpression}
use Rattle.lt_triang.specs.Kept.{dimension_of}
use Rattle.lt_triang.proofs.Expressed.{dimension_is}
use Rattle.lt_regulator.proofs.Near.{member_class, member_within, facet_place}
use Rattle.lt_regulator.proofs.Tested.{one_outer}
use Rattle.lt_regulator.proofs.facets.outer_excess.Goals as goal

pub excess_of-requires-clause-count : goal.excess_of-requires-clause-count
excess_of-requires-clause-count c =
    rw (c.from-dimension.ensures, c.vertices.ensures, c.class-simplex.ensures) (let k = member_class c.dimension.result c.args.t.now c.args.class c.dimension.ensures c.requires.class in k.simplex.count)

pub excess_of-requires-clause-dimension : goal.excess_of-requires-clause-dimension
excess_of-requires-clause-dimension c =
    c.outer_vertex-vertex.ensures.dimension ∙ sym (dimension_is c.dimension.result c.args.t.now c.dimension.ensures) ∙ sym c.from-dimension.ensures

pub excess_of-requires-clause-points : goal.excess_of-requires-clause-points
excess_of-requires-clause-points c =
    rw (c.from-dimension.ensures, c.vertices.ensures, c.class-simplex.ensures) (let k = member_class c.dimension.result c.args.t.now c.args.class c.dimension.ensures c.requires.class in k.simplex.points)

pub excess_of-requires-clause-near : goal.excess_of-requires-clause-near
excess_of-requires-clause-near c =
    rw (c.vertices.ensures, c.class-simplex.ensures) (member_within c.dimension.result c.args.t.now c.args.class c.dimension.ensures c.requires.class)

pub excess_of-requires-clause-near_too : goal.excess_of-requires-clause-near_too
excess_of-requires-clause-near_too c =
    let d = dimension_of c.args.t.now in
    let l = small_limit d in
    let more : (x : ℤ) → IsWithin (2 * span_limit d) x → IsWithin 800 x = λ x h. omega (arith, h, l) in
    All-weaker (IsWithin (2 * span_limit d)) (IsWithin 800) more c.outer_vertex-vertex.result c.outer_vertex-vertex.ensures.near

pub excess_of-requires-clause-numbers : goal.excess_of-requires-clause-numbers
excess_of-requires-clause-numbers c =
    let o = c.outer_numbers-numbers.ensures in
    ap length (c.as_slice.ensures.value ∙ o.is) ∙ ap suc (o.expression.one_each ∙ sym (ap length (c.vertices.ensures ∙ c.class-simplex.ensures)))

pub excess_of-requires-clause-below : goal.excess_of-requires-clause-below
excess_of-requires-clause-below c =
    let o = c.outer_numbers-numbers.ensures in
    rw (c.as_slice.ensures.value, o.is) o.below

pub returns : goal.returns
returns c =
    let t = c.args.t.now in
    let s = get_or t c.args.class [] in
    let d = dimension_of t in
    let q = c.requires.delaunay in
    let o = c.outer_numbers-numbers.ensures in
    let v = c.outer_vertex-vertex in
    let place = facet_place c.dimension.result t c.args.class c.args.facet c.dimension.ensures c.requires.class c.requires.facet in
    let same = one_outer d q.0 t s c.args.facet o.vertex v.result q.1 (Contains-get_or t c.args.class [] c.requires.class) place o.outer v.ensures.vertex in
    let is : c.vertices.result.now ≡ s = c.vertices.ensures ∙ c.class-simplex.ensures in
    record {
      value = record {
        vertex = v.result;
        c = o.scale;
        b = o.coefficients;
        outer = v.ensures.vertex;
        expression = subst (λ (w : List ℤ). IsExpression s w o.scale o.coefficients) same o.expression;
        value = rw is at (c.excess_of.ensures.value o.scale o.coefficients (c.as_slice.ensures.value ∙ o.is));
      };
      below = c.excess_of.ensures.below;
    }
