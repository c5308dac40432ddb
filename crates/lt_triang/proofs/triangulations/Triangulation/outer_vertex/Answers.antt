use Rattle.std.proofs.Common.{◌≡◌, ◌*◌, ◌∙◌, ℕ, ℤ, List, get_or, [], subst}
use Rattle.std.specs.List.{All}
use Rattle.lt_model.specs.Limits.{span_limit}
use Rattle.lt_model.specs.Vectors.{plus}
use Rattle.lt_lattice.specs.Ranges.{IsWithin}
use Rattle.lt_triang.specs.Across.{IsOuterVertex}
use Rattle.lt_triang.specs.Kept.{dimension_of}
use Rattle.lt_triang.proofs.Expressed.{IsOuter, dimension_is}
use Rattle.lt_triang.proofs.Walled.{outer_here}
use Rattle.lt_triang.proofs.triangulations.Triangulation.outer_vertex.Goals.{After-neighbour-neighbour}
use Rattle.lt_triang.proofs.triangulations.Triangulation.outer_vertex.Goals as goal

-- what the neighbour says of its vertex outside
told : (c : After-neighbour-neighbour) → IsOuter c.dimension-dimension.result c.args.self.now (get_or c.args.self.now c.args.class []) c.args.facet (get_or c.args.self.now c.neighbour-neighbour.result.class []) c.neighbour-neighbour.result.shift c.neighbour-neighbour.result.vertex
told c =
    let n = c.neighbour-neighbour in
    outer_here c.dimension-dimension.result c.args.self.now c.args.class c.args.facet c.dimension-dimension.ensures c.requires.class c.requires.facet n.result.class n.result.vertex n.result.shift n.ensures

pub vertex_moved-requires-clause-within : goal.vertex_moved-requires-clause-within
vertex_moved-requires-clause-within c =
    let o = told (goal.at.vertex_moved-requires-clause-within c).After-neighbour-neighbour in
    rw (c.member-next.ensures, c.as_slice.ensures.value, c.self.view_is) o.point

pub returns : goal.returns
returns c =
    let t = c.args.self.now in
    let s = get_or t c.args.class [] in
    let n = c.neighbour-neighbour.result in
    let d = c.dimension-dimension.result in
    let o = told (goal.at.returns c).After-neighbour-neighbour in
    let v : c.vertex_moved.result ≡ plus (get_or (get_or t n.class []) n.vertex []) n.shift = rw (c.member-next.ensures, c.as_slice.ensures.value, c.self.view_is) at c.vertex_moved.ensures in
    let e : d ≡ dimension_of t = dimension_is d t c.dimension-dimension.ensures in
    let w : List ℤ = plus (get_or (get_or t n.class []) n.vertex []) n.shift in
    rw v (record {
      vertex = subst (λ (k : ℕ). IsOuterVertex k t s c.args.facet w) e o.vertex;
      dimension = o.dimension ∙ e;
      near = subst (λ (k : ℕ). All (IsWithin (2 * span_limit k)) w) e o.near;
    })
