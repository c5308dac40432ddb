use Rattle.std.proofs.Common.{◌∙◌, ◌∷◌, ◌*◌, suc, ℕ, [], ap, sym, subst, length, get_or}
use Rattle.std.specs.List.{All}
use Rattle.lt_model.specs.Limits.{span_limit}
use Rattle.lt_lattice.specs.Ranges.{IsWithin}
use Rattle.lt_triang.specs.Indexed.{IsOuterIn}
use Rattle.lt_triang.proofs.Expressed.{member_dimension}
use Rattle.lt_triang.proofs.Walled.{outer_here, wall_outer, outer_same, kept_all}
use Rattle.lt_triang.proofs.triangulations.Triangulation.across.Goals.{in-Some, in-None}
use Rattle.lt_triang.proofs.triangulations.Triangulation.across.Goals as goal

pub vertex_moved-vertex-requires-clause-within : goal.vertex_moved-vertex-requires-clause-within
vertex_moved-vertex-requires-clause-within c =
    let n = c.neighbour-neighbour in
    let o = outer_here c.dimension-dimension.result c.args.self.now c.args.class c.args.facet c.dimension-dimension.ensures c.requires.class c.requires.facet n.result.class n.result.vertex n.result.shift n.ensures in
    rw (c.member-next.ensures, c.as_slice.ensures.value, c.self.view_is) o.point

pub expression-expression-requires-clause-dimension : goal.expression-expression-requires-clause-dimension
expression-expression-requires-clause-dimension c =
    let n = c.neighbour-neighbour in
    let d = c.dimension-dimension in
    let o = outer_here d.result c.args.self.now c.args.class c.args.facet d.ensures c.requires.class c.requires.facet n.result.class n.result.vertex n.result.shift n.ensures in
    let v = rw (c.member-next.ensures, c.as_slice.ensures.value, c.self.view_is) at c.vertex_moved-vertex.ensures in
    ap length c.class.ensures ∙ member_dimension d.result c.args.self.now c.args.class d.ensures c.requires.class ∙ ap suc (sym (ap length v ∙ o.dimension))

pub expression-expression-requires-clause-near : goal.expression-expression-requires-clause-near
expression-expression-requires-clause-near c =
    let n = c.neighbour-neighbour in
    let d = c.dimension-dimension in
    let o = outer_here d.result c.args.self.now c.args.class c.args.facet d.ensures c.requires.class c.requires.facet n.result.class n.result.vertex n.result.shift n.ensures in
    let v = rw (c.member-next.ensures, c.as_slice.ensures.value, c.self.view_is) at c.vertex_moved-vertex.ensures in
    let near : All (IsWithin (2 * span_limit d.result)) c.vertex_moved-vertex.result = rw v o.near in
    subst (λ (m : ℕ). All (IsWithin (2 * span_limit m)) c.vertex_moved-vertex.result) (sym (ap length v ∙ o.dimension)) near

pub returns : goal.returns
returns c =
    let t = c.args.self.now in
    let n = c.neighbour-neighbour in
    let d = c.dimension-dimension in
    let v = rw (c.member-next.ensures, c.as_slice.ensures.value, c.self.view_is) at c.vertex_moved-vertex.ensures in
    let o : IsOuterIn (get_or t c.args.class []) (get_or t n.result.class []) n.result.shift n.result.vertex c.vertex_moved-vertex.result c.wall.ensures.scale c.wall.ensures.coefficients =
    wall_outer d.result t c.args.class c.args.facet d.ensures c.requires.class c.requires.facet c.wall.result.now c.wall.ensures n.result.class n.result.vertex n.result.shift c.vertex_moved-vertex.result n.ensures v in
    elim c.match-expression.branch [
      | in-Some w ↦
          let x = c.match-expression.expression in
          let e = kept_all (c.wall.ensures.scale ∷ c.wall.ensures.coefficients) c.wall.result.now.numbers.items x.scale x.coefficients c.wall.ensures.numbers (rw w.expression-is w.in-Some.ensures) in
          record {
            first = n.ensures;
            outer = outer_same (get_or t c.args.class []) (get_or t n.result.class []) n.result.shift n.result.vertex c.vertex_moved-vertex.result c.wall.ensures.scale c.wall.ensures.coefficients x.scale x.coefficients o e;
          }
      | in-None w ↦
          let x = c.match-expression.expression in
          let made = rw w.class.ensures at w.expression-expression.ensures in
          record { first = n.ensures; outer = rw w.expression-is (record { vertex = v; expression = made.expression; primitive = made.primitive; below = made.below }) }
    ]
