use Rattle.std.proofs.Common.{◌≡◌, ◌∙◌, ◌∷◌, ℕ, [], get_or, subst, ap, sym, length}
use Rattle.std.specs.Bool.{◌==◌}
use Rattle.std.proofs.lemmas.Bool.{false≢true}
use Rattle.lt_triang.specs.Across.{IsOuterVertex}
use Rattle.lt_triang.specs.Kept.{dimension_of}
use Rattle.lt_triang.specs.Walled.{shift_to, vertex_to}
use Rattle.lt_triang.proofs.Expressed.{dimension_is}
use Rattle.lt_triang.proofs.Walled.{outer_here, kept_some}
use Rattle.lt_triang.proofs.triangulations.Triangulation.outer_numbers.Goals as goal

pub returns : goal.returns
returns c =
    let t = c.args.self.now in
    let s = get_or t c.args.class [] in
    let d = c.dimension-dimension in
    let w = c.wall.result.now in
    let k = c.wall.ensures in
    let next = get_or t w.class [] in
    let o = outer_here d.result t c.args.class c.args.facet d.ensures c.requires.class c.requires.facet w.class w.vertex (shift_to s c.args.facet next w.vertex) k.first in
    let e : d.result ≡ dimension_of t = dimension_is d.result t d.ensures in
    record {
      vertex = vertex_to s c.args.facet next w.vertex;
      scale = k.scale;
      coefficients = k.coefficients;
      outer = subst (λ (n : ℕ). IsOuterVertex n t s c.args.facet (vertex_to s c.args.facet next w.vertex)) e o.vertex;
      expression = k.outer.expression;
      primitive = k.outer.primitive;
      below = k.outer.below;
      is = c.widened-numbers.ensures ∙ kept_some (k.scale ∷ k.coefficients) w.numbers.items k.numbers (λ none. false≢true (sym c.if-is_empty.false ∙ c.is_empty.ensures ∙ ap (λ (n : ℕ). n == 0) (ap length (c.widened-numbers.ensures ∙ none))));
    }
