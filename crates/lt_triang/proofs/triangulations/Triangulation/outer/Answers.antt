use Rattle.std.proofs.Common.{◌≡◌, ◌<◌, ◌*◌, ◌-◌, suc, ℕ, ℤ, List, [], length, get_or, arith, ap, sym, ◌∙◌, subst}
use Rattle.std.specs.List.{All}
use Rattle.std.proofs.lemmas.List.Elements.{Contains-get_or}
use Rattle.lt_model.specs.Limits.{span_limit}
use Rattle.lt_model.specs.Vectors.{plus}
use Rattle.lt_lattice.specs.Ranges.{IsWithin}
use Rattle.lt_triang.specs.Kept.{IsTriangulation, dimension_of}
use Rattle.lt_triang.specs.Across.{IsFirstAcross, IsOuterVertex}
use Rattle.lt_triang.proofs.Expressed.{IsOuter, outer, dimension_is, member_dimension}
use Rattle.lt_triang.proofs.triangulations.Triangulation.outer.Goals as goal

less_one : (d n : ℕ) → n ≡ suc d → n - 1 ≡ d
less_one d n e = omega arith

-- what the first neighbour at a facet of a member says
told : (d : ℕ) (t : List (List (List ℤ))) (m i n : ℕ) (p : List ℤ) (j : ℕ) → IsTriangulation d t → m < length t → i < length (get_or t m []) → IsFirstAcross (length (get_or t m []) - 1) t (get_or t m []) i n p j → IsOuter d t (get_or t m []) i (get_or t n []) p j
told d t m i n p j h lm li f =
    let l : length (get_or t m []) ≡ suc d = member_dimension d t m h lm in
    outer d t (get_or t m []) i n p j h (Contains-get_or t m [] lm) (omega (arith, l)) (subst (λ (e : ℕ). IsFirstAcross e t (get_or t m []) i n p j) (less_one d (length (get_or t m [])) l) f)

pub returns : goal.returns
returns c =
    let a = c.across.result in
    let t = c.args.self.now in
    let f = told c.dimension-dimension.result t c.args.class c.args.facet a.neighbour.class a.neighbour.shift a.neighbour.vertex c.dimension-dimension.ensures c.requires.class c.requires.facet c.across.ensures.first in
    let e : c.dimension-dimension.result ≡ dimension_of t = dimension_is c.dimension-dimension.result t c.dimension-dimension.ensures in
    let o = c.across.ensures.outer in
    record {
      vertex = subst (λ (w : List ℤ). IsOuterVertex (dimension_of t) t (get_or t c.args.class []) c.args.facet w) (sym o.vertex) (subst (λ (n : ℕ). IsOuterVertex n t (get_or t c.args.class []) c.args.facet (plus (get_or (get_or t a.neighbour.class []) a.neighbour.vertex []) a.neighbour.shift)) e f.vertex);
      dimension = ap length o.vertex ∙ f.dimension ∙ e;
      near = subst (λ (w : List ℤ). All (IsWithin (2 * span_limit (dimension_of t))) w) (sym o.vertex) (subst (λ (n : ℕ). All (IsWithin (2 * span_limit n)) (plus (get_or (get_or t a.neighbour.class []) a.neighbour.vertex []) a.neighbour.shift)) e f.near);
      expression = o.expression;
      primitive = o.primitive;
      below = o.below;
    }
