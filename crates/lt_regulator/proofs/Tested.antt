-- The excess of the outer vertex at a facet, by any expression, is a positive multiple of the regulator.
use Rattle.std.proofs.Common.{◌≡◌, ℕ, suc, ℤ, pos, ◌<◌, ap, sym, ◌∙◌, subst, List}
use Rattle.std.specs.List.{Contains}
use Rattle.lt_model.specs.Vectors.{scale}
use Rattle.lt_model.specs.Simplices.{IsExpression}
use Rattle.lt_model.specs.Triangulations.{IsDelaunay}
use Rattle.lt_model.specs.Walls.{excess_normal}
use Rattle.lt_geometry.specs.Regulators.{outer_vertex, IsRegulatorAt}
use Rattle.lt_geometry.proofs.PrimitiveParts.{primitive_part}
use Rattle.lt_geometry.proofs.Regulators.{lies_above, one_regulator}
use Rattle.lt_geometry.proofs.Sides.{unique_neighbour}
use Rattle.lt_triang.specs.Across.{IsOuterVertex}

pub multiple_of : (d : ℕ) (q : List ℤ) (t : List (List (List ℤ))) (s : List (List ℤ)) (i : ℕ) (w : List ℤ) (c : ℤ) (b n : List ℤ) → IsDelaunay d q t → Contains t s → i < suc d →
    IsOuterVertex d t s i w → IsExpression s w c b → IsRegulatorAt d t s i n → (f : ℕ) × (0 < f) × (excess_normal s w c b ≡ scale (pos f) n)
multiple_of d q t s i w c b n k m hi o x r =
    let v : List ℤ = outer_vertex o.next o.shift o.outer in
    let x' : IsExpression s v c b = subst (λ (y : List ℤ). IsExpression s y c b) o.vertex x in
    let p = primitive_part (excess_normal s v c b) q (lies_above d q t s i o.next o.shift o.outer c b k m hi o.neighbour x') in
    let own : IsRegulatorAt d t s i p.n = record {
      next = o.next;
      shift = o.shift;
      outer = o.outer;
      neighbour = o.neighbour;
      c = c;
      b = b;
      expression = x';
      primitive = p.primitive;
      factor = p.k;
      some = p.k_pos;
      multiple = p.is;
    } in
    (p.k, p.k_pos, ap (λ (y : List ℤ). excess_normal s y c b) o.vertex ∙ p.is ∙ ap (scale (pos p.k)) (one_regulator d q t s i p.n n k m hi own r))

-- a facet has one outer vertex
pub one_outer : (d : ℕ) (q : List ℤ) (t : List (List (List ℤ))) (s : List (List ℤ)) (i : ℕ) (v w : List ℤ) → IsDelaunay d q t → Contains t s → i < suc d → IsOuterVertex d t s i v → IsOuterVertex d t s i w → v ≡ w
one_outer d q t s i v w k m hi o x =
    let same = unique_neighbour d q t s i o.next x.next o.shift x.shift o.outer x.outer k m hi o.neighbour x.neighbour in
    o.vertex ∙ rw (same.0, same.1, same.2) (sym x.vertex)
