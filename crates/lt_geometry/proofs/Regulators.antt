-- Each facet of a member has one regulator, the same from both sides, and positive at each form of the triangulation.
use Rattle.std.proofs.Common.{◌≡◌, ℕ, suc, ℤ, pos, negsuc, ◌-ℤ◌, ◌*ℤ◌, ◌<ℤ◌, neg_ℤ, ◌<◌, ◌*◌, refl, ap, arith, sym, ◌∙◌, subst, List, [], ◌∷◌, length, map, ◌↔◌}
use Rattle.std.proofs.lemmas.Int.{ints, by_lt_z}
use Rattle.std.specs.List.{Contains}
use Rattle.lt_model.proofs.Ring.{ring, var, neg, ◌⊖◌, ◌⊗◌}
use Rattle.lt_model.proofs.Inequalities.{mul_nonneg_z, natural}
use Rattle.lt_model.proofs.Squares.{length-scale}
use Rattle.lt_model.proofs.Vectors.{dot-scale}
use Rattle.lt_model.proofs.Excess.{same_from_dots, scale-dot, length-translate}
use Rattle.lt_model.proofs.Moved.{translate_all}
use Rattle.lt_model.proofs.Sets.{Contains-head}
use Rattle.lt_model.proofs.Expressions.{one_expression}
use Rattle.lt_model.specs.Vectors.{scale, dot, IsPrimitive}
use Rattle.lt_model.specs.Forms.{value, numbers_of_form}
use Rattle.lt_model.specs.Simplices.{IsSimplex, IsExpression, excess, translate}
use Rattle.lt_model.specs.Facets.{number_at, IsNeighbour}
use Rattle.lt_model.specs.Triangulations.{IsDelaunay}
use Rattle.lt_model.specs.Walls.{excess_normal, IsPair, IsRegulator}
use Rattle.lt_model.proofs.Points.{weighted}
use Rattle.lt_geometry.specs.Regulators.{outer_vertex, IsRegulatorAt}
use Rattle.lt_geometry.proofs.WalkEnds.{positive_excess}
use Rattle.lt_geometry.proofs.Normals.{normal_dot, normal_value, length-normal}
use Rattle.lt_geometry.proofs.Primitive.{same_primitive}
use Rattle.lt_geometry.proofs.PrimitiveParts.{primitive_part}
use Rattle.lt_geometry.proofs.Closed.{get_dimension}
use Rattle.lt_geometry.proofs.Unique.{one_neighbour}
use Rattle.lt_walls.proofs.Beside.{turned}
use Rattle.lt_geometry.proofs.Sides.{unique_neighbour, mutual_neighbour, aside}
use Rattle.lt_geometry.proofs.Fewness.{paving_of}

-- the outer vertex has d coordinates
pub length_outer : (d : ℕ) (a : List ℤ) (t : List (List (List ℤ))) → IsDelaunay d a t → (s : List (List ℤ)) (i : ℕ) (next : List (List ℤ)) (p : List ℤ) (j : ℕ) → IsNeighbour d t s i next p j → length (outer_vertex next p j) ≡ d
length_outer d a t k s i next p j nb =
    let c : IsSimplex d next = ((k.members next).0 nb.member).0.simplex in
    get_dimension d (translate p next) j (translate_all d p next nb.dimension c.points) (omega (arith, nb.place, length-translate p next, c.count))

-- the excess of the outer vertex, by any expression
pub lies_above : (d : ℕ) (a : List ℤ) (t : List (List (List ℤ))) (s : List (List ℤ)) (i : ℕ) (next : List (List ℤ)) (p : List ℤ) (j : ℕ) (c : ℤ) (b : List ℤ) → IsDelaunay d a t → Contains t s → i < suc d →
    IsNeighbour d t s i next p j → IsExpression s (outer_vertex next p j) c b → pos 0 <ℤ dot (excess_normal s (outer_vertex next p j) c b) a
lies_above d a t s i next p j c b k ms hi n x =
    let of = (k.members s).0 ms in
    subst (λ (z : ℤ). pos 0 <ℤ z) (sym (normal_value a s (outer_vertex next p j) c b))
    (positive_excess d a s (outer_vertex next p j) b c i of.0.simplex of.1 (length_outer d a t k s i next p j n) x (aside d a t s i next p j c b k ms hi n x).negative)

pub some_regulator : (d : ℕ) (a : List ℤ) (t : List (List (List ℤ))) (s : List (List ℤ)) (i : ℕ) → IsDelaunay d a t → Contains t s → i < suc d → (n : List ℤ) × IsRegulatorAt d t s i n
some_regulator d a t s i k ms hi =
    let (next, p, j, n) = k.closed s i ms hi in
    let f = n.beyond in
    let r = primitive_part (excess_normal s (outer_vertex next p j) f.scale f.coefficients) a (lies_above d a t s i next p j f.scale f.coefficients k ms hi n f.expression) in (
      r.n,
      record {
        next = next;
        shift = p;
        outer = j;
        neighbour = n;
        c = f.scale;
        b = f.coefficients;
        expression = f.expression;
        primitive = r.primitive;
        factor = r.k;
        some = r.k_pos;
        multiple = r.is;
      },
    )

-- ---- the regulators of the triangulation

pub to_pair : (d : ℕ) (t : List (List (List ℤ))) (s : List (List ℤ)) (i : ℕ) (n : List ℤ) → Contains t s → i < suc d → (r : IsRegulatorAt d t s i n) → IsPair d t n s (outer_vertex r.next r.shift r.outer) r.c r.b
to_pair d t s i n ms hi r = record {
  member = ms;
  facet = i;
  place = hi;
  next = r.next;
  shift = r.shift;
  outer = r.outer;
  neighbour = r.neighbour;
  vertex = refl;
  expression = r.expression;
  primitive = r.primitive;
  factor = r.factor;
  some = r.some;
  multiple = r.multiple;
}

pub from_pair : (d : ℕ) (t : List (List (List ℤ))) (n : List ℤ) (s : List (List ℤ)) (w : List ℤ) (c : ℤ) (b : List ℤ) → (h : IsPair d t n s w c b) → IsRegulatorAt d t s h.facet n
from_pair d t n s w c b h = record {
  next = h.next;
  shift = h.shift;
  outer = h.outer;
  neighbour = h.neighbour;
  c = c;
  b = b;
  expression = subst (λ (v : List ℤ). IsExpression s v c b) h.vertex h.expression;
  primitive = h.primitive;
  factor = h.factor;
  some = h.some;
  multiple = ap (λ (v : List ℤ). excess_normal s v c b) (sym h.vertex) ∙ h.multiple;
}

pub all_regulators : (d : ℕ) (t : List (List (List ℤ))) (n : List ℤ) → IsRegulator d t n ↔ ((s : List (List ℤ)) × (i : ℕ) × Contains t s × (i < suc d) × IsRegulatorAt d t s i n)
all_regulators d t n = (
  λ (s, w, c, b, h). (s, h.facet, h.member, h.place, from_pair d t n s w c b h),
  λ (s, i, ms, hi, r). (s, outer_vertex r.next r.shift r.outer, r.c, r.b, to_pair d t s i n ms hi r),
)

-- a Delaunay triangulation has a member
pub one_member : (t : List (List (List ℤ))) → 0 < length t → (s : List (List ℤ)) × Contains t s
one_member [] l = absurd (omega arith)
one_member (s ∷ t) l = (s, Contains-head s t)

-- and a regulator
pub has_regulator : (d : ℕ) (a : List ℤ) (t : List (List (List ℤ))) → IsDelaunay d a t → (n : List ℤ) × IsRegulator d t n
has_regulator d a t k =
    let (s, ms) = one_member t k.occupied in
    let r = some_regulator d a t s 0 k ms (omega arith) in
    (r.0, (all_regulators d t r.0).1 (s, 0, ms, omega arith, r.1))

pub from_multiple : (a x : ℤ) → pos 0 <ℤ a → pos 0 <ℤ (a *ℤ x) → pos 0 <ℤ x
from_multiple a x p h = by_lt_z (pos 0) x (λ l. l) (λ l. absurd (omega (arith, ints, h, mul_nonneg_z a (neg_ℤ x) (omega (arith, ints, p)) (omega (arith, ints, l)), ring (a ∷ x ∷ []) (var 0 ⊗ neg (var 1)) (neg (var 0 ⊗ var 1)) tt)))

-- where the triangulation is Delaunay, its regulators are positive
pub positive_at : (d : ℕ) (a : List ℤ) (t : List (List (List ℤ))) → IsDelaunay d a t → (n : List ℤ) → IsRegulator d t n → pos 0 <ℤ dot n a
positive_at d a t k n h =
    let (s, i, ms, hi, r) = (all_regulators d t n).0 h in
    let above = lies_above d a t s i r.next r.shift r.outer r.c r.b k ms hi r.neighbour r.expression in
    let value : dot (excess_normal s (outer_vertex r.next r.shift r.outer) r.c r.b) a ≡ pos r.factor *ℤ dot n a = ap (λ (m : List ℤ). dot m a) r.multiple ∙ scale-dot (pos r.factor) n a in
    let some : 0 < r.factor = r.some in
    from_multiple (pos r.factor) (dot n a) (omega (arith, ints, some)) (subst (λ (z : ℤ). pos 0 <ℤ z) value above)

pub length-at : (d : ℕ) (a : List ℤ) (t : List (List (List ℤ))) (s : List (List ℤ)) (i : ℕ) (n : List ℤ) → IsDelaunay d a t → Contains t s → IsRegulatorAt d t s i n → length n ≡ numbers_of_form d
length-at d a t s i n k ms r =
    let c = ((k.members s).0 ms).0.simplex in
    sym (length-scale (pos r.factor) n) ∙ ap length (sym r.multiple)
    ∙ length-normal d s (outer_vertex r.next r.shift r.outer) r.c r.b c.points (omega (arith, c.count)) (length_outer d a t k s i r.next r.shift r.outer r.neighbour) r.expression.one_each

pub regulators_positive : (d : ℕ) (a : List ℤ) (t : List (List (List ℤ))) (n : List ℤ) → IsDelaunay d a t → IsRegulator d t n → IsPrimitive n × (length n ≡ numbers_of_form d) × (pos 0 <ℤ dot n a)
regulators_positive d a t n k r =
    let (s, i, ms, hi, at) = (all_regulators d t n).0 r in
    (at.primitive, length-at d a t s i n k ms at, positive_at d a t k n r)

-- ---- one at each facet

times_positive : (x y : ℕ) → 0 < x → 0 < y → 0 < x * y
times_positive x y u v = grind arith

-- two expressions of one point have proportional excesses
pub proportional_excess : (d : ℕ) (vs : List (List ℤ)) (x : List ℤ) (c c' : ℤ) (b b' : List ℤ) → IsSimplex d vs → IsExpression vs x c b → IsExpression vs x c' b' → (q : List ℤ) → c' *ℤ excess q vs x c b ≡ c *ℤ excess q vs x c' b'
proportional_excess d vs x c c' b b' s e e' q =
    let same : scale c' b ≡ scale c b' = one_expression d vs (pos 1) x b b' c c' s (weighted vs x c b e) (weighted vs x c' b' e') in
    let at : c' *ℤ dot b (map (value q) vs) ≡ c *ℤ dot b' (map (value q) vs) = sym (scale-dot c' b (map (value q) vs)) ∙ ap (λ (l : List ℤ). dot l (map (value q) vs)) same ∙ scale-dot c b' (map (value q) vs) in
    end (value q x) (dot b (map (value q) vs)) (dot b' (map (value q) vs)) at
  where
    end : (v y z : ℤ) → c' *ℤ y ≡ c *ℤ z → c' *ℤ (c *ℤ v -ℤ y) ≡ c *ℤ (c' *ℤ v -ℤ z)
    end v y z h =
        let l : c' *ℤ (c *ℤ v -ℤ y) ≡ c *ℤ (c' *ℤ v) -ℤ c' *ℤ y = ring (c ∷ c' ∷ v ∷ y ∷ []) (var 1 ⊗ (var 0 ⊗ var 2 ⊖ var 3)) (var 0 ⊗ (var 1 ⊗ var 2) ⊖ var 1 ⊗ var 3) tt in
        let r : c *ℤ (c' *ℤ v -ℤ z) ≡ c *ℤ (c' *ℤ v) -ℤ c *ℤ z = ring (c ∷ c' ∷ v ∷ z ∷ []) (var 0 ⊗ (var 1 ⊗ var 2 ⊖ var 3)) (var 0 ⊗ (var 1 ⊗ var 2) ⊖ var 0 ⊗ var 3) tt in
        omega (arith, ints, l, r, h)

pub one_regulator : (d : ℕ) (a : List ℤ) (t : List (List (List ℤ))) (s : List (List ℤ)) (i : ℕ) (n n' : List ℤ) → IsDelaunay d a t → Contains t s → i < suc d → IsRegulatorAt d t s i n → IsRegulatorAt d t s i n' → n ≡ n'
one_regulator d a t s i n n' k ms hi r r' =
    let f = natural r.c r.expression.positive in
    let f' = natural r'.c r'.expression.positive in
    same_primitive (f'.0 * r.factor) (f.0 * r'.factor) n n' (times_positive f'.0 r.factor f'.2 r.some) (times_positive f.0 r'.factor f.2 r'.some) (length-at d a t s i n k ms r ∙ sym (length-at d a t s i n' k ms r')) r.primitive r'.primitive
    (λ u. left u f'.0 f'.1 ∙ both u ∙ sym (right u f.0 f.1))
  where
    w : List ℤ
    w = outer_vertex r.next r.shift r.outer

    w' : List ℤ
    w' = outer_vertex r'.next r'.shift r'.outer

    product : (m k : ℕ) (x y : ℤ) → pos k *ℤ x ≡ y → pos (m * k) *ℤ x ≡ pos m *ℤ y
    product m k x y h =
        let e : pos (m * k) ≡ pos m *ℤ pos k = omega (arith, ints) in
        ap (λ (z : ℤ). z *ℤ x) e ∙ ring (pos m ∷ pos k ∷ x ∷ []) (var 0 ⊗ var 1 ⊗ var 2) (var 0 ⊗ (var 1 ⊗ var 2)) tt ∙ ap (λ (z : ℤ). pos m *ℤ z) h

    value_of : (n : List ℤ) (r : IsRegulatorAt d t s i n) (u : List ℤ) → pos r.factor *ℤ dot u n ≡ excess u s (outer_vertex r.next r.shift r.outer) r.c r.b
    value_of n r u = sym (dot-scale u (pos r.factor) n) ∙ ap (dot u) (sym r.multiple) ∙ normal_dot u s (outer_vertex r.next r.shift r.outer) r.c r.b

    left : (u : List ℤ) (m : ℕ) → r'.c ≡ pos m → pos (m * r.factor) *ℤ dot u n ≡ r'.c *ℤ excess u s w r.c r.b
    left u m e = product m r.factor (dot u n) (excess u s w r.c r.b) (value_of n r u) ∙ ap (λ (z : ℤ). z *ℤ excess u s w r.c r.b) (sym e)

    right : (u : List ℤ) (m : ℕ) → r.c ≡ pos m → pos (m * r'.factor) *ℤ dot u n' ≡ r.c *ℤ excess u s w' r'.c r'.b
    right u m e = product m r'.factor (dot u n') (excess u s w' r'.c r'.b) (value_of n' r' u) ∙ ap (λ (z : ℤ). z *ℤ excess u s w' r'.c r'.b) (sym e)

    same : w ≡ w'
    same = one_neighbour d a t s i r.next r'.next r.shift r'.shift r.outer r'.outer (paving_of d a t k) ms hi r.neighbour r'.neighbour

    both : (u : List ℤ) → r'.c *ℤ excess u s w r.c r.b ≡ r.c *ℤ excess u s w' r'.c r'.b
    both u =
        proportional_excess d s w r.c r'.c r.b r'.b ((k.members s).0 ms).0.simplex r.expression (subst (λ (v : List ℤ). IsExpression s v r'.c r'.b) (sym same) r'.expression) u
        ∙ ap (λ (v : List ℤ). r.c *ℤ excess u s v r'.c r'.b) same

-- ---- the same from both sides

pub mutual_regulator : (d : ℕ) (a : List ℤ) (t : List (List (List ℤ))) (s : List (List ℤ)) (i : ℕ) (next : List (List ℤ)) (p : List ℤ) (j : ℕ) (n : List ℤ) → IsDelaunay d a t → Contains t s → i < suc d →
    IsNeighbour d t s i next p j → IsRegulatorAt d t s i n → IsRegulatorAt d t next j n
mutual_regulator d a t s i next p j n k ms hi nb r =
    let same = unique_neighbour d a t s i r.next next r.shift p r.outer j k ms hi r.neighbour nb in
    subst (λ (m : ℕ). IsRegulatorAt d t next m n) same.2 (subst (λ (l : List (List ℤ)). IsRegulatorAt d t l r.outer n) same.0 there)
  where
    there : IsRegulatorAt d t r.next r.outer n
    there =
        let o = aside d a t s i r.next r.shift r.outer r.c r.b k ms hi r.neighbour r.expression in
        let back = mutual_neighbour d a t s i r.next r.shift r.outer k ms hi r.neighbour in
        let w : List ℤ = outer_vertex r.next r.shift r.outer in
        let v : List ℤ = outer_vertex s (scale (negsuc 0) r.shift) i in
        let x : ℤ = neg_ℤ (number_at i r.b) in
        let f : List ℤ = turned i r.outer r.c r.b in
        let cs = ((k.members s).0 ms).0.simplex in
        let cn = ((k.members r.next).0 r.neighbour.member).0.simplex in
        let lw = length-normal d s w r.c r.b cs.points (omega (arith, cs.count)) (length_outer d a t k s i r.next r.shift r.outer r.neighbour) r.expression.one_each in
        let lv = length-normal d r.next v x f cn.points (omega (arith, cn.count)) (length_outer d a t k r.next r.outer s (scale (negsuc 0) r.shift) i back) o.expression.one_each in
        record {
          next = s;
          shift = scale (negsuc 0) r.shift;
          outer = i;
          neighbour = back;
          c = x;
          b = f;
          expression = o.expression;
          primitive = r.primitive;
          factor = r.factor;
          some = r.some;
          multiple = same_from_dots (excess_normal r.next v x f) (excess_normal s w r.c r.b) (lv ∙ sym lw) (λ u. normal_dot u r.next v x f ∙ o.same_excess u ∙ sym (normal_dot u s w r.c r.b)) ∙ r.multiple;
        }
