-- How many classes and regulators a triangulation has.
use Rattle.std.proofs.Common.{◌≡◌, ℕ, zero, suc, ℤ, pos, negsuc, ◌-ℤ◌, ◌*ℤ◌, ◌<◌, ◌≤◌, ◌-◌, ◌*◌, ◌^◌, refl, ap, ap₂, arith, sym, ◌∙◌, subst, List, [], ◌∷◌, ◌++◌, length, length-append, map, get_or, ◌⊎◌, inl, inr}
use Rattle.std.proofs.lemmas.Int.{ints}
use Rattle.std.specs.List.{Contains}
use Rattle.std.specs.List.Sorted.{IsStrictlySortedBy}
use Rattle.std.specs.declared.cmp.Ordering.TheVariants.{Less}
use Rattle.std.proofs.lemmas.List as lists
use Rattle.std.proofs.lemmas.List.Elements.{Contains-append_left, Contains-append_right}
use Rattle.lt_model.proofs.Integers.{mul_zero_z}
use Rattle.lt_model.proofs.Ring.{ring, var, ◌⊖◌, ◌⊗◌}
use Rattle.lt_model.proofs.Squares.{length-scale}
use Rattle.lt_model.proofs.Vectors.{dot-scale}
use Rattle.lt_model.proofs.Excess.{scale-dot, length-translate}
use Rattle.lt_model.proofs.Moved.{translate_all}
use Rattle.lt_model.proofs.Expressions.{one_expression}
use Rattle.lt_model.proofs.Opposite.{length-zeros}
use Rattle.lt_model.proofs.Sets.{Contains-head, Contains-cases, Contains-none, never_below_itself, number_list_cmp_total, simplex_cmp_total, Contains-map}
use Rattle.lt_model.specs.Order.{number_list_cmp, simplex_cmp}
use Rattle.lt_model.specs.Vectors.{scale, zeros, dot}
use Rattle.lt_model.specs.Forms.{value}
use Rattle.lt_model.specs.Simplices.{IsClass, IsExpression, translate, excess}
use Rattle.lt_model.specs.Forms.{numbers_of_form}
use Rattle.lt_model.specs.Triangulations.{IsDelaunay}
use Rattle.lt_geometry.specs.Paving.{IsPaving}
use Rattle.lt_model.specs.Facets.{IsNeighbour}
use Rattle.lt_model.specs.Walls.{IsPair, IsRegulator, AreRegulators}
use Rattle.lt_model.proofs.Points.{weighted}
use Rattle.lt_model.proofs.Inequalities.{natural}
use Rattle.lt_geometry.proofs.Closed.{get_dimension}
use Rattle.lt_geometry.proofs.Unique.{one_neighbour}
use Rattle.lt_geometry.proofs.Primitive.{same_primitive}
use Rattle.lt_geometry.proofs.Normals.{normal_dot, length-normal}
use Rattle.lt_geometry.proofs.Neighbours.{down_from, down_order}
use Rattle.lt_geometry.proofs.Choices.{fit, sublists, length-sublists, is_sublist, binomial_monotone, binomials}
use Rattle.lt_geometry.specs.Few.{binomial}
use Rattle.lt_geometry.proofs.Parity.{parity, same_parity, placed_class, index_of}
use Rattle.lt_geometry.proofs.EdgeLists.{edges_of, edge_from, all_rests, rests_has, rest_of, sorted_has, sorted_ascends, exact_points, led, in_whole, not_both, bit_lists, length-bits, bits_has}
use Rattle.lt_geometry.proofs.Rearranged.{IsDistinct}
use Rattle.lt_geometry.proofs.Sorting.{sorted_is_distinct}

pub paving_of : (d : ℕ) (q : List ℤ) (t : List (List (List ℤ))) → IsDelaunay d q t → IsPaving d q t
paving_of d q t h = record {
  classes = λ s m. ((h.members s).0 m).0;
  empty = λ s m. ((h.members s).0 m).1;
  closed = h.closed;
}

-- ---- vertices of members

pub record IsVertex (d : ℕ) (t : List (List (List ℤ))) (x : List ℤ) : Type 0 where
  pub owner : List (List ℤ)
  pub member : Contains t owner
  pub vertex : Contains owner x
  pub dimension : length x ≡ d
  pub sign : (x ≡ zeros d) ⊎ (number_list_cmp (zeros d) x ≡ Less)

pub scale-zeros : (k : ℤ) (d : ℕ) → scale k (zeros d) ≡ zeros d
scale-zeros k zero = refl
scale-zeros k (suc d) = ap₂ (λ (x : ℤ) (l : List ℤ). x ∷ l) (mul_zero_z k) (scale-zeros k d)

pub vertices_differ : (d : ℕ) (q : List ℤ) (t : List (List (List ℤ))) (x y : List ℤ) → IsDelaunay d q t → IsVertex d t x → IsVertex d t y → parity x ≡ parity y → x ≡ y
vertices_differ d q t x y h a b e =
    let ca = (h.members a.owner).0 a.member in
    let cb = (h.members b.owner).0 b.member in
    by a.sign b.sign (same_parity d q a.owner b.owner x y (placed_class d q a.owner ca.0 ca.1) (placed_class d q b.owner cb.0 cb.1) a.vertex b.vertex e) (same_parity d q b.owner a.owner y x (placed_class d q b.owner cb.0 cb.1) (placed_class d q a.owner ca.0 ca.1) b.vertex a.vertex (sym e)) a.dimension
  where
    by : (x ≡ zeros d) ⊎ (number_list_cmp (zeros d) x ≡ Less) → (y ≡ zeros d) ⊎ (number_list_cmp (zeros d) y ≡ Less) → (y ≡ x) ⊎ (y ≡ scale (negsuc 0) x) → (x ≡ y) ⊎ (x ≡ scale (negsuc 0) y) → length x ≡ d → x ≡ y
    by sx sy (inl f) g l = sym f
    by sx sy (inr f) (inl g) l = g
    by (inl sx) sy (inr f) (inr g) l = sx ∙ sym (f ∙ ap (scale (negsuc 0)) sx ∙ scale-zeros (negsuc 0) d)
    by (inr sx) (inl sy) (inr f) (inr g) l = g ∙ ap (scale (negsuc 0)) sy ∙ scale-zeros (negsuc 0) d ∙ sym sy
    by (inr sx) (inr sy) (inr f) (inr g) l = absurd (not_both d x sx (subst (λ (w : List ℤ). number_list_cmp (zeros d) w ≡ Less) f sy) l)

edge_vertex : (d : ℕ) (q : List ℤ) (t : List (List (List ℤ))) (x : List ℤ) → IsDelaunay d q t → Contains (edges_of t) x → IsVertex d t x
edge_vertex d q t x h c =
    let f = edge_from t x c in
    let cl = ((h.members f.0).0 f.1).0 in
    let l = led d f.0 cl in
    let m = in_whole f.0 x f.2 in
    let i = index_of f.0 x m in
    record {
      owner = f.0;
      member = f.1;
      vertex = m;
      dimension = ap length (sym i.2) ∙ get_dimension d f.0 i.0 cl.simplex.points i.1;
      sign = inr (l.above x f.2);
    }

zero_vertex : (d : ℕ) (q : List ℤ) (t : List (List (List ℤ))) → IsDelaunay d q t → IsVertex d t (zeros d)
zero_vertex d q [] h = absurd (omega (arith, h.occupied))
zero_vertex d q (s ∷ t) h =
    let m = Contains-head s t in
    let l = led d s ((h.members s).0 m).0 in
    record {
      owner = s;
      member = m;
      vertex = subst (λ (r : List (List ℤ)). Contains r (zeros d)) (sym l.whole) (Contains-head (zeros d) (rest_of s));
      dimension = length-zeros d;
      sign = inl refl;
    }

pub few_edges : (d : ℕ) (q : List ℤ) (t : List (List (List ℤ))) → IsDelaunay d q t → suc (length (edges_of t)) ≤ 2 ^ d
few_edges d q t h =
    let r : IsStrictlySortedBy number_list_cmp (edges_of t) = sorted_ascends number_list_cmp number_list_cmp_total exact_points (all_rests t) in
    let apart : IsDistinct (edges_of t) = sorted_is_distinct number_list_cmp number_list_cmp_total (edges_of t) r in
    let no_zero : Contains (edges_of t) (zeros d) → ⊥ = λ c. never c (edge_vertex d q t (zeros d) h c) in
    let k : suc (length (edges_of t)) ≤ length (bit_lists d) =
    fit (λ (x : List ℤ) (y : List ℕ). parity x ≡ y) (zeros d ∷ edges_of t) (bit_lists d) (no_zero, apart) (λ x c. (parity x, bits_has d x (vertex x c).dimension, refl)) (λ x x' y c c' e e'. vertices_differ d q t x x' h (vertex x c) (vertex x' c') (e ∙ sym e'))
    in
    omega (arith, k, length-bits d)
  where
    vertex : (x : List ℤ) → Contains (zeros d ∷ edges_of t) x → IsVertex d t x
    vertex x c = elim (Contains-cases (zeros d) (edges_of t) x c) [ inl e ↦ subst (λ (w : List ℤ). IsVertex d t w) e (zero_vertex d q t h) | inr r ↦ edge_vertex d q t x h r ]

    never : Contains (edges_of t) (zeros d) → IsVertex d t (zeros d) → ⊥
    never c v =
        let f = edge_from t (zeros d) c in
        let l = led d f.0 ((h.members f.0).0 f.1).0 in
        never_below_itself number_list_cmp number_list_cmp_total (zeros d) (l.above (zeros d) f.2)

-- a class is a choice of edges
pub class_choices : (d : ℕ) (q : List ℤ) (t : List (List (List ℤ))) → IsDelaunay d q t → length t ≤ binomial (length (edges_of t)) d
class_choices d q t h =
    let k : length t ≤ length (sublists (edges_of t) d) =
    fit (λ (s : List (List ℤ)) (y : List (List ℤ)). rest_of s ≡ y) t (sublists (edges_of t) d) (sorted_is_distinct simplex_cmp simplex_cmp_total t h.ascending) (λ s m. (rest_of s, chosen s m, refl))
    (λ s s' y m m' e e'. (led d s ((h.members s).0 m).0).whole ∙ ap (λ (l : List (List ℤ)). zeros d ∷ l) (e ∙ sym e') ∙ sym (led d s' ((h.members s').0 m').0).whole)
    in
    omega (arith, k, length-sublists (edges_of t) d)
  where
    chosen : (s : List (List ℤ)) → Contains t s → Contains (sublists (edges_of t) d) (rest_of s)
    chosen s m =
        let l = led d s ((h.members s).0 m).0 in
        let r : IsStrictlySortedBy number_list_cmp (edges_of t) = sorted_ascends number_list_cmp number_list_cmp_total exact_points (all_rests t) in
        subst (λ (n : ℕ). Contains (sublists (edges_of t) n) (rest_of s)) l.count
        (is_sublist number_list_cmp number_list_cmp_total (edges_of t) (rest_of s) l.ascending r (λ z c. sorted_has number_list_cmp number_list_cmp_total exact_points (all_rests t) z (rests_has t s z m c)))

pub classes_are_choices : (d : ℕ) (q : List ℤ) (t : List (List (List ℤ))) → IsDelaunay d q t → length t ≤ binomial (2 ^ d - 1) d
classes_are_choices d q t h =
    let a = class_choices d q t h in
    let e = few_edges d q t h in
    end (length t) (binomial (length (edges_of t)) d) (binomial (2 ^ d - 1) d) a (binomial_monotone (length (edges_of t)) (2 ^ d - 1) d (omega (arith, e)))
  where
    end : (x y z : ℕ) → x ≤ y → y ≤ z → x ≤ z
    end x y z h k = omega arith

at_most : (x n d m : ℕ) → binomial n d ≡ m → x ≤ binomial n d → x ≤ m
at_most x n d m e h = subst (λ (y : ℕ). x ≤ y) e h

below : (x m n : ℕ) → x ≤ m → m ≤ n → x ≤ n
below x m n h k = omega arith

-- the numbers in dimension 2 to 6
pub class_bound : (d : ℕ) (q : List ℤ) (t : List (List (List ℤ))) → 2 ≤ d → d ≤ 6 → IsDelaunay d q t → length t ≤ 67945521
class_bound zero q t h k e = absurd (omega arith)
class_bound (suc zero) q t h k e = absurd (omega arith)
class_bound (suc (suc zero)) q t h k e = below (length t) 3 67945521 (at_most (length t) 3 2 3 binomials.0 (classes_are_choices 2 q t e)) (omega arith)
class_bound (suc (suc (suc zero))) q t h k e = below (length t) 35 67945521 (at_most (length t) 7 3 35 binomials.1 (classes_are_choices 3 q t e)) (omega arith)
class_bound (suc (suc (suc (suc zero)))) q t h k e = below (length t) 1365 67945521 (at_most (length t) 15 4 1365 binomials.2 (classes_are_choices 4 q t e)) (omega arith)
class_bound (suc (suc (suc (suc (suc zero))))) q t h k e = below (length t) 169911 67945521 (at_most (length t) 31 5 169911 binomials.3 (classes_are_choices 5 q t e)) (omega arith)
class_bound (suc (suc (suc (suc (suc (suc zero)))))) q t h k e = at_most (length t) 63 6 67945521 binomials.4 (classes_are_choices 6 q t e)
class_bound (suc (suc (suc (suc (suc (suc (suc d))))))) q t h k e = absurd (omega arith)

pub few_classes : (d : ℕ) (q : List ℤ) (t : List (List (List ℤ))) → 2 ≤ d → d ≤ 6 → IsDelaunay d q t → length t ≤ 2 ^ 27
few_classes d q t h k e = below (length t) 67945521 (2 ^ 27) (class_bound d q t h k e) (omega arith)

-- ---- regulators

abbrev pub Spot : Type 0
Spot = List (List ℤ) × ℕ

abbrev pub spot : List (List ℤ) → ℕ → Spot
spot s i = (s, i)

abbrev pub spots : ℕ → List (List (List ℤ)) → List Spot
spots n [] = []
spots n (s ∷ t) = map (spot s) (down_from n) ++ spots n t

pub length-down : (n : ℕ) → length (down_from n) ≡ n
length-down zero = refl
length-down (suc n) = ap suc (length-down n)

length-spots : (n : ℕ) (t : List (List (List ℤ))) → length (spots n t) ≡ length t * n
length-spots n [] = omega arith
length-spots n (s ∷ t) =
    let e = length-append (map (spot s) (down_from n)) (spots n t) in
    let f = lists.length-map (down_from n) (spot s) in
    omega (arith, e, f, length-down n, length-spots n t)

spots_has : (n : ℕ) (t : List (List (List ℤ))) (s : List (List ℤ)) (i : ℕ) → Contains t s → i < n → Contains (spots n t) (spot s i)
spots_has n [] s i m h = Contains-none s m
spots_has n (r ∷ t) s i m h =
    elim (Contains-cases r t s m) [
      | inl e ↦
          Contains-append_left (map (spot r) (down_from n)) (spots n t) (spot s i)
          (subst (λ (w : List (List ℤ)). Contains (map (spot r) (down_from n)) (spot w i)) e (Contains-map (spot r) (down_from n) i ((down_order n).each i h)))
      | inr k ↦ Contains-append_right (map (spot r) (down_from n)) (spots n t) (spot s i) (spots_has n t s i k h)
    ]

-- n is the regulator of a class at a facet
pub record IsThere (d : ℕ) (t : List (List (List ℤ))) (n : List ℤ) (s : List (List ℤ)) (i : ℕ) : Type 0 where
  pub vertex : List ℤ
  pub c : ℤ
  pub b : List ℤ
  pub pair : IsPair d t n s vertex c b
  pub facet : pair.facet ≡ i

-- a facet has one regulator
pub one_regulator : (d : ℕ) (q : List ℤ) (t : List (List (List ℤ))) (n m : List ℤ) (s : List (List ℤ)) (i : ℕ) → IsDelaunay d q t → IsThere d t n s i → IsThere d t m s i → n ≡ m
one_regulator d q t n m s i h x y =
    let pav = paving_of d q t h in
    let cl = pav.classes s x.pair.member in
    let place : i < suc d = subst (λ (k : ℕ). k < suc d) x.facet x.pair.place in
    let nx : IsNeighbour d t s i x.pair.next x.pair.shift x.pair.outer = subst (λ (k : ℕ). IsNeighbour d t s k x.pair.next x.pair.shift x.pair.outer) x.facet x.pair.neighbour in
    let ny : IsNeighbour d t s i y.pair.next y.pair.shift y.pair.outer = subst (λ (k : ℕ). IsNeighbour d t s k y.pair.next y.pair.shift y.pair.outer) y.facet y.pair.neighbour in
    let same : x.vertex ≡ y.vertex = x.pair.vertex ∙ one_neighbour d q t s i x.pair.next y.pair.next x.pair.shift y.pair.shift x.pair.outer y.pair.outer pav x.pair.member place nx ny ∙ sym y.pair.vertex in
    go same pav cl nx place
  where
    moved_dimension : (d : ℕ) (r : List (List ℤ)) (p : List ℤ) (j : ℕ) → IsClass d r → IsNeighbour d t s x.pair.facet r p j → length (get_or (translate p r) j []) ≡ d
    moved_dimension d r p j c nb = get_dimension d (translate p r) j (translate_all d p r nb.dimension c.simplex.points) (omega (arith, length-translate p r, c.simplex.count, nb.place))

    product_positive : (a b : ℕ) → 0 < a → 0 < b → 0 < a * b
    product_positive zero b h k = absurd (omega arith)
    product_positive (suc a) b h k = omega arith

    end : (f g i j : ℕ) (c e n m w b b' : ℤ) → c ≡ pos i → e ≡ pos j → pos f *ℤ n ≡ c *ℤ w -ℤ b → pos g *ℤ m ≡ e *ℤ w -ℤ b' → e *ℤ b ≡ c *ℤ b' → pos (j * f) *ℤ n ≡ pos (i * g) *ℤ m
    end f g i j c e n m w b b' hc he hn hm hb =
        let p1 : pos (j * f) ≡ pos j *ℤ pos f = omega (arith, ints) in
        let p2 : pos (i * g) ≡ pos i *ℤ pos g = omega (arith, ints) in
        let a1 : e *ℤ (pos f *ℤ n) ≡ e *ℤ (c *ℤ w -ℤ b) = ap (λ z. e *ℤ z) hn in
        let a2 : c *ℤ (pos g *ℤ m) ≡ c *ℤ (e *ℤ w -ℤ b') = ap (λ z. c *ℤ z) hm in
        let r1 : e *ℤ (c *ℤ w -ℤ b) ≡ c *ℤ e *ℤ w -ℤ e *ℤ b = ring (c ∷ e ∷ w ∷ b ∷ []) (var 1 ⊗ (var 0 ⊗ var 2 ⊖ var 3)) (var 0 ⊗ var 1 ⊗ var 2 ⊖ var 1 ⊗ var 3) tt in
        let r2 : c *ℤ (e *ℤ w -ℤ b') ≡ c *ℤ e *ℤ w -ℤ c *ℤ b' = ring (c ∷ e ∷ w ∷ b' ∷ []) (var 0 ⊗ (var 1 ⊗ var 2 ⊖ var 3)) (var 0 ⊗ var 1 ⊗ var 2 ⊖ var 0 ⊗ var 3) tt in
        let mid : e *ℤ (pos f *ℤ n) ≡ c *ℤ (pos g *ℤ m) = omega (arith, ints, a1, a2, r1, r2, hb) in
        let l : pos j *ℤ pos f *ℤ n ≡ e *ℤ (pos f *ℤ n) = ap (λ z. z *ℤ pos f *ℤ n) (sym he) ∙ ring (e ∷ pos f ∷ n ∷ []) (var 0 ⊗ var 1 ⊗ var 2) (var 0 ⊗ (var 1 ⊗ var 2)) tt in
        let r : pos i *ℤ pos g *ℤ m ≡ c *ℤ (pos g *ℤ m) = ap (λ z. z *ℤ pos g *ℤ m) (sym hc) ∙ ring (c ∷ pos g ∷ m ∷ []) (var 0 ⊗ var 1 ⊗ var 2) (var 0 ⊗ (var 1 ⊗ var 2)) tt in
        ap (λ z. z *ℤ n) p1 ∙ l ∙ mid ∙ sym r ∙ ap (λ z. z *ℤ m) (sym p2)

    go : x.vertex ≡ y.vertex → IsPaving d q t → IsClass d s → IsNeighbour d t s i x.pair.next x.pair.shift x.pair.outer → i < suc d → n ≡ m
    go same pav cl nx place =
        let e : IsExpression s y.vertex x.c x.b = subst (λ (w : List ℤ). IsExpression s w x.c x.b) same x.pair.expression in
        let f = y.pair.expression in
        let prop : scale y.c x.b ≡ scale x.c y.b = one_expression d s (pos 1) y.vertex x.b y.b x.c y.c cl.simplex (weighted s y.vertex x.c x.b e) (weighted s y.vertex y.c y.b f) in
        let cn = natural x.c e.positive in
        let cm = natural y.c f.positive in
        let next_class = pav.classes x.pair.next x.pair.neighbour.member in
        let lx : length x.vertex ≡ d = ap length x.pair.vertex ∙ moved_dimension d x.pair.next x.pair.shift x.pair.outer next_class x.pair.neighbour in
        let ly : length y.vertex ≡ d = ap length (sym same) ∙ lx in
        let some : 0 < length s = omega (arith, cl.simplex.count) in
        let ln : length n ≡ numbers_of_form d = sym (length-scale (pos x.pair.factor) n) ∙ ap length (sym x.pair.multiple) ∙ length-normal d s x.vertex x.c x.b cl.simplex.points some lx x.pair.expression.one_each in
        let lm : length m ≡ numbers_of_form d = sym (length-scale (pos y.pair.factor) m) ∙ ap length (sym y.pair.multiple) ∙ length-normal d s y.vertex y.c y.b cl.simplex.points some ly f.one_each in
        let all : (u : List ℤ) → pos (cm.0 * x.pair.factor) *ℤ dot u n ≡ pos (cn.0 * y.pair.factor) *ℤ dot u m = λ u.
        let a : pos x.pair.factor *ℤ dot u n ≡ x.c *ℤ value u y.vertex -ℤ dot x.b (map (value u) s) =
        sym (dot-scale u (pos x.pair.factor) n) ∙ ap (dot u) (sym x.pair.multiple) ∙ normal_dot u s x.vertex x.c x.b ∙ ap (λ (w : List ℤ). excess u s w x.c x.b) same
        in
        let b : pos y.pair.factor *ℤ dot u m ≡ y.c *ℤ value u y.vertex -ℤ dot y.b (map (value u) s) = sym (dot-scale u (pos y.pair.factor) m) ∙ ap (dot u) (sym y.pair.multiple) ∙ normal_dot u s y.vertex y.c y.b in
        let g : y.c *ℤ dot x.b (map (value u) s) ≡ x.c *ℤ dot y.b (map (value u) s) = sym (scale-dot y.c x.b (map (value u) s)) ∙ ap (λ (l : List ℤ). dot l (map (value u) s)) prop ∙ scale-dot x.c y.b (map (value u) s) in
        end x.pair.factor y.pair.factor cn.0 cm.0 x.c y.c (dot u n) (dot u m) (value u y.vertex) (dot x.b (map (value u) s)) (dot y.b (map (value u) s)) cn.1 cm.1 a b g
        in
        same_primitive (cm.0 * x.pair.factor) (cn.0 * y.pair.factor) n m (product_positive cm.0 x.pair.factor cm.2 x.pair.some) (product_positive cn.0 y.pair.factor cn.2 y.pair.some) (ln ∙ sym lm) x.pair.primitive y.pair.primitive all

pub regulators_at_facets : (d : ℕ) (q : List ℤ) (t : List (List (List ℤ))) (ns : List (List ℤ)) → IsDelaunay d q t → AreRegulators d t ns → length ns ≤ length t * suc d
regulators_at_facets d q t ns h r =
    let k : length ns ≤ length (spots (suc d) t) =
    fit (λ (n : List ℤ) (y : Spot). IsThere d t n y.0 y.1) ns (spots (suc d) t) (sorted_is_distinct number_list_cmp number_list_cmp_total ns r.ascending) (λ n c. there n ((r.members n).0 c)) (λ n m y c c' e e'. one_regulator d q t n m y.0 y.1 h e e')
    in
    omega (arith, k, length-spots (suc d) t)
  where
    there : (n : List ℤ) → IsRegulator d t n → (y : Spot) × Contains (spots (suc d) t) y × IsThere d t n y.0 y.1
    there n (s, w, c, b, pair) = ((s, pair.facet), spots_has (suc d) t s pair.facet pair.member pair.place, record { vertex = w; c = c; b = b; pair = pair; facet = refl })

pub few_regulators : (d : ℕ) (q : List ℤ) (t : List (List (List ℤ))) (ns : List (List ℤ)) → 2 ≤ d → d ≤ 6 → IsDelaunay d q t → AreRegulators d t ns → length ns ≤ 2 ^ 29
few_regulators d q t ns h k e r =
    end (length ns) (length t) d (regulators_at_facets d q t ns e r) (class_bound d q t h k e) k
  where
    times_most : (x d : ℕ) → d ≤ 6 → x * suc d ≤ x * 7
    times_most zero d h = omega arith
    times_most (suc x) d h = let r = times_most x d h in omega (arith, r)

    end : (n x d : ℕ) → n ≤ x * suc d → x ≤ 67945521 → d ≤ 6 → n ≤ 2 ^ 29
    end n x d a b c = let m = times_most x d c in omega (arith, a, b, m)
