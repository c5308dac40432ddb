-- The regulators of a Delaunay triangulation: they exist for each pair, are positive at its forms, and finitely many bound them.
use Rattle.std.proofs.Common.{List, [], ◌∷◌, length, map, get_or, ◌≡◌, ℕ, zero, suc, ◌<◌, ◌≤◌, refl, sym, ◌∙◌, ap, ap₂, subst, arith, ℤ, pos, neg_ℤ, ◌+ℤ◌, ◌-ℤ◌, ◌*ℤ◌, ◌<ℤ◌, ◌≤ℤ◌}
use Rattle.std.proofs.lemmas.Int.{ints, by_lt_z}
use Rattle.std.specs.List.{Contains}
use Rattle.lt_model.proofs.Ring.{ring, ring_by, var, num, neg, ◌⊕◌, ◌⊗◌}
use Rattle.lt_walls.proofs.Sums.{qs}
use Rattle.lt_model.proofs.Inequalities.{mul_nonneg_z}
use Rattle.lt_walls.proofs.Lists.{Alike, alike-refl, alike-sym, alike-trans, alike-cons, alike-cancel, alike-second, alike-qs, In, in-head, in-alike, Distinct, distinct-out, distinct-tail, differ, upd}
use Rattle.lt_walls.proofs.Space.{Simp, Expr, Strict, excess, excess-is, Opp, opp-alike, rise, opp-expr, opp-excess, opp-out, opp-opp}
use Rattle.lt_walls.proofs.Ellipsoid.{expr-alike, excess-alike, one-side}
use Rattle.lt_walls.proofs.Margins.{moved, moved-cons, alike-moved, in-moved}
use Rattle.lt_geometry.proofs.Points.{Vec, list, of_list, coordinate, vec-dec, Form, at, space}
use Rattle.lt_geometry.proofs.Members.{lists, of_lists, row, row-dot, to_expression, shift, opposite, shift-forth, moved_back, expr-back, excess-back, Placed, placed-alike, placed-moved, placed-simp, placed-strict, ascending-distinct}
use Rattle.lt_geometry.proofs.Ties.{fn, fn-sum, fn-head, fn-tail, from_numbers, Spot, spot, Taken, taken, lists-same, lists-moved, opp-shift}
use Rattle.lt_geometry.proofs.PrimitiveParts.{Primitive, primitive_part}
use Rattle.lt_geometry.proofs.Normals.{normal_value}
use Rattle.lt_model.specs.Vectors.{scale, dot}
use Rattle.lt_model.specs.Forms.{value}
use Rattle.lt_model.specs.Simplices.{IsClass, translate}
use Rattle.lt_model.specs.Facets.{without, number_at, IsBeyond, IsNeighbour}
use Rattle.lt_model.specs.Triangulations.{IsDelaunay}
use Rattle.lt_model.specs.Walls.{IsRegulator, IsPair, excess_normal}
use Rattle.lt_model.proofs.Excess.{scale-dot}

-- the outer vertex of a neighbour in the model's sense
pub record Outer (d : ℕ) (two : 2 ≤ d) (t : List (List (List ℤ))) (rest : List (Vec d)) (w : List ℤ) : Type 0 where
  pub v : Vec d
  pub is : list d v ≡ w
  pub placed : Placed d t (v ∷ rest)

pub outer : (d : ℕ) (two : 2 ≤ d) (q : Form d) (t : List (List (List ℤ))) → IsDelaunay d q.numbers t → (s : List (List ℤ)) (i : ℕ) (rest : List (Vec d)) → lists d rest ≡ without i s →
    (next : List (List ℤ)) (m : List ℤ) (j : ℕ) → IsNeighbour d t s i next m j → Outer d two t rest (get_or (translate m next) j [])
outer d two q t k s i rest facet next m j nb = record {
  v = u.w;
  is = u.is ∙ ap (λ l. get_or l j []) is_M;
  placed = record { base = c2.0; by = m2.0; member = subst (Contains t) (sym (c2.1)) nb.member; alike = subst (λ z. Alike (u.w ∷ z) M) rest_same (alike-sym u.alike) };
}
  where
    cls2 : IsClass d next
    cls2 = ((k.members next).0 nb.member).0

    c2 : (C2 : List (Vec d)) × (lists d C2 ≡ next)
    c2 = of_lists d next cls2.simplex.points

    m2 : (v : Vec d) × (list d v ≡ m)
    m2 = of_list d m nb.dimension

    M : List (Vec d)
    M = moved (shift d (m2.0)) (c2.0)

    is_M : lists d M ≡ translate m next
    is_M = lists-moved d (m2.0) (c2.0) ∙ ap₂ (λ a b. translate a b) (m2.1) (c2.1)

    len_M : length (lists d M) ≡ suc d
    len_M = ap length is_M ∙ length_translated next ∙ cls2.simplex.count
      where
        length_translated : (l : List (List ℤ)) → length (translate m l) ≡ length l
        length_translated [] = refl
        length_translated (a ∷ l) = ap suc (length_translated l)

    u : Taken d M j
    u = taken d M j (omega (arith, nb.place, len_M))

    rest_same : u.rest ≡ rest
    rest_same = lists-same d u.rest rest (u.lists_rest ∙ ap (without j) is_M ∙ nb.facet ∙ sym facet)

unfoldable pub AtPlace : (d : ℕ) (C : List (Vec d)) (i : ℕ) → Type 0
AtPlace d C i = (v : Vec d) × (rest : List (Vec d)) × Alike C (v ∷ rest) × (lists d rest ≡ without i (lists d C)) × ((b : List ℤ) → length b ≡ length (lists d C) → fn d C b v ≡ number_at i b)

place_later : (d : ℕ) (v : Vec d) (C : List (Vec d)) → Distinct (vec-dec d) (v ∷ C) → (i : ℕ) → AtPlace d C i → AtPlace d (v ∷ C) (suc i)
unfolding AtPlace
place_later d v C h i r = (r.0, v ∷ r.1, alike-second v (r.0) (alike-refl (v ∷ C)) (r.2), ap (λ z. list d v ∷ z) (r.3), later)
  where
    later : (b : List ℤ) → length b ≡ length (lists d (v ∷ C)) → fn d (v ∷ C) b (r.0) ≡ number_at (suc i) b
    later [] l = absurd (omega arith)
    later (a ∷ b) l = fn-tail d v C a b (r.0) (differ (r.0) (distinct-out h) (in-alike (in-head (vec-dec d) (r.0) (r.1)) (alike-sym (r.2)))) ∙ r.4 b (omega arith)

pub number_at_place : (d : ℕ) (C : List (Vec d)) → Distinct (vec-dec d) C → (i : ℕ) → i < length (lists d C) → AtPlace d C i
unfolding AtPlace
number_at_place d [] h i l = absurd (omega arith)
number_at_place d (v ∷ C) h zero l = (v, C, alike-refl (v ∷ C), refl, first)
  where
    first : (b : List ℤ) → length b ≡ length (lists d (v ∷ C)) → fn d (v ∷ C) b v ≡ number_at 0 b
    first [] l = absurd (omega arith)
    first (a ∷ b) l = fn-head d v C a b
number_at_place d (v ∷ C) h (suc i) l = place_later d v C h i (number_at_place d C (distinct-tail h) i (omega arith))

-- the pair of a beyond-record: opposite sides
pub opp_beyond : (d : ℕ) (two : 2 ≤ d) (C : List (Vec d)) (p w : Vec d) (rest : List (Vec d)) (i : ℕ) → Distinct (vec-dec d) C → Alike C (p ∷ rest) → ((b : List ℤ) → length b ≡ length (lists d C) → fn d C b p ≡ number_at i b) → (u : List ℤ) → list d w ≡ u → IsBeyond (lists d C) i u → Opp (space d two) p w rest
opp_beyond d two C p w rest i dist al number u is bd = record {
  c = bd.scale;
  m = neg_ℤ (g p);
  bs = g;
  c_pos = bd.expression.positive;
  m_pos = omega (arith, ints, low);
  flat = λ l. ring_by (bd.scale ∷ (coordinate d l w) ∷ (g p) ∷ (coordinate d l p) ∷ (qs (coordinate d l) g rest) ∷ []) (var 0 ⊗ var 1 ⊕ neg (var 2) ⊗ var 3) (var 4) (num (pos 1)) (var 0 ⊗ var 1) (var 2 ⊗ var 3 ⊕ var 4) tt (ex l ∙ alike-qs (coordinate d l) g p al);
}
  where
    b : List ℤ
    b = bd.coefficients

    g : Vec d → ℤ
    g = fn d C b

    ex : (l : ℕ) → bd.scale *ℤ coordinate d l w ≡ qs (coordinate d l) g C
    ex = from_numbers d C w bd.scale b dist bd.expression.one_each (bd.expression.point ∙ ap (scale bd.scale) (sym is)) bd.expression.sum

    low : g p <ℤ pos 0
    low = subst (λ z. z <ℤ pos 0) (sym (number b bd.expression.one_each)) bd.negative

-- members on the other side of a common facet are equal
pub unique : (d : ℕ) (two : 2 ≤ d) (q : Form d) (t : List (List (List ℤ))) → IsDelaunay d q.numbers t → (p v w : Vec d) (F : List (Vec d)) → Placed d t (v ∷ F) → Placed d t (w ∷ F) → Opp (space d two) p v F → Opp (space d two) p w F → w ≡ v
unique d two q t k p v w F mv mw ov ow = one-side (at d q) v w F (placed-simp d two q t k (v ∷ F) mv) (placed-strict d two q t k (v ∷ F) mv) (placed-simp d two q t k (w ∷ F) mw) ((placed-strict d two q t k (w ∷ F) mw).weak) (opp-opp ov ow)

-- the excess of the model at aligned numbers
pub row_excess : (d : ℕ) (two : 2 ≤ d) (b : Form d) (x : Vec d) (C : List (Vec d)) (c : ℤ) (g : Vec d → ℤ) → c *ℤ value b.numbers (list d x) -ℤ dot (row d g C) (map (value b.numbers) (lists d C)) ≡ excess (at d b) x C c g
row_excess d two b x C c g = ap (λ z. c *ℤ at d b x -ℤ z) (row-dot d (value b.numbers) g C) ∙ sym (excess-is (at d b) x C c g)

-- ---- the regulator of a pair

pub regular : (d : ℕ) (two : 2 ≤ d) (q : Form d) (t : List (List (List ℤ))) → IsDelaunay d q.numbers t → (p v : Vec d) (F : List (Vec d)) → Placed d t (p ∷ F) → Placed d t (v ∷ F) → (o : Opp (space d two) p v F) →
    (m : List ℤ) × IsRegulator d t m × (k : ℤ) × (pos 0 <ℤ k) × ((b : Form d) → rise (at d b) o ≡ k *ℤ dot m b.numbers)
regular d two q t k p v F h hv o = found (k.closed (lists d C) s.i h.member (omega (arith, s.within, cls.simplex.count)))
  where
    C : List (Vec d)
    C = h.base

    y : Vec d
    y = h.by

    cls : IsClass d (lists d C)
    cls = ((k.members (lists d C)).0 h.member).0

    dist : Distinct (vec-dec d) C
    dist = ascending-distinct d C cls.ascending

    p' : Vec d
    p' = shift d (opposite d y) p

    v' : Vec d
    v' = shift d (opposite d y) v

    in_p : In (vec-dec d) p' C
    in_p = subst (λ z. In (vec-dec d) p' z) (moved_back d y C) (in-moved (vec-dec d) (shift d (opposite d y)) p (moved (shift d y) C) (in-alike (in-head (vec-dec d) p F) h.alike))

    s : Spot d C p'
    s = spot d C dist p' in_p

    facet : Alike F (moved (shift d y) s.rest)
    facet = alike-cancel p (alike-trans h.alike (subst (λ z. Alike (moved (shift d y) C) (z ∷ moved (shift d y) s.rest)) (shift-forth d y p) (subst (λ z. Alike (moved (shift d y) C) z) (moved-cons (shift d y) p' s.rest) (alike-moved (shift d y) s.alike))))

    back : Alike (moved (shift d (opposite d y)) F) s.rest
    back = subst (λ z. Alike (moved (shift d (opposite d y)) F) z) (moved_back d y s.rest) (alike-moved (shift d (opposite d y)) facet)

    opp' : Opp (space d two) p' v' s.rest
    opp' = opp-alike (opp-shift d two (opposite d y) p v F o) back

    placed' : Placed d t (v' ∷ s.rest)
    placed' = placed-alike d t (subst (Placed d t) (moved-cons (shift d (opposite d y)) v F) (placed-moved d t (opposite d y) (v ∷ F) hv)) (alike-cons v' back)

    sp : Simp (space d two) (p ∷ F)
    sp = placed-simp d two q t k (p ∷ F) h

    G : Vec d → ℤ
    G = upd (vec-dec d) p (neg_ℤ o.m) o.bs

    e0 : Expr (space d two) v (p ∷ F) o.c G
    e0 = opp-expr sp o

    e1 : Expr (space d two) v (moved (shift d y) C) o.c G
    e1 = expr-alike e0 h.alike

    g : Vec d → ℤ
    g u = G (shift d y u)

    e2 : Expr (space d two) v' C o.c g
    e2 = expr-back d two y v C o.c G e1

    normal : List ℤ
    normal = excess_normal (lists d C) (list d v') o.c (row d g C)

    -- the rise at any form is the value of the normal
    rise_is : (b : Form d) → rise (at d b) o ≡ dot normal b.numbers
    rise_is b = sym (opp-excess sp o (at d b)) ∙ excess-alike (at d b) v o.c G h.alike ∙ excess-back d two b y v C o.c G e1 ∙ sym (row_excess d two b v' C o.c g) ∙ sym (normal_value b.numbers (lists d C) (list d v') o.c (row d g C))

    out : In (vec-dec d) v (p ∷ F) → ⊥
    out = opp-out sp (distinct-out (placed-simp d two q t k (v ∷ F) hv).distinct) o

    up : pos 0 <ℤ dot normal q.numbers
    up = subst (λ z. pos 0 <ℤ z) (sym (opp-excess sp o (at d q)) ∙ refl ∙ opp-excess sp o (at d q) ∙ rise_is q) (by_lt_z (pos 0) (rise (at d q) o) (λ l. l) (λ g. absurd (out ((placed-strict d two q t k (p ∷ F) h).touches v o.c G e0 (opp-excess sp o (at d q) ∙ zero g)))))
      where
        nonneg : pos 0 ≤ℤ rise (at d q) o
        nonneg = subst (λ z. pos 0 ≤ℤ z) (opp-excess sp o (at d q)) ((placed-strict d two q t k (p ∷ F) h).weak.outside v o.c G e0)

        zero : rise (at d q) o ≤ℤ pos 0 → rise (at d q) o ≡ pos 0
        zero l = omega (arith, ints, l, nonneg)

    r : Primitive normal
    r = primitive_part normal q.numbers up

    k_pos : pos 0 <ℤ pos r.k
    k_pos = let l : 0 < r.k = r.k_pos in omega (arith, ints, l)

    found : (next : List (List ℤ)) × (m : List ℤ) × (j : ℕ) × IsNeighbour d t (lists d C) s.i next m j → (m : List ℤ) × IsRegulator d t m × (k : ℤ) × (pos 0 <ℤ k) × ((b : Form d) → rise (at d b) o ≡ k *ℤ dot m b.numbers)
    found n = (r.n, (lists d C, list d v', o.c, row d g C, pair), pos r.k, k_pos, λ b. rise_is b ∙ ap (λ x. dot x b.numbers) r.is ∙ scale-dot (pos r.k) r.n b.numbers)
      where
        w : Outer d two t s.rest (get_or (translate (n.1) (n.0)) (n.2) [])
        w = outer d two q t k (lists d C) s.i s.rest s.lists_rest (n.0) (n.1) (n.2) (n.3)

        same : v' ≡ w.v
        same = unique d two q t k p' w.v v' s.rest w.placed placed' (opp_beyond d two C p' w.v s.rest s.i dist s.alike s.number (get_or (translate (n.1) (n.0)) (n.2) []) w.is ((n.3).beyond)) opp'

        pair : IsPair d t r.n (lists d C) (list d v') o.c (row d g C)
        pair = record {
          member = h.member;
          facet = s.i;
          place = omega (arith, s.within, cls.simplex.count);
          next = n.0;
          shift = n.1;
          outer = n.2;
          neighbour = n.3;
          vertex = ap (list d) same ∙ w.is;
          expression = to_expression d two v' C o.c g (omega (arith, cls.simplex.count)) e2;
          primitive = r.primitive;
          factor = r.k;
          some = r.k_pos;
          multiple = r.is;
        }

-- ---- a regulator, read back

-- the vertex v of C, its neighbour w across the rest, and the excess of w as a multiple of m
pub record Read (d : ℕ) (two : 2 ≤ d) (t : List (List (List ℤ))) (m : List ℤ) (C : List (Vec d)) : Type 0 where
  pub v : Vec d
  pub w : Vec d
  pub rest : List (Vec d)
  pub alike : Alike C (v ∷ rest)
  pub placed : Placed d t (w ∷ rest)
  pub opp : Opp (space d two) v w rest
  pub c : ℤ
  pub g : Vec d → ℤ
  pub expr : Expr (space d two) w C c g
  pub k : ℕ
  pub k_pos : 0 < k
  pub is : (b : Form d) → excess (at d b) w C c g ≡ pos k *ℤ dot m b.numbers

pub read : (d : ℕ) (two : 2 ≤ d) (q : Form d) (t : List (List (List ℤ))) → IsDelaunay d q.numbers t → (m : List ℤ) (C : List (Vec d)) (w : List ℤ) (c : ℤ) (b : List ℤ) → IsPair d t m (lists d C) w c b → Read d two t m C
unfolding AtPlace
read d two q t k m C w c b pair = record {
  v = a.0;
  w = o.v;
  rest = a.1;
  alike = a.2;
  placed = o.placed;
  opp = opp_beyond d two C (a.0) o.v (a.1) pair.facet dist (a.2) (a.4) (get_or (translate pair.shift pair.next) pair.outer []) o.is pair.neighbour.beyond;
  c = c;
  g = fn d C b;
  expr = record { positive = pair.expression.positive; is = ex };
  k = pair.factor;
  k_pos = pair.some;
  is = λ e. excess-is (at d e) o.v C c (fn d C b) ∙ ap₂ (λ x y. c *ℤ x -ℤ y) (ap (value e.numbers) (o.is ∙ sym pair.vertex)) (fn-sum d C b dist pair.expression.one_each (value e.numbers)) ∙ sym (normal_value e.numbers (lists d C) w c b) ∙ ap (λ x. dot x e.numbers) pair.multiple ∙ scale-dot (pos pair.factor) m e.numbers;
}
  where
    cls : IsClass d (lists d C)
    cls = ((k.members (lists d C)).0 pair.member).0

    dist : Distinct (vec-dec d) C
    dist = ascending-distinct d C cls.ascending

    a : AtPlace d C pair.facet
    a = number_at_place d C dist pair.facet (omega (arith, pair.place, cls.simplex.count))

    o : Outer d two t (a.1) (get_or (translate pair.shift pair.next) pair.outer [])
    o = outer d two q t k (lists d C) pair.facet (a.1) (a.3) pair.next pair.shift pair.outer pair.neighbour

    ex : (l : ℕ) → c *ℤ coordinate d l o.v ≡ qs (coordinate d l) (fn d C b) C
    ex = from_numbers d C o.v c b dist pair.expression.one_each (pair.expression.point ∙ ap (scale c) (pair.vertex ∙ sym o.is)) pair.expression.sum

-- a class as a list of points
pub class_points : (d : ℕ) (q : Form d) (t : List (List (List ℤ))) → IsDelaunay d q.numbers t → (s : List (List ℤ)) → Contains t s → (C : List (Vec d)) × (lists d C ≡ s)
class_points d q t k s m = of_lists d s (((k.members s).0 m).0.simplex.points)

all_stay : (d : ℕ) (z : Vec d) → ((v : Vec d) → shift d z v ≡ v) → (S : List (Vec d)) → moved (shift d z) S ≡ S
unfolding moved
all_stay d z h [] = refl
all_stay d z h (v ∷ S) = ap₂ (λ a b. a ∷ b) (h v) (all_stay d z h S)

pub base_placed : (d : ℕ) (two : 2 ≤ d) (t : List (List (List ℤ))) (C : List (Vec d)) → Contains t (lists d C) → Placed d t C
base_placed d two t C m = record { base = C; by = nil d; member = m; alike = subst (λ z. Alike C z) (sym (unmoved C)) (alike-refl C) }
  where
    nil : (d : ℕ) → Vec d
    nil zero = tt
    nil (suc d) = (pos 0, nil d)

    stays : (d : ℕ) (v : Vec d) → shift d (nil d) v ≡ v
    stays zero v = refl
    stays (suc d) v = λ i. (at_head i, stays d (v.1) i)
      where
        at_head : v.0 +ℤ pos 0 ≡ v.0
        at_head = omega (arith, ints)

    unmoved : (C : List (Vec d)) → moved (shift d (nil d)) C ≡ C
    unmoved C = moved_same C
      where
        moved_same : (S : List (Vec d)) → moved (shift d (nil d)) S ≡ S
        moved_same S = all_stay d (nil d) (stays d) S

pub rises : (d : ℕ) (two : 2 ≤ d) (q : Form d) (t : List (List (List ℤ))) → IsDelaunay d q.numbers t → (m : List ℤ) → IsRegulator d t m → pos 0 <ℤ dot m q.numbers
rises d two q t k m r = go (class_points d q t k (r.0) ((r.4).member))
  where
    go : (C : List (Vec d)) × (lists d C ≡ r.0) → pos 0 <ℤ dot m q.numbers
    go c = by_lt_z (pos 0) (dot m q.numbers) (λ l. l) (λ l. absurd (out (strict.touches z.w z.c z.g z.expr (zero l))))
      where
        pair : IsPair d t m (lists d (c.0)) (r.1) (r.2) (r.3)
        pair = subst (λ s. IsPair d t m s (r.1) (r.2) (r.3)) (sym (c.1)) (r.4)

        z : Read d two t m (c.0)
        z = read d two q t k m (c.0) (r.1) (r.2) (r.3) pair

        placed : Placed d t (c.0)
        placed = base_placed d two t (c.0) pair.member

        strict : Strict (space d two) (at d q) (c.0)
        strict = placed-strict d two q t k (c.0) placed

        out : In (vec-dec d) z.w (c.0) → ⊥
        out i = opp-out (placed-simp d two q t k (z.v ∷ z.rest) (placed-alike d t placed z.alike)) (distinct-out (placed-simp d two q t k (z.w ∷ z.rest) z.placed).distinct) z.opp (in-alike i z.alike)

        zero : dot m q.numbers ≤ℤ pos 0 → excess (at d q) z.w (c.0) z.c z.g ≡ pos 0
        zero l = omega (arith, ints, z.is q, strict.weak.outside z.w z.c z.g z.expr, mul_nonneg_z (pos z.k) (neg_ℤ (dot m q.numbers)) (omega (arith, ints)) (omega (arith, ints, l)), ring ((pos z.k) ∷ (dot m q.numbers) ∷ []) (var 0 ⊗ neg (var 1)) (neg (var 0 ⊗ var 1)) tt)
