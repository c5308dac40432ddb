-- Cells, and the exchanged simplices of the model.
use Rattle.std.proofs.Common.{List, [], ◌∷◌, length, map, get_or, ◌≡◌, ℕ, zero, suc, ◌<◌, ◌≤◌, refl, sym, ◌∙◌, ap, ap₂, subst, arith, ℤ, pos, negsuc, neg_ℤ, ◌+ℤ◌, ◌-ℤ◌, ◌*ℤ◌, ◌<ℤ◌}
use Rattle.std.proofs.lemmas.Int.{ints}
use Rattle.std.specs.List.{Contains}
use Rattle.lt_model.proofs.Ring.{ring, var, num, neg, ◌⊗◌}
use Rattle.lt_walls.proofs.Sums.{qs}
use Rattle.lt_walls.proofs.Lists.{Alike, alike-sym, alike-trans, alike-cons, alike-swap, alike-cancel, alike-qs, qs-cons, qs-fun, qs-minus, In, in-head, in-alike, Distinct, distinct-alike, distinct-tail, distinct-cons}
use Rattle.lt_walls.proofs.Space.{Expr, Opp, opp-alike}
use Rattle.lt_walls.proofs.Walls.{Tri}
use Rattle.lt_walls.proofs.Ellipsoid.{expr-alike, excess-alike}
use Rattle.lt_walls.proofs.Cells.{Cell, cell-of, cell-at, dep-expr, dep-excess}
use Rattle.lt_walls.proofs.Margins.{moved, alike-moved, in-moved, moved-cons}
use Rattle.lt_geometry.proofs.Points.{Vec, list, of_list, length-list, place, coordinate, vec-dec, add, dot-axis, axis, Form, at, space}
use Rattle.lt_geometry.proofs.Members.{lists, row, to_in, from_in, to_expression, shift, opposite, shift-forth, moved_back, twice, distinct-moved, expr-back, excess-back, Placed, placed-alike, placed-moved, ascending-distinct}
use Rattle.lt_geometry.proofs.Ties.{fn, fn-sum, fn-head, Spot, spot, Taken, taken, lists-moved, opp-shift}
use Rattle.lt_geometry.proofs.Normals.{length-normal, normal_value}
use Rattle.lt_geometry.proofs.Pairs.{Outer, outer, AtPlace, number_at_place, opp_beyond, unique, row_excess, class_points, base_placed}
use Rattle.lt_geometry.proofs.ClosedFlips.{Seat, find_seat, contains_alike}
use Rattle.lt_geometry.proofs.HasClasses.{alike_members, dot_zeros}
use Rattle.lt_model.specs.Vectors.{scale, dot, zeros}
use Rattle.lt_model.specs.Forms.{value, numbers_of_form}
use Rattle.lt_model.specs.Simplices.{IsClass, IsExpression, translate}
use Rattle.lt_model.specs.Facets.{without, number_at, IsBeyond, IsNeighbour}
use Rattle.lt_model.specs.Triangulations.{IsDelaunay}
use Rattle.lt_model.specs.Walls.{IsRegulator, IsPair, excess_normal}
use Rattle.lt_model.specs.Flips.{IsExchanged}
use Rattle.lt_model.proofs.Vectors.{dot-scale}
use Rattle.lt_model.proofs.Squares.{length-scale}
use Rattle.lt_model.proofs.Excess.{dot-combine, dot-constant, scale-dot}
use Rattle.lt_geometry.proofs.WalkEnds.{not_vertex}

-- the setting, with Placed and IsRegulator
abbrev pub Walls : (d : ℕ) (two : 2 ≤ d) (t : List (List (List ℤ))) (q w : Form d) (n : List ℤ) → Type 0
Walls d two t q w n = Tri (space d two) (Placed d t) (IsRegulator d t) (λ m b. dot m b.numbers) n q w

-- S is a cell without a point, whose number in the dependency has the sign
pub record Side (d : ℕ) (two : 2 ≤ d) (t : List (List (List ℤ))) (q w : Form d) (n : List ℤ) (set : Walls d two t q w n) (sign : ℤ) (S : List (Vec d)) : Type 0 where
  pub V : List (Vec d)
  pub s : Vec d → ℤ
  pub i : Vec d
  pub cell : Cell set V s
  pub side : pos 0 <ℤ (sign *ℤ s i)
  pub rest : Alike V (i ∷ S)

-- ---- a pair of the model is a cell

-- the outer vertex of a pair
pub vertex_of : (d : ℕ) (two : 2 ≤ d) (q : Form d) (t : List (List (List ℤ))) (n : List ℤ) → IsDelaunay d q.numbers t → (C : List (Vec d)) (v : List ℤ) (c : ℤ) (b : List ℤ) → IsPair d t n (lists d C) v c b →
    (x : Vec d) × (list d x ≡ v) × (In (vec-dec d) x C → ⊥)
vertex_of d two q t n k C v c b pair = (o.v, o.is ∙ sym pair.vertex, λ i. not_vertex d (lists d C) (list d o.v) bd.coefficients bd.scale pair.facet cls.simplex (length-list d o.v) (from_in d C o.v i) (subst (λ y. IsExpression (lists d C) y bd.scale bd.coefficients) (sym o.is) bd.expression) bd.negative)
  where
    cls : IsClass d (lists d C)
    cls = ((k.members (lists d C)).0 pair.member).0

    tk : Taken d C pair.facet
    tk = taken d C pair.facet (omega (arith, pair.place, cls.simplex.count))

    o : Outer d two t tk.rest (get_or (translate pair.shift pair.next) pair.outer [])
    o = outer d two q t k (lists d C) pair.facet tk.rest tk.lists_rest pair.next pair.shift pair.outer pair.neighbour

    bd : IsBeyond (lists d C) pair.facet (get_or (translate pair.shift pair.next) pair.outer [])
    bd = pair.neighbour.beyond

-- the dependency of a point and the list of its expression
unfoldable pub dependency : (d : ℕ) → Vec d → List (Vec d) → ℤ → List ℤ → Vec d → ℤ
dependency d x C c b = fn d (x ∷ C) (c ∷ scale (negsuc 0) b)

sums : (d : ℕ) (x : Vec d) (C : List (Vec d)) (c : ℤ) (b : List ℤ) → Distinct (vec-dec d) (x ∷ C) → length b ≡ length (lists d C) → (f : List ℤ → ℤ) → qs (λ v. f (list d v)) (dependency d x C c b) (x ∷ C) ≡ c *ℤ f (list d x) -ℤ dot b (map f (lists d C))
unfolding dependency
sums d x C c b h l f = fn-sum d (x ∷ C) (c ∷ scale (negsuc 0) b) h (ap suc (length-scale (negsuc 0) b ∙ l)) f ∙ ap (λ z. c *ℤ f (list d x) +ℤ z) (scale-dot (negsuc 0) b (map f (lists d C))) ∙ omega (arith, ints)

pub flat : (d : ℕ) (x : Vec d) (C : List (Vec d)) (c : ℤ) (b : List ℤ) → Distinct (vec-dec d) (x ∷ C) → IsExpression (lists d C) (list d x) c b → (j : ℕ) → qs (coordinate d j) (dependency d x C c b) (x ∷ C) ≡ pos 0
flat d x C c b h e zero = sums d x C c b h e.one_each (λ y. pos 1) ∙ omega (arith, ints, dot-constant b (pos 1) (lists d C) e.one_each, e.sum)
flat d x C c b h e (suc j) = qs-fun (λ v. place d v j) (λ v. dot a (list d v)) (dependency d x C c b) (λ v. sym (dot-axis d j v)) (x ∷ C) ∙ sums d x C c b h e.one_each (dot a) ∙ omega (arith, ints, dot-combine a b (lists d C), ap (dot a) e.point, dot-scale a c (list d x))
  where
    a : List ℤ
    a = list d (axis d j)

pub from_pair : (d : ℕ) (two : 2 ≤ d) (t : List (List (List ℤ))) (q w : Form d) (n : List ℤ) (set : Walls d two t q w n) (k : IsDelaunay d q.numbers t) (wall : dot n w.numbers ≡ pos 0) (C : List (Vec d)) (v : List ℤ) (c : ℤ) (b : List ℤ) → IsPair d t n (lists d C) v c b →
    (x : Vec d) × (list d x ≡ v) × Distinct (vec-dec d) (x ∷ C) × Cell set (x ∷ C) (fn d (x ∷ C) (c ∷ scale (negsuc 0) b))
unfolding dependency
from_pair d two t q w n set k wall C v c b pair = (x, xv.1, dist, cell-of set C (base_placed d two t C pair.member) x (xv.2) (dependency d x C c b) (subst (λ z. pos 0 <ℤ z) (sym (fn-head d x C c (scale (negsuc 0) b))) ex.positive) (flat d x C c b dist ex) zero_w)
  where
    xv : (x : Vec d) × (list d x ≡ v) × (In (vec-dec d) x C → ⊥)
    xv = vertex_of d two q t n k C v c b pair

    x : Vec d
    x = xv.0

    ex : IsExpression (lists d C) (list d x) c b
    ex = subst (λ y. IsExpression (lists d C) y c b) (sym (xv.1)) pair.expression

    dist : Distinct (vec-dec d) (x ∷ C)
    dist = distinct-cons x C (ascending-distinct d C ((k.members (lists d C)).0 pair.member).0.ascending) (xv.2)

    zero_w : qs (at d w) (dependency d x C c b) (x ∷ C) ≡ pos 0
    zero_w = sums d x C c b dist ex.one_each (value w.numbers) ∙ ap (λ y. c *ℤ value w.numbers y -ℤ dot b (map (value w.numbers) (lists d C))) (xv.1) ∙ sym (normal_value w.numbers (lists d C) v c b) ∙ ap (λ y. dot y w.numbers) pair.multiple ∙ scale-dot (pos pair.factor) n w.numbers ∙ ap (λ y. pos pair.factor *ℤ y) wall ∙ ring ((pos pair.factor) ∷ []) (var 0 ⊗ num (pos 0)) (num (pos 0)) tt

-- an exchanged class is a side of a cell
pub from_exchanged : (d : ℕ) (two : 2 ≤ d) (t : List (List (List ℤ))) (q w : Form d) (n : List ℤ) (set : Walls d two t q w n) (k : IsDelaunay d q.numbers t) (wall : dot n w.numbers ≡ pos 0) (sign : ℤ) (C : List (Vec d)) → IsExchanged d t n sign (lists d C) → (y : Vec d) × Side d two t q w n set sign (moved (shift d y) C)
unfolding AtPlace
from_exchanged d two t q w n set k wall sign C ex = (y.0, record { V = x ∷ C0; s = fn d (x ∷ C0) (ex.c ∷ scale (negsuc 0) ex.b); i = a.0; cell = r.3; side = subst (λ z. pos 0 <ℤ (sign *ℤ z)) (sym (a.4 (ex.c ∷ scale (negsuc 0) ex.b) (ap suc (length-scale (negsuc 0) ex.b ∙ pair.expression.one_each)))) ex.side; rest = alike-trans (a.2) (alike-cons (a.0) al) })
  where
    cp : (C0 : List (Vec d)) × (lists d C0 ≡ ex.base)
    cp = class_points d q t k ex.base ex.pair.member

    C0 : List (Vec d)
    C0 = cp.0

    pair : IsPair d t n (lists d C0) ex.vertex ex.c ex.b
    pair = subst (λ r. IsPair d t n r ex.vertex ex.c ex.b) (sym (cp.1)) ex.pair

    r : (x : Vec d) × (list d x ≡ ex.vertex) × Distinct (vec-dec d) (x ∷ C0) × Cell set (x ∷ C0) (fn d (x ∷ C0) (ex.c ∷ scale (negsuc 0) ex.b))
    r = from_pair d two t q w n set k wall C0 ex.vertex ex.c ex.b pair

    x : Vec d
    x = r.0

    cls0 : IsClass d (lists d C0)
    cls0 = ((k.members (lists d C0)).0 pair.member).0

    a : AtPlace d (x ∷ C0) ex.place
    a = number_at_place d (x ∷ C0) (r.2) ex.place (omega (arith, ex.within, cls0.simplex.count))

    cls : IsClass d (lists d C)
    cls = ex.class_of.«class»

    y : (y : Vec d) × (list d y ≡ ex.class_of.shift)
    y = of_list d ex.class_of.shift ex.class_of.dimension

    M : List (Vec d)
    M = moved (shift d (y.0)) C

    is_M : lists d M ≡ translate ex.class_of.shift (lists d C)
    is_M = lists-moved d (y.0) C ∙ ap (λ p. translate p (lists d C)) (y.1)

    is_rest : lists d (a.1) ≡ without ex.place (ex.vertex ∷ ex.base)
    is_rest = a.3 ∙ ap₂ (λ u l. without ex.place (u ∷ l)) (r.1) (cp.1)

    al : Alike (a.1) M
    al = alike_members d (a.1) M (distinct-tail (distinct-alike (r.2) (a.2))) (distinct-moved d (y.0) C (ascending-distinct d C cls.ascending))
        (λ z i. to_in d M z (subst (λ l. Contains l (list d z)) (sym is_M) ((ex.class_of.same (list d z)).0 (subst (λ l. Contains l (list d z)) is_rest (from_in d (a.1) z i)))))
        (λ z i. to_in d (a.1) z (subst (λ l. Contains l (list d z)) (sym is_rest) ((ex.class_of.same (list d z)).1 (subst (λ l. Contains l (list d z)) is_M (from_in d M z i)))))

-- ---- numbers of forms

same_from_forms : (x y : List ℤ) → length x ≡ length y → ((u : List ℤ) → length u ≡ length x → dot x u ≡ dot y u) → x ≡ y
same_from_forms [] [] l h = refl
same_from_forms [] (b ∷ y) l h = absurd (omega arith)
same_from_forms (a ∷ x) [] l h = absurd (omega arith)
same_from_forms (a ∷ x) (b ∷ y) l h = ap₂ (λ u v. u ∷ v) head (same_from_forms x y (omega arith) (λ u lu. omega (arith, ints, h (pos 0 ∷ u) (ap suc lu))))
  where
    length_zeros : (m : ℕ) → length (zeros m) ≡ m
    length_zeros zero = refl
    length_zeros (suc m) = ap suc (length_zeros m)

    head : a ≡ b
    head = omega (arith, ints, h (pos 1 ∷ zeros (length x)) (ap suc (length_zeros (length x))), dot_zeros x (length x), dot_zeros y (length x))

pub length_regulator : (d : ℕ) (two : 2 ≤ d) (q : Form d) (t : List (List (List ℤ))) → IsDelaunay d q.numbers t → (n : List ℤ) → IsRegulator d t n → length n ≡ numbers_of_form d
length_regulator d two q t k n r = sym (length-scale (pos pair.factor) n) ∙ ap length (sym pair.multiple) ∙ length-normal d (lists d C) (r.1) (r.2) (r.3) cls.simplex.points (omega (arith, cls.simplex.count)) (ap length (sym (x.1)) ∙ length-list d (x.0)) pair.expression.one_each
  where
    cp : (C : List (Vec d)) × (lists d C ≡ r.0)
    cp = class_points d q t k (r.0) ((r.4).member)

    C : List (Vec d)
    C = cp.0

    pair : IsPair d t n (lists d C) (r.1) (r.2) (r.3)
    pair = subst (λ s. IsPair d t n s (r.1) (r.2) (r.3)) (sym (cp.1)) (r.4)

    cls : IsClass d (lists d C)
    cls = ((k.members (lists d C)).0 pair.member).0

    x : (x : Vec d) × (list d x ≡ r.1) × (In (vec-dec d) x C → ⊥)
    x = vertex_of d two q t n k C (r.1) (r.2) (r.3) pair

natural : (z : ℤ) → pos 0 <ℤ z → (m : ℕ) × (0 < m) × (z ≡ pos m)
natural (pos m) h = (m, omega (arith, ints, h), refl)
natural (negsuc m) h = absurd (omega (arith, ints, h))

-- ---- a cell is a pair of the model

-- with the outer vertex w
pub record CellPair (d : ℕ) (t : List (List (List ℤ))) (n : List ℤ) (V : List (Vec d)) (s : Vec d → ℤ) (w : Vec d) : Type 0 where
  pub base : List (Vec d)
  pub by : Vec d
  pub is : IsClass d (lists d base)
  pub alike : Alike V (w ∷ moved (shift d by) base)
  pub pair : IsPair d t n (lists d base) (list d (shift d (opposite d by) w)) (s w) (row d (λ u. neg_ℤ (s (shift d by u))) base)

pub pair_of : (d : ℕ) (two : 2 ≤ d) (t : List (List (List ℤ))) (q w : Form d) (n : List ℤ) (set : Walls d two t q w n) (k : IsDelaunay d q.numbers t) → IsRegulator d t n → (V : List (Vec d)) (s : Vec d → ℤ) → (cell : Cell set V s) → CellPair d t n V s cell.w
pair_of d two t q w0 n set k reg V s cell = found (k.closed (lists d C) sp0.i h.member (omega (arith, sp0.within, cls.simplex.count)))
  where
    p : Vec d
    p = cell.p

    w : Vec d
    w = cell.w

    F : List (Vec d)
    F = cell.F

    h : Placed d t (p ∷ F)
    h = cell.mem_p

    C : List (Vec d)
    C = h.base

    y : Vec d
    y = h.by

    cls : IsClass d (lists d C)
    cls = ((k.members (lists d C)).0 h.member).0

    dist : Distinct (vec-dec d) C
    dist = ascending-distinct d C cls.ascending

    p' : Vec d
    p' = shift d (opposite d y) p

    v' : Vec d
    v' = shift d (opposite d y) w

    in_p : In (vec-dec d) p' C
    in_p = subst (λ z. In (vec-dec d) p' z) (moved_back d y C) (in-moved (vec-dec d) (shift d (opposite d y)) p (moved (shift d y) C) (in-alike (in-head (vec-dec d) p F) h.alike))

    sp0 : Spot d C p'
    sp0 = spot d C dist p' in_p

    facet : Alike F (moved (shift d y) sp0.rest)
    facet = alike-cancel p (alike-trans h.alike (subst (λ z. Alike (moved (shift d y) C) (z ∷ moved (shift d y) sp0.rest)) (shift-forth d y p) (subst (λ z. Alike (moved (shift d y) C) z) (moved-cons (shift d y) p' sp0.rest) (alike-moved (shift d y) sp0.alike))))

    back : Alike (moved (shift d (opposite d y)) F) sp0.rest
    back = subst (λ z. Alike (moved (shift d (opposite d y)) F) z) (moved_back d y sp0.rest) (alike-moved (shift d (opposite d y)) facet)

    al_w : Alike V (w ∷ p ∷ F)
    al_w = alike-trans cell.all (alike-swap p w F)

    nb : Vec d → ℤ
    nb v = neg_ℤ (s v)

    o : Opp (space d two) p w F
    o = record {
      c = s w;
      m = s p;
      bs = nb;
      c_pos = cell.w_pos;
      m_pos = cell.p_pos;
      flat = λ j. omega (arith, ints, cell-at set cell w (p ∷ F) al_w j, qs-cons (coordinate d j) s p F) ∙ sym (qs-minus (coordinate d j) s F);
    }

    opp' : Opp (space d two) p' v' sp0.rest
    opp' = opp-alike (opp-shift d two (opposite d y) p w F o) back

    placed' : Placed d t (v' ∷ sp0.rest)
    placed' = placed-alike d t (subst (Placed d t) (moved-cons (shift d (opposite d y)) w F) (placed-moved d t (opposite d y) (w ∷ F) cell.mem_w)) (alike-cons v' back)

    e0 : Expr (space d two) w (p ∷ F) (s w) nb
    e0 = dep-expr (space d two) w (p ∷ F) s cell.w_pos (cell-at set cell w (p ∷ F) al_w)

    e1 : Expr (space d two) w (moved (shift d y) C) (s w) nb
    e1 = expr-alike e0 h.alike

    g : Vec d → ℤ
    g u = neg_ℤ (s (shift d y u))

    e2 : Expr (space d two) v' C (s w) g
    e2 = expr-back d two y w C (s w) nb e1

    ex : IsExpression (lists d C) (list d v') (s w) (row d g C)
    ex = to_expression d two v' C (s w) g (omega (arith, cls.simplex.count)) e2

    normal : List ℤ
    normal = excess_normal (lists d C) (list d v') (s w) (row d g C)

    normal_is : (b : Form d) → dot normal b.numbers ≡ cell.factor *ℤ dot n b.numbers
    normal_is b = normal_value b.numbers (lists d C) (list d v') (s w) (row d g C) ∙ row_excess d two b v' C (s w) g ∙ sym (excess-back d two b y w C (s w) nb e1) ∙ sym (excess-alike (at d b) w (s w) nb h.alike) ∙ dep-excess (at d b) w (p ∷ F) s ∙ sym (alike-qs (at d b) s w al_w) ∙ cell.multiple b

    f : (m : ℕ) × (0 < m) × (cell.factor ≡ pos m)
    f = natural cell.factor cell.factor_pos

    length_is : length normal ≡ numbers_of_form d
    length_is = length-normal d (lists d C) (list d v') (s w) (row d g C) cls.simplex.points (omega (arith, cls.simplex.count)) (length-list d v') ex.one_each

    multiple : normal ≡ scale (pos (f.0)) n
    multiple = same_from_forms normal (scale (pos (f.0)) n) (length_is ∙ sym (length-scale (pos (f.0)) n ∙ length_regulator d two q t k n reg)) (λ u lu. normal_is (record { numbers = u; is = lu ∙ length_is }) ∙ ap (λ z. z *ℤ dot n u) (f.2) ∙ sym (scale-dot (pos (f.0)) n u))

    found : (next : List (List ℤ)) × (m : List ℤ) × (j : ℕ) × IsNeighbour d t (lists d C) sp0.i next m j → CellPair d t n V s cell.w
    found r = record { base = C; by = y; is = cls; alike = alike-trans al_w (alike-cons w h.alike); pair = pair }
      where
        u : Outer d two t sp0.rest (get_or (translate (r.1) (r.0)) (r.2) [])
        u = outer d two q t k (lists d C) sp0.i sp0.rest sp0.lists_rest (r.0) (r.1) (r.2) (r.3)

        same : v' ≡ u.v
        same = unique d two q t k p' u.v v' sp0.rest u.placed placed' (opp_beyond d two C p' u.v sp0.rest sp0.i dist sp0.alike sp0.number (get_or (translate (r.1) (r.0)) (r.2) []) u.is ((r.3).beyond)) opp'

        pair : IsPair d t n (lists d C) (list d v') (s w) (row d g C)
        pair = record {
          member = h.member;
          facet = sp0.i;
          place = omega (arith, sp0.within, cls.simplex.count);
          next = r.0;
          shift = r.1;
          outer = r.2;
          neighbour = r.3;
          vertex = ap (list d) same ∙ u.is;
          expression = ex;
          primitive = (reg.4).primitive;
          factor = f.0;
          some = f.1;
          multiple = multiple;
        }

negated : (d : ℕ) (f : Vec d → ℤ) (C : List (Vec d)) → scale (negsuc 0) (row d (λ u. neg_ℤ (f u)) C) ≡ row d f C
negated d f [] = refl
negated d f (v ∷ C) = ap₂ (λ a l. a ∷ l) (ring ((f v) ∷ []) (num (negsuc 0) ⊗ neg (var 0)) (var 0) tt) (negated d f C)

-- a side of a cell, of a class that is a translate of it
pub to_exchanged : (d : ℕ) (two : 2 ≤ d) (t : List (List (List ℤ))) (q w : Form d) (n : List ℤ) (set : Walls d two t q w n) (k : IsDelaunay d q.numbers t) → IsRegulator d t n → (sign : ℤ) (S : List (Vec d)) → Side d two t q w n set sign S → (C : List (Vec d)) (y : Vec d) → IsClass d (lists d C) → Alike S (moved (shift d y) C) → IsExchanged d t n sign (lists d C)
to_exchanged d two t q w n set k reg sign S sd C y cls al = record {
  base = lists d C0;
  vertex = list d v;
  c = s sd.cell.w;
  b = row d (λ u. neg_ℤ (s (shift d z u))) C0;
  pair = cp.pair;
  place = st.0;
  within = omega (arith, seat.within, cp.is.simplex.count);
  side = subst (λ a. pos 0 <ℤ (sign *ℤ a)) (sym (ap (number_at (st.0)) numbers ∙ seat.number G ∙ ap s (shift-forth d z i))) sd.side;
  class_of = record { shift = list d m; dimension = length-list d m; «class» = cls; same = λ x. (λ h. subst (λ l. Contains l x) (lists-moved d m C) (contains_alike d seat.rest (moved (shift d m) C) rests x (subst (λ l. Contains l x) (sym seat.lists_rest) h)), λ h. subst (λ l. Contains l x) seat.lists_rest (contains_alike d (moved (shift d m) C) seat.rest (alike-sym rests) x (subst (λ l. Contains l x) (sym (lists-moved d m C)) h))) };
}
  where
    s : Vec d → ℤ
    s = sd.s

    i : Vec d
    i = sd.i

    cp : CellPair d t n sd.V s sd.cell.w
    cp = pair_of d two t q w n set k reg sd.V s sd.cell

    C0 : List (Vec d)
    C0 = cp.base

    z : Vec d
    z = cp.by

    v : Vec d
    v = shift d (opposite d z) sd.cell.w

    i' : Vec d
    i' = shift d (opposite d z) i

    m : Vec d
    m = add d y (opposite d z)

    G : Vec d → ℤ
    G u = s (shift d z u)

    here : Alike (moved (shift d (opposite d z)) sd.V) (v ∷ C0)
    here = subst (λ l. Alike (moved (shift d (opposite d z)) sd.V) (v ∷ l)) (moved_back d z C0) (subst (λ l. Alike (moved (shift d (opposite d z)) sd.V) l) (moved-cons (shift d (opposite d z)) sd.cell.w (moved (shift d z) C0)) (alike-moved (shift d (opposite d z)) cp.alike))

    there : Alike (moved (shift d (opposite d z)) sd.V) (i' ∷ moved (shift d m) C)
    there = subst (λ l. Alike (moved (shift d (opposite d z)) sd.V) (i' ∷ l)) (twice d y (opposite d z) C) (subst (λ l. Alike (moved (shift d (opposite d z)) sd.V) l) (moved-cons (shift d (opposite d z)) i (moved (shift d y) C)) (alike-moved (shift d (opposite d z)) (alike-trans sd.rest (alike-cons i al))))

    st : (j : ℕ) × Seat d (v ∷ C0) j i'
    st = find_seat d (v ∷ C0) i' (in-alike (in-head (vec-dec d) i' (moved (shift d m) C)) (alike-trans (alike-sym there) here))

    seat : Seat d (v ∷ C0) (st.0) i'
    seat = st.1

    rests : Alike seat.rest (moved (shift d m) C)
    rests = alike-cancel i' (alike-trans (alike-sym seat.alike) (alike-trans (alike-sym here) there))

    numbers : (s sd.cell.w) ∷ scale (negsuc 0) (row d (λ u. neg_ℤ (s (shift d z u))) C0) ≡ row d G (v ∷ C0)
    numbers = ap₂ (λ a l. a ∷ l) (ap s (sym (shift-forth d z sd.cell.w))) (negated d G C0)
