-- The scale, the neighbours and the products of coordinates of the placed simplices of a Delaunay triangulation.
use Rattle.std.proofs.Common.{List, [], ◌∷◌, length, map, get_or, ◌≡◌, ◌≢◌, ℕ, zero, suc, ◌<◌, ◌≤◌, ◌⊎◌, inl, inr, refl, sym, ◌∙◌, ap, ap₂, subst, arith, ℤ, pos, neg_ℤ, ◌+ℤ◌, ◌-ℤ◌, ◌*ℤ◌, ◌<ℤ◌}
use Rattle.std.proofs.lemmas.Int.{ints}
use Rattle.std.specs.List.{Contains}
use Rattle.lt_model.proofs.Ring.{ring, ring_by, ring_by_two, var, num, neg, ◌⊕◌, ◌⊖◌, ◌⊗◌}
use Rattle.lt_walls.proofs.Signs.{ring_by_three}
use Rattle.lt_walls.proofs.Sums.{qs, qs-lin}
use Rattle.lt_model.specs.Padded.{head_z, tail_z}
use Rattle.lt_walls.proofs.Lists.{Alike, alike-refl, alike-sym, alike-trans, alike-cons, alike-cancel, alike-second, alike-qs, qs-cons, qs-nil, qs-fun, qs-of, qs-diff, qs-scale, qs-zero, In, in-nil, in-head, in-tail, in-cases, in-alike, front, Distinct, distinct-alike, distinct-out, distinct-tail, differ, apart, upd, upd-at, upd-off, upd-cons}
use Rattle.lt_walls.proofs.Space.{Simp, excess, excess-is, same-at, Opp, opp-alike}
use Rattle.lt_walls.proofs.Margins.{moved, qs-moved, alike-moved, in-moved, moved-cons}
use Rattle.lt_geometry.proofs.Points.{Vec, list, of_list, length-list, place, coordinate, vec-dec, list-add, lin, lin-scale, lin-same, carried, Form, at, space, product, length-product, product-value, axis, none, dot-axis, place-none, lin-zeros}
use Rattle.lt_geometry.proofs.Members.{lists, of_lists, list-same, ascending-distinct, shift, opposite, shift-back, shift-forth, off, coordinate-shift, sum-shift, moved_back, Placed, placed-alike, placed-moved}
use Rattle.lt_model.specs.Vectors.{scale, dot, total, combine}
use Rattle.lt_model.specs.Simplices.{IsClass, translate}
use Rattle.lt_model.specs.Facets.{without, number_at, IsBeyond, IsNeighbour}
use Rattle.lt_model.specs.Triangulations.{IsDelaunay}
use Rattle.lt_model.proofs.Vectors.{dot-scale}
use Rattle.lt_model.proofs.Excess.{dot-combine, dot-constant}
use Rattle.lt_model.proofs.Walk.{IsWeighted}
use Rattle.lt_geometry.proofs.WalkEnds.{HasCommon, common}

-- aligned coefficients as a function on points
pub fn : (d : ℕ) → List (Vec d) → List ℤ → Vec d → ℤ
fn d [] b x = pos 0
fn d (v ∷ C) b x = upd (vec-dec d) v (head_z b) (fn d C (tail_z b)) x

pub fn-sum : (d : ℕ) (C : List (Vec d)) (b : List ℤ) → Distinct (vec-dec d) C → length b ≡ length (lists d C) → (f : List ℤ → ℤ) → qs (λ v. f (list d v)) (fn d C b) C ≡ dot b (map f (lists d C))
unfolding fn
fn-sum d [] [] h l f = qs-nil (λ v. f (list d v)) (fn d [] [])
fn-sum d [] (a ∷ b) h l f = absurd (omega arith)
fn-sum d (v ∷ C) [] h l f = absurd (omega arith)
fn-sum d (v ∷ C) (a ∷ b) h l f = upd-cons (vec-dec d) v a (fn d C b) (λ v. f (list d v)) C (distinct-out h) ∙ ap (λ z. a *ℤ f (list d v) +ℤ z) (fn-sum d C b (distinct-tail h) (omega arith) f)

pub fn-head : (d : ℕ) (v : Vec d) (C : List (Vec d)) (a : ℤ) (b : List ℤ) → fn d (v ∷ C) (a ∷ b) v ≡ a
unfolding fn
fn-head d v C a b = upd-at (vec-dec d) v a (fn d C b)

pub fn-tail : (d : ℕ) (v : Vec d) (C : List (Vec d)) (a : ℤ) (b : List ℤ) (x : Vec d) → x ≢ v → fn d (v ∷ C) (a ∷ b) x ≡ fn d C b x
unfolding fn
fn-tail d v C a b x n = upd-off (vec-dec d) v a (fn d C b) x n

-- an expression of the model, or its numbers at one point, as an expression here
pub from_numbers : (d : ℕ) (C : List (Vec d)) (x : Vec d) (c : ℤ) (b : List ℤ) → Distinct (vec-dec d) C → length b ≡ length (lists d C) → combine b (lists d C) ≡ scale c (list d x) → total b ≡ c → (j : ℕ) → c *ℤ coordinate d j x ≡ qs (coordinate d j) (fn d C b) C
from_numbers d C x c b h l pt tot zero = ring_by (c ∷ (total b) ∷ []) (var 0 ⊗ num (pos 1)) (var 1 ⊗ num (pos 1)) (neg (num (pos 1))) (var 1) (var 0) tt (tot) ∙ sym (dot-constant b (pos 1) (lists d C) l) ∙ sym (fn-sum d C b h l (λ y. pos 1))
from_numbers d C x c b h l pt tot (suc j) = ap (λ z. c *ℤ z) (sym (dot-axis d j x)) ∙ sym (dot-scale e c (list d x)) ∙ ap (dot e) (sym pt) ∙ dot-combine e b (lists d C) ∙ sym (fn-sum d C b h l (dot e)) ∙ qs-fun (λ v. dot e (list d v)) (λ v. place d v j) (fn d C b) (λ v. dot-axis d j v) C
  where
    e : List ℤ
    e = list d (axis d j)

qs-coefficients : {P : Type 0} → (f b c : P → ℤ) → ((v : P) → b v ≡ c v) → (S : List P) → qs f b S ≡ qs f c S
qs-coefficients f b c h [] = qs-nil f b ∙ sym (qs-nil f c)
qs-coefficients f b c h (x ∷ S) = qs-cons f b x S ∙ ap₂ (λ y z. y *ℤ f x +ℤ z) (h x) (qs-coefficients f b c h S) ∙ sym (qs-cons f c x S)

qs-in : {P : Type 0} → (dec : (x y : P) → Dec (x ≡ y)) (f g b : P → ℤ) (S : List P) → ((v : P) → In dec v S → f v ≡ g v) → qs f b S ≡ qs g b S
qs-in dec f g b [] h = qs-nil f b ∙ sym (qs-nil g b)
qs-in dec f g b (x ∷ S) h = qs-cons f b x S ∙ ap₂ (λ y z. b x *ℤ y +ℤ z) (h x (in-head dec x S)) (qs-in dec f g b S (λ v i. h v (in-tail dec v x S i))) ∙ sym (qs-cons g b x S)

qs-plus : {P : Type 0} → (f s t : P → ℤ) (S : List P) → qs f (λ v. s v +ℤ t v) S ≡ qs f s S +ℤ qs f t S
qs-plus f s t S = qs-coefficients f (λ v. s v +ℤ t v) (λ v. pos 1 *ℤ s v +ℤ pos 1 *ℤ t v) (λ v. ring ((s v) ∷ (t v) ∷ []) (var 0 ⊕ var 1) (num (pos 1) ⊗ var 0 ⊕ num (pos 1) ⊗ var 1) tt) S ∙ qs-lin f s t (pos 1) (pos 1) S ∙ ring ((qs f s S) ∷ (qs f t S) ∷ []) (num (pos 1) ⊗ var 0 ⊕ num (pos 1) ⊗ var 1) (var 0 ⊕ var 1) tt

lin-coefficients : {P : Type 0} → (g : List ℤ) (f : P → ℤ) (h : ℕ → P → ℤ) (S : List P) → qs f (λ v. lin g (λ k. h k v)) S ≡ lin g (λ k. qs f (h k) S)
unfolding lin
lin-coefficients [] f h [] = qs-nil f (λ v. pos 0)
lin-coefficients [] f h (x ∷ S) = qs-cons f (λ v. pos 0) x S ∙ ap (λ z. pos 0 *ℤ f x +ℤ z) (lin-coefficients [] f h S) ∙ ring ((f x) ∷ []) (num (pos 0) ⊗ var 0 ⊕ num (pos 0)) (num (pos 0)) tt
lin-coefficients {P} (a ∷ g) f h S = qs-plus f (λ v. a *ℤ h zero v) (λ v. lin g (λ k. h (suc k) v)) S ∙ ap₂ (λ y z. y +ℤ z) (qs-scale f (h zero) a S) (lin-coefficients g f (λ k. h (suc k)) S)

-- the list of the first d numbers of a function
slopes : (d : ℕ) → (ℕ → ℤ) → List ℤ
slopes zero h = []
slopes (suc d) h = h zero ∷ slopes d (λ k. h (suc k))

length-slopes : (d : ℕ) (h : ℕ → ℤ) → length (slopes d h) ≡ d
unfolding slopes
length-slopes zero h = refl
length-slopes (suc d) h = ap suc (length-slopes d (λ k. h (suc k)))

slopes-dot : (d : ℕ) (h : ℕ → ℤ) (x : Vec d) → dot (slopes d h) (list d x) ≡ lin (list d x) h
unfolding slopes lin
slopes-dot zero h x = refl
slopes-dot (suc d) h x = ap (λ z. h zero *ℤ x.0 +ℤ z) (slopes-dot d (λ k. h (suc k)) (x.1)) ∙ ring ((h zero) ∷ x.0 ∷ (lin (list d (x.1)) (λ k. h (suc k))) ∷ []) (var 0 ⊗ var 1 ⊕ var 2) (var 1 ⊗ var 0 ⊕ var 2) tt

lin-axes : (d : ℕ) (x : Vec d) (l : ℕ) → lin (list d x) (λ k. place d (axis d k) l) ≡ place d x l
unfolding lin
lin-axes zero x l = refl
lin-axes (suc d) x zero = ap (λ z. x.0 *ℤ pos 1 +ℤ z) (lin-zeros (list d (x.1))) ∙ ring (x.0 ∷ []) (var 0 ⊗ num (pos 1) ⊕ num (pos 0)) (var 0) tt
lin-axes (suc d) x (suc l) = ap₂ (λ y z. x.0 *ℤ y +ℤ z) (place-none d l) (lin-axes d (x.1) l) ∙ ring (x.0 ∷ (place d (x.1) l) ∷ []) (var 0 ⊗ num (pos 0) ⊕ var 1) (var 1) tt

-- an expression carried along a translation
pub expr-forth : (d : ℕ) (y x : Vec d) (C : List (Vec d)) (c : ℤ) (a : Vec d → ℤ) → ((j : ℕ) → c *ℤ coordinate d j x ≡ qs (coordinate d j) a C) → (j : ℕ) → c *ℤ coordinate d j (shift d y x) ≡ qs (coordinate d j) (λ v. a (shift d (opposite d y) v)) (moved (shift d y) C)
expr-forth d y x C c a e j = ap (λ z. c *ℤ z) (coordinate-shift d j y x) ∙ ring_by_two (c ∷ (coordinate d j x) ∷ (off d j y) ∷ (qs (coordinate d j) a C) ∷ (qs (coordinate d 0) a C) ∷ []) (var 0 ⊗ (var 1 ⊕ var 2)) (var 3 ⊕ var 2 ⊗ var 4) (num (pos 1)) (var 0 ⊗ var 1) (var 3) (var 2) (var 0 ⊗ num (pos 1)) (var 4) tt (e j) (e 0) ∙ sym (sum-shift d j y a C) ∙ back
  where
    ends : qs (λ v. coordinate d j (shift d y v)) a C ≡ qs (λ v. coordinate d j (shift d y v)) (λ v. a (shift d (opposite d y) (shift d y v))) C
    ends = coefficients C
      where
        coefficients : (S : List (Vec d)) → qs (λ v. coordinate d j (shift d y v)) a S ≡ qs (λ v. coordinate d j (shift d y v)) (λ v. a (shift d (opposite d y) (shift d y v))) S
        coefficients S = qs-coefficients (λ v. coordinate d j (shift d y v)) a (λ v. a (shift d (opposite d y) (shift d y v))) (λ v. ap a (sym (shift-back d y v))) S

    back : qs (λ v. coordinate d j (shift d y v)) a C ≡ qs (coordinate d j) (λ v. a (shift d (opposite d y) v)) (moved (shift d y) C)
    back = ends ∙ sym (qs-moved (shift d y) (coordinate d j) (λ v. a (shift d (opposite d y) v)) C)

pub opp-shift : (d : ℕ) (two : 2 ≤ d) (y r z : Vec d) (F : List (Vec d)) → Opp (space d two) r z F → Opp (space d two) (shift d y r) (shift d y z) (moved (shift d y) F)
opp-shift d two y r z F o = record {
  c = o.c;
  m = o.m;
  bs = bs;
  c_pos = o.c_pos;
  m_pos = o.m_pos;
  flat = λ j. ap₂ (λ a b. o.c *ℤ a +ℤ o.m *ℤ b) (coordinate-shift d j y z) (coordinate-shift d j y r)
      ∙ ring_by_two (o.c ∷ o.m ∷ (coordinate d j z) ∷ (coordinate d j r) ∷ (off d j y) ∷ (qs (coordinate d j) o.bs F) ∷ (qs (coordinate d 0) o.bs F) ∷ []) (var 0 ⊗ (var 2 ⊕ var 4) ⊕ var 1 ⊗ (var 3 ⊕ var 4)) (var 5 ⊕ var 4 ⊗ var 6) (num (pos 1)) (var 0 ⊗ var 2 ⊕ var 1 ⊗ var 3) (var 5) (var 4) (var 0 ⊗ num (pos 1) ⊕ var 1 ⊗ num (pos 1)) (var 6) tt (o.flat j) (o.flat 0)
      ∙ sym (sum-shift d j y o.bs F) ∙ qs-coefficients (λ v. coordinate d j (shift d y v)) o.bs (λ v. bs (shift d y v)) (λ v. ap o.bs (sym (shift-back d y v))) F ∙ sym (qs-moved (shift d y) (coordinate d j) bs F);
}
  where
    bs : Vec d → ℤ
    bs v = o.bs (shift d (opposite d y) v)

-- ---- the common scale

pub scale_of : (d : ℕ) (q : Form d) (t : List (List (List ℤ))) → IsDelaunay d q.numbers t → HasCommon d t
scale_of d q t k = common d t (λ s m. ((k.members s).0 m).0.simplex)

pub coords : (d : ℕ) (q : Form d) (t : List (List (List ℤ))) (k : IsDelaunay d q.numbers t) (S : List (Vec d)) → Placed d t S → (x : Vec d) → (a : Vec d → ℤ) × ((j : ℕ) → (scale_of d q t k).c *ℤ coordinate d j x ≡ qs (coordinate d j) a S)
coords d q t k S h x = (a, λ j. ap (λ z. w.c *ℤ coordinate d j z) (sym (shift-forth d h.by x)) ∙ expr-forth d h.by x' h.base w.c (fn d h.base b) (from_numbers d h.base x' w.c b dist e.one_each e.point (e.sum ∙ ring (w.c ∷ []) (var 0 ⊗ num (pos 1)) (var 0) tt)) j ∙ (alike-sym h.alike).same (coordinate d j) a)
  where
    w : HasCommon d t
    w = scale_of d q t k

    x' : Vec d
    x' = shift d (opposite d h.by) x

    r : (b : List ℤ) × IsWeighted (lists d h.base) (pos 1) (list d x') w.c b
    r = w.has (lists d h.base) (pos 1) (list d x') h.member (length-list d x')

    b : List ℤ
    b = r.0

    e : IsWeighted (lists d h.base) (pos 1) (list d x') w.c b
    e = r.1

    dist : Distinct (vec-dec d) h.base
    dist = ascending-distinct d h.base ((k.members (lists d h.base)).0 h.member).0.ascending

    a : Vec d → ℤ
    a v = fn d h.base b (shift d (opposite d h.by) v)

-- ---- places

pub record Spot (d : ℕ) (C : List (Vec d)) (x : Vec d) : Type 0 where
  pub i : ℕ
  pub within : i < length (lists d C)
  pub rest : List (Vec d)
  pub alike : Alike C (x ∷ rest)
  pub lists_rest : lists d rest ≡ without i (lists d C)
  pub number : (b : List ℤ) → length b ≡ length (lists d C) → fn d C b x ≡ number_at i b

pub spot : (d : ℕ) (C : List (Vec d)) → Distinct (vec-dec d) C → (x : Vec d) → In (vec-dec d) x C → Spot d C x
unfolding fn
spot d [] h x i = absurd (in-nil i)
spot d (v ∷ C) h x i = go (in-cases (vec-dec d) x v C i) (spot d C (distinct-tail h) x)
  where
    first : x ≡ v → (b : List ℤ) → length b ≡ length (lists d (v ∷ C)) → fn d (v ∷ C) b x ≡ number_at 0 b
    first e [] l = absurd (omega arith)
    first e (a ∷ b) l = ap (λ y. upd (vec-dec d) v a (fn d C b) y) e ∙ upd-at (vec-dec d) v a (fn d C b)

    later : (r : Spot d C x) → x ≢ v → (b : List ℤ) → length b ≡ length (lists d (v ∷ C)) → fn d (v ∷ C) b x ≡ number_at (suc r.i) b
    later r n [] l = absurd (omega arith)
    later r n (a ∷ b) l = upd-off (vec-dec d) v a (fn d C b) x n ∙ r.number b (omega arith)

    there : Spot d C x → x ≢ v → Spot d (v ∷ C) x
    there r n = let w : r.i < length (lists d C) = r.within in record { i = suc r.i; within = omega (arith, w); rest = v ∷ r.rest; alike = alike-second v x (alike-refl (v ∷ C)) r.alike; lists_rest = ap (λ z. list d v ∷ z) r.lists_rest; number = later r n }

    go : (x ≡ v) ⊎ In (vec-dec d) x C → (In (vec-dec d) x C → Spot d C x) → Spot d (v ∷ C) x
    go (inl e) r = record { i = 0; within = omega arith; rest = C; alike = subst (λ y. Alike (v ∷ C) (y ∷ C)) (sym e) (alike-refl (v ∷ C)); lists_rest = refl; number = first e }
    go (inr k) r = there (r k) (differ x (distinct-out h) k)

-- the point at a place
pub record Taken (d : ℕ) (C : List (Vec d)) (j : ℕ) : Type 0 where
  pub w : Vec d
  pub rest : List (Vec d)
  pub alike : Alike C (w ∷ rest)
  pub lists_rest : lists d rest ≡ without j (lists d C)
  pub is : list d w ≡ get_or (lists d C) j []

pub taken : (d : ℕ) (C : List (Vec d)) (j : ℕ) → j < length (lists d C) → Taken d C j
taken d [] j h = absurd (omega arith)
taken d (v ∷ C) zero h = record { w = v; rest = C; alike = alike-refl (v ∷ C); lists_rest = refl; is = refl }
taken d (v ∷ C) (suc j) h = let r = taken d C j (omega arith) in record { w = r.w; rest = v ∷ r.rest; alike = alike-second v r.w (alike-refl (v ∷ C)) r.alike; lists_rest = ap (λ z. list d v ∷ z) r.lists_rest; is = r.is }

pub lists-same : (d : ℕ) (C R : List (Vec d)) → lists d C ≡ lists d R → C ≡ R
lists-same d [] [] e = refl
lists-same d [] (y ∷ R) e = absurd (omega (arith, ap length e))
lists-same d (x ∷ C) [] e = absurd (omega (arith, ap length e))
lists-same d (x ∷ C) (y ∷ R) e = ap₂ (λ a b. a ∷ b) (list-same d x y (ap (λ l. get_or l 0 []) e)) (lists-same d C R (ap (λ l. rest_of l) e))
  where
    rest_of : List (List ℤ) → List (List ℤ)
    rest_of [] = []
    rest_of (a ∷ l) = l

pub lists-moved : (d : ℕ) (y : Vec d) (C : List (Vec d)) → lists d (moved (shift d y) C) ≡ translate (list d y) (lists d C)
unfolding moved
lists-moved d y [] = refl
lists-moved d y (v ∷ C) = ap₂ (λ a b. a ∷ b) (list-add d v y) (lists-moved d y C)

-- ---- neighbours

pub neighbours : (d : ℕ) (two : 2 ≤ d) (q : Form d) (t : List (List (List ℤ))) → IsDelaunay d q.numbers t → (p : Vec d) (F : List (Vec d)) → Placed d t (p ∷ F) → (w : Vec d) × Placed d t (w ∷ F) × Opp (space d two) p w F
neighbours d two q t k p F h = found (k.closed (lists d C) s.i h.member (omega (arith, s.within, cls.simplex.count)))
  where
    C : List (Vec d)
    C = h.base

    y : Vec d
    y = h.by

    cls : IsClass d (lists d C)
    cls = ((k.members (lists d C)).0 h.member).0

    dist : Distinct (vec-dec d) C
    dist = ascending-distinct d C cls.ascending

    p' : Vec d
    p' = shift d (opposite d y) p

    in_p : In (vec-dec d) p' C
    in_p = subst (λ z. In (vec-dec d) p' z) (moved_back d y C) (in-moved (vec-dec d) (shift d (opposite d y)) p (moved (shift d y) C) (in-alike (in-head (vec-dec d) p F) h.alike))

    s : Spot d C p'
    s = spot d C dist p' in_p

    -- F is the facet, moved
    facet : Alike F (moved (shift d y) s.rest)
    facet = alike-cancel p (alike-trans h.alike (subst (λ z. Alike (moved (shift d y) C) (z ∷ moved (shift d y) s.rest)) (shift-forth d y p) (subst (λ z. Alike (moved (shift d y) C) z) (moved-cons (shift d y) p' s.rest) (alike-moved (shift d y) s.alike))))

    found : (next : List (List ℤ)) × (m : List ℤ) × (j : ℕ) × IsNeighbour d t (lists d C) s.i next m j → (w : Vec d) × Placed d t (w ∷ F) × Opp (space d two) p w F
    found n = (w, placed-alike d t placed (alike-cons w (alike-sym facet)), opp-alike opp (alike-sym facet))
      where
        next : List (List ℤ)
        next = n.0

        j : ℕ
        j = n.2

        nb : IsNeighbour d t (lists d C) s.i next (n.1) j
        nb = n.3

        cls2 : IsClass d next
        cls2 = ((k.members next).0 nb.member).0

        c2 : (C2 : List (Vec d)) × (lists d C2 ≡ next)
        c2 = of_lists d next cls2.simplex.points

        m2 : (m : Vec d) × (list d m ≡ n.1)
        m2 = of_list d (n.1) nb.dimension

        M : List (Vec d)
        M = moved (shift d (m2.0)) (c2.0)

        is_M : lists d M ≡ translate (n.1) next
        is_M = lists-moved d (m2.0) (c2.0) ∙ ap₂ (λ a b. translate a b) (m2.1) (c2.1)

        len_M : length (lists d M) ≡ suc d
        len_M = ap length is_M ∙ length_translated next ∙ cls2.simplex.count
          where
            length_translated : (l : List (List ℤ)) → length (translate (n.1) l) ≡ length l
            length_translated [] = refl
            length_translated (a ∷ l) = ap suc (length_translated l)

        u : Taken d M j
        u = taken d M j (omega (arith, nb.place, len_M))

        w0 : Vec d
        w0 = u.w

        rest_same : u.rest ≡ s.rest
        rest_same = lists-same d u.rest s.rest (u.lists_rest ∙ ap (without j) is_M ∙ nb.facet ∙ sym s.lists_rest)

        is_w : list d w0 ≡ get_or (translate (n.1) next) j []
        is_w = u.is ∙ ap (λ l. get_or l j []) is_M

        placed0 : Placed d t (w0 ∷ s.rest)
        placed0 = record { base = c2.0; by = m2.0; member = subst (Contains t) (sym (c2.1)) nb.member; alike = subst (λ z. Alike (w0 ∷ z) M) rest_same (alike-sym u.alike) }

        w : Vec d
        w = shift d y w0

        placed : Placed d t (w ∷ moved (shift d y) s.rest)
        placed = subst (Placed d t) (moved-cons (shift d y) w0 s.rest) (placed-moved d t y (w0 ∷ s.rest) placed0)

        bd : IsBeyond (lists d C) s.i (get_or (translate (n.1) next) j [])
        bd = nb.beyond

        b : List ℤ
        b = bd.coefficients

        g : Vec d → ℤ
        g = fn d C b

        ex : (l : ℕ) → bd.scale *ℤ coordinate d l w0 ≡ qs (coordinate d l) g C
        ex = from_numbers d C w0 bd.scale b dist bd.expression.one_each (bd.expression.point ∙ ap (scale bd.scale) (sym is_w)) bd.expression.sum

        low : g p' <ℤ pos 0
        low = subst (λ z. z <ℤ pos 0) (sym (s.number b bd.expression.one_each)) bd.negative

        opp0 : Opp (space d two) p' w0 s.rest
        opp0 = record {
          c = bd.scale;
          m = neg_ℤ (g p');
          bs = g;
          c_pos = bd.expression.positive;
          m_pos = omega (arith, ints, low);
          flat = λ l. ring_by (bd.scale ∷ (coordinate d l w0) ∷ (g p') ∷ (coordinate d l p') ∷ (qs (coordinate d l) g s.rest) ∷ []) (var 0 ⊗ var 1 ⊕ neg (var 2) ⊗ var 3) (var 4) (num (pos 1)) (var 0 ⊗ var 1) (var 2 ⊗ var 3 ⊕ var 4) tt (ex l ∙ alike-qs (coordinate d l) g p' s.alike);
        }

        opp : Opp (space d two) p w (moved (shift d y) s.rest)
        opp = subst (λ z. Opp (space d two) z w (moved (shift d y) s.rest)) (shift-forth d y p) (opp-shift d two y p' w0 s.rest opp0)

-- ---- products of coordinates

pub products : (d : ℕ) (two : 2 ≤ d) (S : List (Vec d)) → Simp (space d two) S → (D : ℤ) → pos 0 <ℤ D → ((x : Vec d) → (a : Vec d → ℤ) × ((j : ℕ) → D *ℤ coordinate d j x ≡ qs (coordinate d j) a S)) →
    (i j : Vec d) (G : List (Vec d)) → Alike S (i ∷ j ∷ G) → (Q : Form d) × ((x : Vec d) (b : Vec d → ℤ) → ((k : ℕ) → D *ℤ coordinate d k x ≡ qs (coordinate d k) b S) → excess (at d Q) x S D b ≡ D *ℤ (b i *ℤ b j))
products d two S simp D D_pos co i j G al = (Q, holds)
  where
    o : Vec d → ℤ
    o = (co (none d)).0

    e : ℕ → Vec d → ℤ
    e k = (co (axis d k)).0

    -- the linear part of the coordinate at w
    normal : Vec d → List ℤ
    normal w = slopes d (λ k. e k w -ℤ o w)

    in_i : In (vec-dec d) i S
    in_i = in-alike (in-head (vec-dec d) i (j ∷ G)) (alike-sym al)

    in_j : In (vec-dec d) j S
    in_j = in-alike (in-tail (vec-dec d) j i (j ∷ G) (in-head (vec-dec d) j G)) (alike-sym al)

    i_not_j : i ≢ j
    i_not_j = apart (distinct-alike simp.distinct al)

    Q : Form d
    Q = record { numbers = product (normal i) (normal j); is = length-product d (normal i) (normal j) (length-slopes d (λ k. e k i -ℤ o i)) (length-slopes d (λ k. e k j -ℤ o j)) }

    -- the coordinate at w is affine
    formula : (w : Vec d) → In (vec-dec d) w S → (x : Vec d) (b : Vec d → ℤ) → ((k : ℕ) → D *ℤ coordinate d k x ≡ qs (coordinate d k) b S) → b w ≡ o w +ℤ dot (normal w) (list d x)
    formula w iw x b eb = same-at simp b r (λ l. sym (eb l) ∙ sums l) w iw ∙ ap (λ z. o w +ℤ z) (sym (slopes-dot d (λ k. e k w -ℤ o w) x))
      where
        r : Vec d → ℤ
        r v = o v +ℤ lin (list d x) (λ k. e k v -ℤ o v)

        sums : (l : ℕ) → D *ℤ coordinate d l x ≡ qs (coordinate d l) r S
        sums l = sym (add-up l) ∙ sym (qs-plus (coordinate d l) o (λ v. lin (list d x) (λ k. e k v -ℤ o v)) S ∙ ap₂ (λ y z. y +ℤ z) (sym ((co (none d)).1 l)) (lin-coefficients (list d x) (coordinate d l) (λ k v. e k v -ℤ o v) S ∙ lin-same (list d x) (λ k. qs (coordinate d l) (λ v. e k v -ℤ o v) S) (λ k. D *ℤ (coordinate d l (axis d k) -ℤ coordinate d l (none d))) (λ k. qs-diff (coordinate d l) (e k) o S ∙ ring_by_two (D ∷ (coordinate d l (axis d k)) ∷ (coordinate d l (none d)) ∷ (qs (coordinate d l) (e k) S) ∷ (qs (coordinate d l) o S) ∷ []) (var 3 ⊖ var 4) (var 0 ⊗ (var 1 ⊖ var 2)) (neg (num (pos 1))) (var 0 ⊗ var 1) (var 3) (num (pos 1)) (var 0 ⊗ var 2) (var 4) tt ((co (axis d k)).1 l) ((co (none d)).1 l)) ∙ lin-scale (list d x) D (λ k. coordinate d l (axis d k) -ℤ coordinate d l (none d))))
          where
            add-up : (l : ℕ) → D *ℤ coordinate d l (none d) +ℤ D *ℤ lin (list d x) (λ k. coordinate d l (axis d k) -ℤ coordinate d l (none d)) ≡ D *ℤ coordinate d l x
            add-up zero = ap (λ z. D *ℤ pos 1 +ℤ D *ℤ z) (lin-same (list d x) (λ k. pos 1 -ℤ pos 1) (λ k. pos 0) (λ k. refl) ∙ lin-zeros (list d x)) ∙ ring (D ∷ []) (var 0 ⊗ num (pos 1) ⊕ var 0 ⊗ num (pos 0)) (var 0 ⊗ num (pos 1)) tt
            add-up (suc l) = ap₂ (λ y z. D *ℤ y +ℤ D *ℤ z) (place-none d l) (lin-same (list d x) (λ k. place d (axis d k) l -ℤ place d (none d) l) (λ k. place d (axis d k) l) (λ k. omega (arith, ints, place-none d l)) ∙ lin-axes d x l) ∙ ring (D ∷ (place d x l) ∷ []) (var 0 ⊗ num (pos 0) ⊕ var 0 ⊗ var 1) (var 0 ⊗ var 1) tt

    -- at a vertex the coordinate is D or 0
    vertex : (v : Vec d) → In (vec-dec d) v S → (w : Vec d) → In (vec-dec d) w S → w ≢ v → o w +ℤ dot (normal w) (list d v) ≡ pos 0
    vertex v iv w iw n = sym (formula w iw v del sums) ∙ upd-off (vec-dec d) v D (λ y. pos 0) w n
      where
        f : (R : List (Vec d)) × Alike S (v ∷ R)
        f = front (vec-dec d) v S iv

        del : Vec d → ℤ
        del = upd (vec-dec d) v D (λ y. pos 0)

        sums : (k : ℕ) → D *ℤ coordinate d k v ≡ qs (coordinate d k) del S
        sums k = sym ((f.1).same (coordinate d k) del ∙ upd-cons (vec-dec d) v D (λ y. pos 0) (coordinate d k) (f.0) (distinct-out (distinct-alike simp.distinct (f.1))) ∙ ap (λ y. D *ℤ coordinate d k v +ℤ y) (qs-zero (vec-dec d) (coordinate d k) (λ y. pos 0) (f.0) (λ w i. refl)) ∙ ring ((D *ℤ coordinate d k v) ∷ []) (var 0 ⊕ num (pos 0)) (var 0) tt)

    ni : Vec d → ℤ
    ni x = dot (normal i) (list d x)

    nj : Vec d → ℤ
    nj x = dot (normal j) (list d x)

    affine : (x : Vec d) → at d Q x ≡ (o i +ℤ ni x) *ℤ (o j +ℤ nj x) -ℤ (o i *ℤ o j +ℤ o i *ℤ nj x +ℤ o j *ℤ ni x)
    affine x = product-value d (normal i) (normal j) x (length-slopes d (λ k. e k i -ℤ o i)) (length-slopes d (λ k. e k j -ℤ o j)) ∙ ring ((o i) ∷ (o j) ∷ (ni x) ∷ (nj x) ∷ []) (var 2 ⊗ var 3) ((var 0 ⊕ var 2) ⊗ (var 1 ⊕ var 3) ⊖ (var 0 ⊗ var 1 ⊕ var 0 ⊗ var 3 ⊕ var 1 ⊗ var 2)) tt

    at_vertex : (v : Vec d) → In (vec-dec d) v S → at d Q v ≡ neg_ℤ (o i *ℤ o j +ℤ o i *ℤ nj v +ℤ o j *ℤ ni v)
    at_vertex v iv = affine v ∙ ring_by (((o i +ℤ ni v) *ℤ (o j +ℤ nj v)) ∷ (o i *ℤ o j +ℤ o i *ℤ nj v +ℤ o j *ℤ ni v) ∷ []) (var 0 ⊖ var 1) (neg (var 1)) (num (pos 1)) (var 0) (num (pos 0)) tt (gone (vec-dec d i v))
      where
        gone : Dec (i ≡ v) → (o i +ℤ ni v) *ℤ (o j +ℤ nj v) ≡ pos 0
        gone (no n) = ap (λ z. z *ℤ (o j +ℤ nj v)) (vertex v iv i in_i n) ∙ ring ((o j +ℤ nj v) ∷ []) (num (pos 0) ⊗ var 0) (num (pos 0)) tt
        gone (yes q) = ap (λ z. (o i +ℤ ni v) *ℤ z) (vertex v iv j in_j (λ r. i_not_j (q ∙ sym r))) ∙ ring ((o i +ℤ ni v) ∷ []) (var 0 ⊗ num (pos 0)) (num (pos 0)) tt

    holds : (x : Vec d) (b : Vec d → ℤ) → ((k : ℕ) → D *ℤ coordinate d k x ≡ qs (coordinate d k) b S) → excess (at d Q) x S D b ≡ D *ℤ (b i *ℤ b j)
    holds x b eb = excess-is (at d Q) x S D b ∙ ap₂ (λ u v. D *ℤ u -ℤ v) (affine x) sum_v
        ∙ ring_by_two (D ∷ (o i) ∷ (o j) ∷ (ni x) ∷ (nj x) ∷ (b i *ℤ b j) ∷ (qs ni b S) ∷ (qs nj b S) ∷ (qs (coordinate d 0) b S) ∷ []) (var 0 ⊗ ((var 1 ⊕ var 3) ⊗ (var 2 ⊕ var 4) ⊖ (var 1 ⊗ var 2 ⊕ var 1 ⊗ var 4 ⊕ var 2 ⊗ var 3)) ⊖ neg (var 1 ⊗ var 2 ⊗ var 8 ⊕ (var 1 ⊗ var 7 ⊕ var 2 ⊗ var 6))) (var 0 ⊗ var 5) (neg (var 0)) (var 5) ((var 1 ⊕ var 3) ⊗ (var 2 ⊕ var 4)) (num (pos 1)) (var 1 ⊗ var 2 ⊗ var 8 ⊕ (var 1 ⊗ var 7 ⊕ var 2 ⊗ var 6)) (var 0 ⊗ (var 1 ⊗ var 2 ⊕ var 1 ⊗ var 4 ⊕ var 2 ⊗ var 3)) tt (ap₂ (λ y z. y *ℤ z) (formula i in_i x b eb) (formula j in_j x b eb)) (parts)
      where
        sum_v : qs (at d Q) b S ≡ neg_ℤ (o i *ℤ o j *ℤ qs (coordinate d 0) b S +ℤ (o i *ℤ qs nj b S +ℤ o j *ℤ qs ni b S))
        sum_v = qs-in (vec-dec d) (at d Q) (λ v. neg_ℤ (pos 1) *ℤ (o i *ℤ o j *ℤ pos 1 +ℤ pos 1 *ℤ (o i *ℤ nj v +ℤ o j *ℤ ni v)) +ℤ pos 0 *ℤ pos 0) b S (λ v iv. at_vertex v iv ∙ ring ((o i) ∷ (o j) ∷ (ni v) ∷ (nj v) ∷ []) (neg (var 0 ⊗ var 1 ⊕ var 0 ⊗ var 3 ⊕ var 1 ⊗ var 2)) (neg (num (pos 1)) ⊗ (var 0 ⊗ var 1 ⊗ num (pos 1) ⊕ num (pos 1) ⊗ (var 0 ⊗ var 3 ⊕ var 1 ⊗ var 2)) ⊕ num (pos 0) ⊗ num (pos 0)) tt)
            ∙ qs-of (λ v. o i *ℤ o j *ℤ pos 1 +ℤ pos 1 *ℤ (o i *ℤ nj v +ℤ o j *ℤ ni v)) (λ v. pos 0) b (neg_ℤ (pos 1)) (pos 0) S
            ∙ ap (λ z. neg_ℤ (pos 1) *ℤ z +ℤ pos 0 *ℤ qs (λ v. pos 0) b S) (qs-of (λ v. pos 1) (λ v. o i *ℤ nj v +ℤ o j *ℤ ni v) b (o i *ℤ o j) (pos 1) S ∙ ap (λ z. o i *ℤ o j *ℤ qs (λ v. pos 1) b S +ℤ pos 1 *ℤ z) (qs-of nj ni b (o i) (o j) S))
            ∙ ring ((o i) ∷ (o j) ∷ (qs (λ v. pos 1) b S) ∷ (qs nj b S) ∷ (qs ni b S) ∷ (qs (λ v. pos 0) b S) ∷ []) (neg (num (pos 1)) ⊗ (var 0 ⊗ var 1 ⊗ var 2 ⊕ num (pos 1) ⊗ (var 0 ⊗ var 3 ⊕ var 1 ⊗ var 4)) ⊕ num (pos 0) ⊗ var 5) (neg (var 0 ⊗ var 1 ⊗ var 2 ⊕ (var 0 ⊗ var 3 ⊕ var 1 ⊗ var 4))) tt

        parts : o i *ℤ o j *ℤ qs (coordinate d 0) b S +ℤ (o i *ℤ qs nj b S +ℤ o j *ℤ qs ni b S) ≡ D *ℤ (o i *ℤ o j +ℤ o i *ℤ nj x +ℤ o j *ℤ ni x)
        parts = ring_by_three (D ∷ (o i) ∷ (o j) ∷ (ni x) ∷ (nj x) ∷ (qs ni b S) ∷ (qs nj b S) ∷ (qs (coordinate d 0) b S) ∷ []) (var 1 ⊗ var 2 ⊗ var 7 ⊕ (var 1 ⊗ var 6 ⊕ var 2 ⊗ var 5)) (var 0 ⊗ (var 1 ⊗ var 2 ⊕ var 1 ⊗ var 4 ⊕ var 2 ⊗ var 3)) (neg (var 1 ⊗ var 2)) (var 0 ⊗ num (pos 1)) (var 7) (neg (var 1)) (var 0 ⊗ var 4) (var 6) (neg (var 2)) (var 0 ⊗ var 3) (var 5) tt (eb 0) (carried d (normal j) x D b S eb) (carried d (normal i) x D b S eb)
