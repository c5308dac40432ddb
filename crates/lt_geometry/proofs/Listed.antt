-- The flip of a Delaunay triangulation at a facet, as a list.
use Rattle.std.proofs.Common.{List, [], ◌∷◌, ◌++◌, get_or, ◌≡◌, ℕ, zero, suc, ◌<◌, ◌≤◌, ◌+◌, ◌⊎◌, inl, inr, refl, sym, ◌∙◌, ap, ap₂, subst, arith, ℤ, pos, negsuc, ◌*ℤ◌, ◌<ℤ◌, ◌≤ℤ◌}
use Rattle.std.proofs.lemmas.Int.{ints, by_lt_z}
use Rattle.std.proofs.Math.IntN.{ℤ_discrete}
use Rattle.std.specs.List.{Contains}
use Rattle.std.proofs.lemmas.List.Elements.{Contains-append_left, Contains-append_right, Contains-append_cases}
use Rattle.lt_model.proofs.Ring.{ring, var, ◌⊗◌}
use Rattle.lt_walls.proofs.Sums.{qs}
use Rattle.lt_model.proofs.Inequalities.{mul_nonneg_z}
use Rattle.lt_walls.proofs.Signs.{mul_neg_pos}
use Rattle.lt_walls.proofs.Lists.{Alike, alike-refl, alike-sym, alike-trans, In, in-head, in-alike, Distinct, distinct-alike, distinct-out, distinct-tail, distinct-cons}
use Rattle.lt_walls.proofs.Cells.{Cell, cell-of, parallel, dep-wall, Kept, Out, New, kept-or-out}
use Rattle.lt_walls.proofs.Margins.{moved}
use Rattle.lt_geometry.proofs.Points.{Vec, list, of_list, length-list, coordinate, vec-dec, Form, at}
use Rattle.lt_geometry.proofs.Members.{lists, of_lists, list-same, to_in, from_in, shift, opposite, moved_back, distinct-moved, ascending-distinct}
use Rattle.lt_geometry.proofs.Ties.{fn, fn-head, lists-moved}
use Rattle.lt_geometry.proofs.Pairs.{Outer, outer, AtPlace, number_at_place, opp_beyond, unique, class_points, base_placed}
use Rattle.lt_geometry.proofs.Sorting.{HasSorted, sorted, simplex_cmp_exact}
use Rattle.lt_geometry.proofs.HasClasses.{HasClass, alike_members, one_class}
use Rattle.lt_geometry.proofs.Exchanged.{Walls, dependency, flat, from_pair, from_exchanged, to_exchanged}
use Rattle.lt_geometry.proofs.FlipOf.{out_of, out_to, new_to, new_class, out_moved, flips_are_delaunay, flips_are_across}
use Rattle.lt_geometry.proofs.LocalToGlobal.{setting_of}
use Rattle.lt_model.specs.Vectors.{minus, scale, dot}
use Rattle.lt_model.specs.Order.{simplex_cmp}
use Rattle.lt_model.specs.Simplices.{IsClass, IsClassOf, IsExpression, translate}
use Rattle.lt_model.specs.Facets.{without, number_at, IsBeyond, IsNeighbour}
use Rattle.lt_model.specs.Triangulations.{IsDelaunay}
use Rattle.lt_model.specs.Walls.{IsPair, IsWallForm, IsFacet, IsAcross}
use Rattle.lt_model.specs.Flips.{IsExchanged, IsFlipOf}
use Rattle.lt_model.proofs.Squares.{length-scale}
use Rattle.lt_geometry.proofs.WalkEnds.{not_vertex}
use Rattle.lt_model.proofs.Sets.{Contains-head, Contains-tail, Contains-cases, Contains-none, same_members, one_triangulation, simplex_cmp_total}

-- ---- lists that have all with Y, and only such with Z

pub record Listing {X : Type 0} (Z Y : X → Type 0) : Type 0 where
  pub all : List X
  pub sound : (s : X) → Contains all s → Z s
  pub complete : (s : X) → Y s → Contains all s

both : {X : Type 0} → {Z Y Y' : X → Type 0} → Listing Z Y → Listing Z Y' → Listing Z (λ s. Y s ⊎ Y' s)
both {X} {Z} {Y} {Y'} a b = record { all = a.all ++ b.all; sound = λ s h. elim (Contains-append_cases a.all b.all s h) [ inl k ↦ a.sound s k | inr k ↦ b.sound s k ]; complete = λ s y. elim y [ inl k ↦ Contains-append_left a.all b.all s (a.complete s k) | inr k ↦ Contains-append_right a.all b.all s (b.complete s k) ] }

less : {X : Type 0} → {Z Y Y' : X → Type 0} → Listing Z Y → ((s : X) → Y' s → Y s) → Listing Z Y'
less a f = record { all = a.all; sound = a.sound; complete = λ s y. a.complete s (f s y) }

nothing : {X : Type 0} → (Z Y : X → Type 0) → ((s : X) → Y s → ⊥) → Listing Z Y
nothing Z Y h = record { all = []; sound = λ s c. Contains-none s c; complete = λ s y. absurd (h s y) }

pub gather : {A X : Type 0} → (Z : X → Type 0) (Y : A → X → Type 0) (r : List A) → ((a : A) → Contains r a → Listing Z (Y a)) → Listing Z (λ s. (a : A) × Contains r a × Y a s)
gather Z Y [] f = nothing Z (λ s. (a : _) × Contains [] a × Y a s) (λ s y. Contains-none (y.0) (y.1))
gather {A} {X} Z Y (x ∷ r) f = less (both (f x (Contains-head x r)) (gather Z Y r (λ a h. f a (Contains-tail x r a h)))) split
  where
    split : (s : X) → (a : A) × Contains (x ∷ r) a × Y a s → Y x s ⊎ ((a : A) × Contains r a × Y a s)
    split s y = elim (Contains-cases x r (y.0) (y.1)) [ inl e ↦ inl (subst (λ a. Y a s) (sym e) (y.2)) | inr k ↦ inr (y.0, k, y.2) ]

below : {X : Type 0} → (Z : X → Type 0) (Y : ℕ → X → Type 0) (m : ℕ) → ((i : ℕ) → i < m → Listing Z (Y i)) → Listing Z (λ s. (i : ℕ) × (i < m) × Y i s)
below Z Y zero f = nothing Z (λ s. (i : ℕ) × (i < zero) × Y i s) (λ s y. let l = y.1 in omega (arith, l))
below {X} Z Y (suc m) f = less (both (f 0 (omega arith)) (below Z (λ i. Y (suc i)) m (λ i h. f (suc i) (omega (arith, h))))) split
  where
    split : (s : X) → (i : ℕ) × (i < suc m) × Y i s → Y 0 s ⊎ ((i : ℕ) × (i < m) × Y (suc i) s)
    split s (zero, h, y) = inl y
    split s (suc i, h, y) = inr (i, omega (arith, h), y)

-- ---- the point beyond a facet of a class, with an expression

record Fan (d : ℕ) (t : List (List (List ℤ))) (n : List ℤ) (C : List (Vec d)) (i : ℕ) : Type 0 where
  x : Vec d
  dist : Distinct (vec-dec d) (x ∷ C)
  c : ℤ
  b : List ℤ
  expression : IsExpression (lists d C) (list d x) c b
  only : (v : List ℤ) (e : ℤ) (g : List ℤ) (pair : IsPair d t n (lists d C) v e g) → pair.facet ≡ i → list d x ≡ v

fan : (d : ℕ) (two : 2 ≤ d) (q : Form d) (t : List (List (List ℤ))) (n : List ℤ) → IsDelaunay d q.numbers t → (C : List (Vec d)) → Contains t (lists d C) → (i : ℕ) → i < suc d → Fan d t n C i
unfolding AtPlace
fan d two q t n k C mem i li = record {
  x = o.v;
  dist = distinct-cons o.v C dist (λ h. not_vertex d (lists d C) (list d o.v) bd.coefficients bd.scale i cls.simplex (length-list d o.v) (from_in d C o.v h) ex bd.negative);
  c = bd.scale;
  b = bd.coefficients;
  expression = ex;
  only = only;
}
  where
    cls : IsClass d (lists d C)
    cls = ((k.members (lists d C)).0 mem).0

    dist : Distinct (vec-dec d) C
    dist = ascending-distinct d C cls.ascending

    r : (next : List (List ℤ)) × (m : List ℤ) × (j : ℕ) × IsNeighbour d t (lists d C) i next m j
    r = k.closed (lists d C) i mem li

    a : AtPlace d C i
    a = number_at_place d C dist i (omega (arith, li, cls.simplex.count))

    o : Outer d two t (a.1) (get_or (translate (r.1) (r.0)) (r.2) [])
    o = outer d two q t k (lists d C) i (a.1) (a.3) (r.0) (r.1) (r.2) (r.3)

    bd : IsBeyond (lists d C) i (get_or (translate (r.1) (r.0)) (r.2) [])
    bd = (r.3).beyond

    ex : IsExpression (lists d C) (list d o.v) bd.scale bd.coefficients
    ex = subst (λ y. IsExpression (lists d C) y bd.scale bd.coefficients) (sym o.is) bd.expression

    only : (v : List ℤ) (e : ℤ) (g : List ℤ) (pair : IsPair d t n (lists d C) v e g) → pair.facet ≡ i → list d o.v ≡ v
    only v e g pair is = ap (list d) (unique d two q t k (a.0) u.v o.v (a.1) u.placed o.placed (opp_beyond d two C (a.0) u.v (a.1) i dist (a.2) (a.4) (get_or (translate pair.shift pair.next) pair.outer []) u.is nb.beyond) (opp_beyond d two C (a.0) o.v (a.1) i dist (a.2) (a.4) (get_or (translate (r.1) (r.0)) (r.2) []) o.is bd)) ∙ u.is ∙ sym pair.vertex
      where
        nb : IsNeighbour d t (lists d C) i pair.next pair.shift pair.outer
        nb = subst (λ j. IsNeighbour d t (lists d C) j pair.next pair.shift pair.outer) is pair.neighbour

        u : Outer d two t (a.1) (get_or (translate pair.shift pair.next) pair.outer [])
        u = outer d two q t k (lists d C) i (a.1) (a.3) pair.next pair.shift pair.outer nb

-- s is made at place l of the pair at facet i of C
record Made (d : ℕ) (t : List (List (List ℤ))) (n : List ℤ) (C : List (Vec d)) (i l : ℕ) (s : List (List ℤ)) : Type 0 where
  vertex : List ℤ
  c : ℤ
  b : List ℤ
  pair : IsPair d t n (lists d C) vertex c b
  facet : pair.facet ≡ i
  side : pos 0 <ℤ (negsuc 0 *ℤ number_at l (c ∷ scale (negsuc 0) b))
  class_of : IsClassOf d (without l (vertex ∷ lists d C)) s

-- its cell
made_cell : (d : ℕ) (two : 2 ≤ d) (t : List (List (List ℤ))) (q w : Form d) (n : List ℤ) (set : Walls d two t q w n) → IsDelaunay d q.numbers t → dot n w.numbers ≡ pos 0 → (C : List (Vec d)) (i l : ℕ) (s : List (List ℤ)) (f : Fan d t n C i) (m : Made d t n C i l s) → Cell set (f.x ∷ C) (fn d (f.x ∷ C) (m.c ∷ scale (negsuc 0) m.b))
made_cell d two t q w n set k wall C i l s f m = subst (λ y. Cell set (y ∷ C) (fn d (y ∷ C) (m.c ∷ scale (negsuc 0) m.b))) (list-same d (r.0) f.x (r.1 ∙ sym (f.only m.vertex m.c m.b m.pair m.facet))) (r.3)
  where
    r : (x : Vec d) × (list d x ≡ m.vertex) × Distinct (vec-dec d) (x ∷ C) × Cell set (x ∷ C) (fn d (x ∷ C) (m.c ∷ scale (negsuc 0) m.b))
    r = from_pair d two t q w n set k wall C m.vertex m.c m.b m.pair

only_member : {X : Type 0} → (x s : X) → Contains (x ∷ []) s → x ≡ s
only_member x s h = elim (Contains-cases x [] s h) [ inl e ↦ e | inr r ↦ Contains-none s r ]

at_place : (d : ℕ) (two : 2 ≤ d) (t : List (List (List ℤ))) (q w : Form d) (n : List ℤ) (set : Walls d two t q w n) → IsDelaunay d q.numbers t → IsWallForm d t n w.numbers → (C : List (Vec d)) → Contains t (lists d C) → (i : ℕ) (f : Fan d t n C i) → Cell set (f.x ∷ C) (dependency d f.x C f.c f.b) → (l : ℕ) → l < suc (suc d) → Listing (IsExchanged d t n (negsuc 0)) (Made d t n C i l)
unfolding AtPlace dependency
at_place d two t q w n set k wall C mem i f cell l ll = by_lt_z (s v) (pos 0) low high
  where
    cls : IsClass d (lists d C)
    cls = ((k.members (lists d C)).0 mem).0

    a : AtPlace d (f.x ∷ C) l
    a = number_at_place d (f.x ∷ C) f.dist l (omega (arith, ll, cls.simplex.count))

    v : Vec d
    v = a.0

    s : Vec d → ℤ
    s = dependency d f.x C f.c f.b

    s_x : s f.x ≡ f.c
    s_x = fn-head d f.x C f.c (scale (negsuc 0) f.b)

    low : s v <ℤ pos 0 → Listing (IsExchanged d t n (negsuc 0)) (Made d t n C i l)
    low h = record {
      all = lists d nc.base ∷ [];
      sound = λ r m. subst (IsExchanged d t n (negsuc 0)) (only_member (lists d nc.base) r m) (to_exchanged d two t q w n set k wall.regulator (negsuc 0) (a.1) (new_to d two t q w n set (a.1) nw) nc.base nc.by nc.is nc.alike);
      complete = λ r m. subst (Contains (lists d nc.base ∷ [])) (same r m) (Contains-head (lists d nc.base) []);
    }
      where
        nw : New set (a.1)
        nw = record { V = f.x ∷ C; s = s; u = v; cell = cell; below = h; rest = a.2 }

        nc : HasClass d (a.1)
        nc = new_class d two t q w n set k (a.1) nw

        same : (r : List (List ℤ)) → Made d t n C i l r → lists d nc.base ≡ r
        same r m = ap (lists d) (one_class d nc.base (R.0) nc.by (y.0) nc.is clsR (alike-trans (alike-sym nc.alike) al)) ∙ R.1
          where
            cl : IsClass d r
            cl = m.class_of.«class»

            R : (R : List (Vec d)) × (lists d R ≡ r)
            R = of_lists d r cl.simplex.points

            clsR : IsClass d (lists d (R.0))
            clsR = subst (IsClass d) (sym (R.1)) cl

            y : (y : Vec d) × (list d y ≡ m.class_of.shift)
            y = of_list d m.class_of.shift m.class_of.dimension

            M : List (Vec d)
            M = moved (shift d (y.0)) (R.0)

            is_M : lists d M ≡ translate m.class_of.shift r
            is_M = lists-moved d (y.0) (R.0) ∙ ap₂ (λ p u. translate p u) (y.1) (R.1)

            is_rest : lists d (a.1) ≡ without l (m.vertex ∷ lists d C)
            is_rest = a.3 ∙ ap (λ u. without l (u ∷ lists d C)) (f.only m.vertex m.c m.b m.pair m.facet)

            al : Alike (a.1) M
            al = alike_members d (a.1) M (distinct-tail (distinct-alike f.dist (a.2))) (distinct-moved d (y.0) (R.0) (ascending-distinct d (R.0) clsR.ascending))
                (λ z h. to_in d M z (subst (λ u. Contains u (list d z)) (sym is_M) ((m.class_of.same (list d z)).0 (subst (λ u. Contains u (list d z)) is_rest (from_in d (a.1) z h)))))
                (λ z h. to_in d (a.1) z (subst (λ u. Contains u (list d z)) (sym is_rest) ((m.class_of.same (list d z)).1 (subst (λ u. Contains u (list d z)) is_M (from_in d M z h)))))

    high : pos 0 ≤ℤ s v → Listing (IsExchanged d t n (negsuc 0)) (Made d t n C i l)
    high h = nothing (IsExchanged d t n (negsuc 0)) (Made d t n C i l) clash
      where
        clash : (r : List (List ℤ)) → Made d t n C i l r → ⊥
        clash r m = omega (arith, ints, mul_nonneg_z (z f.x) (s v) (omega (arith, ints, z_x)) h, mul_neg_pos (z v) (s f.x) z_v (omega (arith, ints, s_x, f.expression.positive)), parallel set other s (flat d f.x C f.c f.b f.dist f.expression) f.x v (in-head (vec-dec d) f.x C) (in-alike (in-head (vec-dec d) v (a.1)) (alike-sym (a.2))), swap)
          where
            z : Vec d → ℤ
            z = fn d (f.x ∷ C) (m.c ∷ scale (negsuc 0) m.b)

            other : Cell set (f.x ∷ C) z
            other = made_cell d two t q w n set k wall.zero_there C i l r f m

            z_x : pos 0 <ℤ z f.x
            z_x = subst (λ u. pos 0 <ℤ u) (sym (fn-head d f.x C m.c (scale (negsuc 0) m.b))) m.pair.expression.positive

            number : z v ≡ number_at l (m.c ∷ scale (negsuc 0) m.b)
            number = a.4 (m.c ∷ scale (negsuc 0) m.b) (ap suc (length-scale (negsuc 0) m.b ∙ m.pair.expression.one_each))

            z_v : z v <ℤ pos 0
            z_v = omega (arith, ints, number, m.side)

            swap : z v *ℤ s f.x ≡ s f.x *ℤ z v
            swap = ring ((z v) ∷ (s f.x) ∷ []) (var 0 ⊗ var 1) (var 1 ⊗ var 0) tt

at_facet : (d : ℕ) (two : 2 ≤ d) (t : List (List (List ℤ))) (q w : Form d) (n : List ℤ) (set : Walls d two t q w n) → IsDelaunay d q.numbers t → IsWallForm d t n w.numbers → (C : List (Vec d)) → Contains t (lists d C) → (i : ℕ) → i < suc d → Listing (IsExchanged d t n (negsuc 0)) (λ s. (l : ℕ) × (l < suc (suc d)) × Made d t n C i l s)
unfolding dependency
at_facet d two t q w n set k wall C mem i li = go (ℤ_discrete (qs (at d w) s (f.x ∷ C)) (pos 0))
  where
    f : Fan d t n C i
    f = fan d two q t n k C mem i li

    s : Vec d → ℤ
    s = dependency d f.x C f.c f.b

    fl : (j : ℕ) → qs (coordinate d j) s (f.x ∷ C) ≡ pos 0
    fl = flat d f.x C f.c f.b f.dist f.expression

    out : In (vec-dec d) f.x C → ⊥
    out = distinct-out f.dist

    go : Dec (qs (at d w) s (f.x ∷ C) ≡ pos 0) → Listing (IsExchanged d t n (negsuc 0)) (λ s. (l : ℕ) × (l < suc (suc d)) × Made d t n C i l s)
    go (yes e) = below (IsExchanged d t n (negsuc 0)) (Made d t n C i) (suc (suc d)) (λ l ll. at_place d two t q w n set k wall C mem i f (cell-of set C (base_placed d two t C mem) f.x out s (subst (λ z. pos 0 <ℤ z) (sym (fn-head d f.x C f.c (scale (negsuc 0) f.b))) f.expression.positive) fl e) l ll)
    go (no ne) = nothing (IsExchanged d t n (negsuc 0)) (λ s. (l : ℕ) × (l < suc (suc d)) × Made d t n C i l s) (λ r y. ne (dep-wall set (made_cell d two t q w n set k wall.zero_there C i (y.0) r f (y.2)) s fl))

-- the classes that the flip makes
exchanged : (d : ℕ) (two : 2 ≤ d) (t : List (List (List ℤ))) (q w : Form d) (n : List ℤ) (set : Walls d two t q w n) → IsDelaunay d q.numbers t → IsWallForm d t n w.numbers → Listing (IsExchanged d t n (negsuc 0)) (IsExchanged d t n (negsuc 0))
exchanged d two t q w n set k wall = less (gather (IsExchanged d t n (negsuc 0)) (λ s0 s. (ex : IsExchanged d t n (negsuc 0) s) × (ex.base ≡ s0)) t from_class) (λ s ex. (ex.base, ex.pair.member, (ex, refl)))
  where
    from_class : (s0 : List (List ℤ)) → Contains t s0 → Listing (IsExchanged d t n (negsuc 0)) (λ s. (ex : IsExchanged d t n (negsuc 0) s) × (ex.base ≡ s0))
    from_class s0 mem = less (below (IsExchanged d t n (negsuc 0)) (λ i s. (l : ℕ) × (l < suc (suc d)) × Made d t n C i l s) (suc d) (λ i li. at_facet d two t q w n set k wall C (subst (Contains t) (sym (cp.1)) mem) i li)) split
      where
        cp : (C : List (Vec d)) × (lists d C ≡ s0)
        cp = class_points d q t k s0 mem

        C : List (Vec d)
        C = cp.0

        split : (s : List (List ℤ)) → (ex : IsExchanged d t n (negsuc 0) s) × (ex.base ≡ s0) → (i : ℕ) × (i < suc d) × ((l : ℕ) × (l < suc (suc d)) × Made d t n C i l s)
        split s (ex, e) = (pair.facet, pair.place, (ex.place, ex.within, record { vertex = ex.vertex; c = ex.c; b = ex.b; pair = pair; facet = refl; side = ex.side; class_of = subst (λ r. IsClassOf d (without ex.place (ex.vertex ∷ r)) s) is ex.class_of }))
          where
            is : ex.base ≡ lists d C
            is = e ∙ sym (cp.1)

            pair : IsPair d t n (lists d C) ex.vertex ex.c ex.b
            pair = subst (λ r. IsPair d t n r ex.vertex ex.c ex.b) is ex.pair

-- whether a member is taken out
taken_out : (d : ℕ) (two : 2 ≤ d) (t : List (List (List ℤ))) (q w : Form d) (n : List ℤ) (set : Walls d two t q w n) → IsDelaunay d q.numbers t → IsWallForm d t n w.numbers → (s : List (List ℤ)) → Contains t s → IsExchanged d t n (pos 1) s ⊎ (IsExchanged d t n (pos 1) s → ⊥)
taken_out d two t q w n set k wall s mem = subst (λ r. IsExchanged d t n (pos 1) r ⊎ (IsExchanged d t n (pos 1) r → ⊥)) (cp.1) (elim (kept-or-out set C (base_placed d two t C memC)) [ inl h ↦ inr (kept h) | inr o ↦ inl (gone o) ])
  where
    cp : (C : List (Vec d)) × (lists d C ≡ s)
    cp = class_points d q t k s mem

    C : List (Vec d)
    C = cp.0

    memC : Contains t (lists d C)
    memC = subst (Contains t) (sym (cp.1)) mem

    cls : IsClass d (lists d C)
    cls = ((k.members (lists d C)).0 memC).0

    kept : Kept set C → IsExchanged d t n (pos 1) (lists d C) → ⊥
    kept h ex = let r = from_exchanged d two t q w n set k wall.zero_there (pos 1) C ex in
        h.none (subst (Out set) (moved_back d (r.0) C) (out_moved d two t q w n set (opposite d (r.0)) (moved (shift d (r.0)) C) (out_of d two t q w n set (moved (shift d (r.0)) C) (r.1))))

    gone : Out set C → IsExchanged d t n (pos 1) (lists d C)
    gone o = let y = (of_list d (list d o.i) (length-list d o.i)).0 in
        to_exchanged d two t q w n set k wall.regulator (pos 1) (moved (shift d y) C) (out_to d two t q w n set (moved (shift d y) C) (out_moved d two t q w n set y C o)) C y cls (alike-refl (moved (shift d y) C))

-- the members of a flip
IsMember : (d : ℕ) (t : List (List (List ℤ))) (n : List ℤ) → List (List ℤ) → Type 0
IsMember d t n s = (Contains t s × (IsExchanged d t n (pos 1) s → ⊥)) ⊎ IsExchanged d t n (negsuc 0) s

-- a flip exists
has_flip : (d : ℕ) (two : 2 ≤ d) (t : List (List (List ℤ))) (q w : Form d) (n : List ℤ) (set : Walls d two t q w n) → IsDelaunay d q.numbers t → IsWallForm d t n w.numbers → (t' : List (List (List ℤ))) × IsFlipOf d t n t'
unfolding IsMember
has_flip d two t q w n set k wall = (h.list, record { ascending = h.ascending; members = λ s. (λ c. whole.sound s ((h.members s).0 c), λ y. (h.members s).1 (whole.complete s y)) })
  where
    kept_of : (s0 : List (List ℤ)) → Contains t s0 → Listing (IsMember d t n) (λ s. (s ≡ s0) × (IsExchanged d t n (pos 1) s → ⊥))
    kept_of s0 mem = elim (taken_out d two t q w n set k wall s0 mem) [
      | inl ex ↦ nothing (IsMember d t n) (λ s. (s ≡ s0) × (IsExchanged d t n (pos 1) s → ⊥)) (λ s y. y.1 (subst (IsExchanged d t n (pos 1)) (sym (y.0)) ex))
      | inr no_ex ↦ record { all = s0 ∷ []; sound = λ s c. subst (IsMember d t n) (only_member s0 s c) (inl (mem, no_ex)); complete = λ s y. subst (Contains (s0 ∷ [])) (sym (y.0)) (Contains-head s0 []) }
    ]

    kept : Listing (IsMember d t n) (λ s. Contains t s × (IsExchanged d t n (pos 1) s → ⊥))
    kept = less (gather (IsMember d t n) (λ s0 s. (s ≡ s0) × (IsExchanged d t n (pos 1) s → ⊥)) t kept_of) (λ s y. (s, y.0, (refl, y.1)))

    made : Listing (IsMember d t n) (IsExchanged d t n (negsuc 0))
    made = let e = exchanged d two t q w n set k wall in record { all = e.all; sound = λ s c. inr (e.sound s c); complete = e.complete }

    whole : Listing (IsMember d t n) (IsMember d t n)
    whole = both kept made

    h : HasSorted simplex_cmp simplex_cmp_total simplex_cmp_exact whole.all
    h = sorted simplex_cmp simplex_cmp_total simplex_cmp_exact whole.all

pub flips_exist : (d : ℕ) (a n : List ℤ) (t : List (List (List ℤ))) → 2 ≤ d → IsDelaunay d a t → IsFacet d t n → (t' : List (List (List ℤ))) × IsFlipOf d t n t'
flips_exist d a n t two k facet = has_flip d two t q w n (setting_of d two t q w n k (facet.1)) k (facet.1)
  where
    q : Form d
    q = record { numbers = a; is = k.positive.numbers }

    w : Form d
    w = record { numbers = facet.0; is = (facet.1).numbers }

-- the converse: what lies across is the flip
pub across_is_flip : (d : ℕ) (n : List ℤ) (t t' : List (List (List ℤ))) → 2 ≤ d → IsAcross d t n t' → IsFlipOf d t n t'
across_is_flip d n t t' two h = subst (IsFlipOf d t n) same (f.1)
  where
    f : (r : List (List (List ℤ))) × IsFlipOf d t n r
    f = flips_exist d h.form n t two h.delaunay (h.wall, h.wall_form)

    b : (bound : ℕ) × ((m : ℕ) → bound ≤ m → IsDelaunay d (minus (scale (pos m) h.wall) h.form) (f.0))
    b = flips_are_delaunay d h.form h.wall n t (f.0) two h.delaunay h.wall_form (f.1)

    same : f.0 ≡ t'
    same = one_triangulation d (minus (scale (pos (b.0 + h.bound)) h.wall) h.form) (f.0) t' (b.1 (b.0 + h.bound) (omega arith)) (h.beyond (b.0 + h.bound) (omega arith))

pub has_across : (d : ℕ) (a n : List ℤ) (t : List (List (List ℤ))) → 2 ≤ d → IsDelaunay d a t → IsFacet d t n → (t' : List (List (List ℤ))) × IsAcross d t n t'
has_across d a n t two k facet = let f = flips_exist d a n t two k facet in (f.0, flips_are_across d a n t (f.0) two k facet (f.1))

-- the members of a flip are stated, so there is one
pub same_flip : (d : ℕ) (n : List ℤ) (t t' t'' : List (List (List ℤ))) → IsFlipOf d t n t' → IsFlipOf d t n t'' → t' ≡ t''
same_flip d n t t' t'' f g = same_members simplex_cmp simplex_cmp_total t' t'' f.ascending g.ascending (λ s. (λ m. (g.members s).1 ((f.members s).0 m), λ m. (f.members s).1 ((g.members s).0 m)))

pub same_across : (d : ℕ) (n : List ℤ) (t t' t'' : List (List (List ℤ))) → 2 ≤ d → IsAcross d t n t' → IsAcross d t n t'' → t' ≡ t''
same_across d n t t' t'' two x y = same_flip d n t t' t'' (across_is_flip d n t t' two x) (across_is_flip d n t t'' two y)
