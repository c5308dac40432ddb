-- The simplices that a flip takes out are the members with the regulator at a facet; those that it puts in are made from them.
use Rattle.std.proofs.Common.{◌≡◌, ◌∙◌, sym, ap, subst, arith, List, [], ◌∷◌, ℕ, zero, suc, ◌<◌, ◌≤◌, ◌↔◌, ℤ, pos, negsuc, neg_ℤ, ◌*ℤ◌, ◌<ℤ◌}
use Rattle.std.proofs.lemmas.Int.{ints}
use Rattle.std.specs.List.{Contains}
use Rattle.lt_model.proofs.Ring.{ring, var, num, ◌⊗◌}
use Rattle.lt_model.proofs.Inequalities.{mul_pos_z}
use Rattle.lt_model.proofs.Excess.{scale-dot}
use Rattle.lt_model.proofs.Expressions.{one_expression}
use Rattle.lt_model.proofs.Walk.{number_at-scale}
use Rattle.lt_walls.proofs.Lists.{Alike, alike-cancel, alike-qs, qs-cons, distinct-alike, distinct-out}
use Rattle.lt_walls.proofs.Cells.{Cell, outer-cell, cell-at, cell-member, cell-distinct, cell-wall}
use Rattle.lt_walls.proofs.Margins.{moved}
use Rattle.lt_model.specs.Vectors.{dot, scale}
use Rattle.lt_model.specs.Simplices.{IsClass, IsClassOf, IsExpression, excess}
use Rattle.lt_model.specs.Facets.{without, number_at, IsNeighbour}
use Rattle.lt_model.specs.Triangulations.{IsDelaunay}
use Rattle.lt_model.specs.Walls.{IsPair, IsFacet, IsWallForm, excess_normal}
use Rattle.lt_model.specs.Flips.{IsExchanged}
use Rattle.lt_model.proofs.Points.{weighted}
use Rattle.lt_geometry.specs.Regulators.{outer_vertex, IsRegulatorAt}
use Rattle.lt_geometry.specs.Exchanges.{IsMadeFrom}
use Rattle.lt_geometry.proofs.WalkEnds.{not_vertex}
use Rattle.lt_geometry.proofs.Classes as classes
use Rattle.lt_geometry.proofs.Normals.{normal_value}
use Rattle.lt_geometry.proofs.PrimitiveParts.{primitive_part}
use Rattle.lt_geometry.proofs.Regulators.{length_outer, lies_above, one_regulator, to_pair, from_pair, from_multiple}
use Rattle.lt_geometry.proofs.Points.{Vec, list, coordinate, Form, at}
use Rattle.lt_geometry.proofs.Members.{lists, of_lists, row, shift, opposite, Placed}
use Rattle.lt_geometry.proofs.HasClasses.{one_class}
use Rattle.lt_geometry.proofs.LocalToGlobal.{setting_of, one_on_ellipsoid}
use Rattle.lt_geometry.proofs.Exchanged.{Walls, Side, CellPair, pair_of, from_exchanged}

-- ---- those that go

-- a member with the regulator at a facet is exchanged: its cell leaves out the outer vertex
pub taken_out : (d : ℕ) (a n : List ℤ) (t : List (List (List ℤ))) (s : List (List ℤ)) (i : ℕ) → IsDelaunay d a t → Contains t s → i < suc d → IsRegulatorAt d t s i n → IsExchanged d t n (pos 1) s
taken_out d a n t s i k ms hi r = record {
  base = s;
  vertex = outer_vertex r.next r.shift r.outer;
  c = r.c;
  b = r.b;
  pair = to_pair d t s i n ms hi r;
  place = 0;
  within = omega arith;
  side = omega (arith, ints, r.expression.positive);
  class_of = classes.own_class d s ((k.members s).0 ms).0;
}

-- a side of a cell with a positive number is a member, with the regulator at a facet
side_member : (d : ℕ) (two : 2 ≤ d) (t : List (List (List ℤ))) (q w : Form d) (n : List ℤ) (k : IsDelaunay d q.numbers t) (wall : IsWallForm d t n w.numbers) (C : List (Vec d)) (y : Vec d) → IsClass d (lists d C) →
    Side d two t q w n (setting_of d two t q w n k wall) (pos 1) (moved (shift d y) C) → Contains t (lists d C) × ((i : ℕ) × (i < suc d) × IsRegulatorAt d t (lists d C) i n)
side_member d two t q w n k wall C y cls sd = (subst (λ l. Contains t (lists d l)) (sym same) pair.member, (pair.facet, pair.place, subst (λ l. IsRegulatorAt d t (lists d l) pair.facet n) (sym same) (from_pair d t n (lists d cp.base) (list d (shift d (opposite d cp.by) around.0.w)) (sd.s around.0.w) (row d (λ u. neg_ℤ (sd.s (shift d cp.by u))) cp.base) pair)))
  where
    set : Walls d two t q w n
    set = setting_of d two t q w n k wall

    S : List (Vec d)
    S = moved (shift d y) C

    above : pos 0 <ℤ sd.s sd.i
    above = omega (arith, ints, sd.side)

    mem : Placed d t S
    mem = cell-member set sd.cell sd.i S sd.rest above

    around : (cell : Cell set (sd.i ∷ S) sd.s) × (cell.w ≡ sd.i)
    around = outer-cell set S mem sd.i (distinct-out (distinct-alike (cell-distinct set sd.cell) sd.rest)) sd.s above (λ j. qs-cons (coordinate d j) sd.s sd.i S ∙ cell-at set sd.cell sd.i S sd.rest j)
        (qs-cons (at d w) sd.s sd.i S ∙ sym (alike-qs (at d w) sd.s sd.i sd.rest) ∙ cell-wall set sd.cell)

    cp : CellPair d t n (sd.i ∷ S) sd.s around.0.w
    cp = pair_of d two t q w n set k wall.regulator (sd.i ∷ S) sd.s around.0

    pair : IsPair d t n (lists d cp.base) (list d (shift d (opposite d cp.by) around.0.w)) (sd.s around.0.w) (row d (λ u. neg_ℤ (sd.s (shift d cp.by u))) cp.base)
    pair = cp.pair

    same : C ≡ cp.base
    same = one_class d C cp.base y cp.by cls cp.is (alike-cancel sd.i (subst (λ z. Alike (sd.i ∷ S) (z ∷ moved (shift d cp.by) cp.base)) around.1 cp.alike))

pub exchanged_members : (d : ℕ) (a n : List ℤ) (t : List (List (List ℤ))) (s : List (List ℤ)) → 2 ≤ d → IsDelaunay d a t → IsFacet d t n →
    IsExchanged d t n (pos 1) s ↔ (Contains t s × ((i : ℕ) × (i < suc d) × IsRegulatorAt d t s i n))
exchanged_members d a n t s two k facet = (to, λ (ms, (i, hi, r)). taken_out d a n t s i k ms hi r)
  where
    q : Form d
    q = record { numbers = a; is = k.positive.numbers }

    w : Form d
    w = record { numbers = facet.0; is = facet.1.numbers }

    to : IsExchanged d t n (pos 1) s → Contains t s × ((i : ℕ) × (i < suc d) × IsRegulatorAt d t s i n)
    to ex =
        let cls = ex.class_of.«class» in
        let (C, is) = of_lists d s cls.simplex.points in
        let (y, sd) = from_exchanged d two t q w n (setting_of d two t q w n k facet.1) k facet.1.zero_there (pos 1) C (subst (IsExchanged d t n (pos 1)) (sym is) ex) in
        subst (λ l. Contains t l × ((i : ℕ) × (i < suc d) × IsRegulatorAt d t l i n)) is (side_member d two t q w n k facet.1 C y (subst (IsClass d) (sym is) cls) sd)

-- ---- one outer vertex

-- each expression of the outer vertex makes a pair with the regulator
pub any_pair : (d : ℕ) (a : List ℤ) (t : List (List (List ℤ))) (s : List (List ℤ)) (i : ℕ) (n : List ℤ) (next : List (List ℤ)) (p : List ℤ) (j : ℕ) (c : ℤ) (b : List ℤ) → IsDelaunay d a t → Contains t s → i < suc d → IsRegulatorAt d t s i n →
    IsNeighbour d t s i next p j → IsExpression s (outer_vertex next p j) c b → IsPair d t n s (outer_vertex next p j) c b
any_pair d a t s i n next p j c b k ms hi r nb x =
    let part = primitive_part (excess_normal s (outer_vertex next p j) c b) a (lies_above d a t s i next p j c b k ms hi nb x) in
    let other : IsRegulatorAt d t s i part.n = record { next = next; shift = p; outer = j; neighbour = nb; c = c; b = b; expression = x; primitive = part.primitive; factor = part.k; some = part.k_pos; multiple = part.is } in
    subst (λ m. IsPair d t m s (outer_vertex next p j) c b) (one_regulator d a t s i part.n n k ms hi other r) (to_pair d t s i part.n ms hi other)

-- the excess of the outer vertex at the wall form
wall_excess : (d : ℕ) (t : List (List (List ℤ))) (n w : List ℤ) (s : List (List ℤ)) (v : List ℤ) (c : ℤ) (b : List ℤ) → dot n w ≡ pos 0 → IsPair d t n s v c b → excess w s v c b ≡ pos 0
wall_excess d t n w s v c b wall pair = sym (normal_value w s v c b) ∙ ap (λ y. dot y w) pair.multiple ∙ scale-dot (pos pair.factor) n w ∙ ap (λ y. pos pair.factor *ℤ y) wall ∙ ring ((pos pair.factor) ∷ []) (var 0 ⊗ num (pos 0)) (num (pos 0)) tt

pub one_outer : (d : ℕ) (a n : List ℤ) (t : List (List (List ℤ))) (s : List (List ℤ)) (i i' : ℕ) (next next' : List (List ℤ)) (p p' : List ℤ) (j j' : ℕ) → 2 ≤ d → IsDelaunay d a t → IsFacet d t n → Contains t s → i < suc d → i' < suc d →
    IsRegulatorAt d t s i n → IsRegulatorAt d t s i' n → IsNeighbour d t s i next p j → IsNeighbour d t s i' next' p' j' → outer_vertex next p j ≡ outer_vertex next' p' j'
one_outer d a n t s i i' next next' p p' j j' two k facet ms hi hi' r r' nb nb' =
    let f = nb.beyond in
    let f' = nb'.beyond in
    one_on_ellipsoid d a facet.0 n t s two k facet.1 ms (outer_vertex next p j) (outer_vertex next' p' j') (length_outer d a t k s i next p j nb) (length_outer d a t k s i' next' p' j' nb')
    (outside i next p j nb) (outside i' next' p' j' nb') f.scale f'.scale f.coefficients f'.coefficients f.expression f'.expression
    (wall_excess d t n facet.0 s (outer_vertex next p j) f.scale f.coefficients facet.1.zero_there (any_pair d a t s i n next p j f.scale f.coefficients k ms hi r nb f.expression))
    (wall_excess d t n facet.0 s (outer_vertex next' p' j') f'.scale f'.coefficients facet.1.zero_there (any_pair d a t s i' n next' p' j' f'.scale f'.coefficients k ms hi' r' nb' f'.expression))
  where
    outside : (i : ℕ) (next : List (List ℤ)) (p : List ℤ) (j : ℕ) → IsNeighbour d t s i next p j → Contains s (outer_vertex next p j) → ⊥
    outside i next p j nb h = not_vertex d s (outer_vertex next p j) nb.beyond.coefficients nb.beyond.scale i ((k.members s).0 ms).0.simplex (length_outer d a t k s i next p j nb) h nb.beyond.expression nb.beyond.negative

-- ---- those that come

pub made : (d : ℕ) (a n : List ℤ) (t : List (List (List ℤ))) (s : List (List ℤ)) (i : ℕ) (next : List (List ℤ)) (p : List ℤ) (j : ℕ) (c : ℤ) (b : List ℤ) (k : ℕ) (s' : List (List ℤ)) → IsDelaunay d a t → Contains t s → i < suc d →
    IsRegulatorAt d t s i n → IsNeighbour d t s i next p j → IsExpression s (outer_vertex next p j) c b → IsMadeFrom d s (outer_vertex next p j) b k s' → IsExchanged d t n (negsuc 0) s'
made d a n t s i next p j c b k s' de ms hi r nb x m = record {
  base = s;
  vertex = outer_vertex next p j;
  c = c;
  b = b;
  pair = any_pair d a t s i n next p j c b de ms hi r nb x;
  place = suc k;
  within = let h = m.place in omega (arith, h);
  side = subst (λ z. pos 0 <ℤ (negsuc 0 *ℤ z)) (sym (number_at-scale k (negsuc 0) b)) (omega (arith, ints, m.positive));
  class_of = m.class_of;
}

-- the numbers of two expressions have the same signs
same_sign : (d : ℕ) (vs : List (List ℤ)) (x : List ℤ) (c c' : ℤ) (b b' : List ℤ) (k : ℕ) → IsClass d vs → IsExpression vs x c b → IsExpression vs x c' b' → pos 0 <ℤ number_at k b → pos 0 <ℤ number_at k b'
same_sign d vs x c c' b b' k cls e e' h =
    let same : scale c' b ≡ scale c b' = one_expression d vs (pos 1) x b b' c c' cls.simplex (weighted vs x c b e) (weighted vs x c' b' e') in
    let at : c' *ℤ number_at k b ≡ c *ℤ number_at k b' = sym (number_at-scale k c' b) ∙ ap (number_at k) same ∙ number_at-scale k c b' in
    from_multiple c (number_at k b') e.positive (subst (λ z. pos 0 <ℤ z) at (mul_pos_z c' (number_at k b) e'.positive h))

pub all_made : (d : ℕ) (a n : List ℤ) (t : List (List (List ℤ))) (s' : List (List ℤ)) → 2 ≤ d → IsDelaunay d a t → IsFacet d t n → IsExchanged d t n (negsuc 0) s' →
    (s : List (List ℤ)) × Contains t s × ((i : ℕ) × (i < suc d) × IsRegulatorAt d t s i n)
    × ((i : ℕ) (next : List (List ℤ)) (p : List ℤ) (j : ℕ) (c : ℤ) (b : List ℤ) → i < suc d → IsRegulatorAt d t s i n → IsNeighbour d t s i next p j → IsExpression s (outer_vertex next p j) c b →
    (k : ℕ) × IsMadeFrom d s (outer_vertex next p j) b k s')
all_made d a n t s' two k facet ex = (ex.base, pair.member, (pair.facet, pair.place, own), by ex.place ex.within ex.side ex.class_of)
  where
    pair : IsPair d t n ex.base ex.vertex ex.c ex.b
    pair = ex.pair

    own : IsRegulatorAt d t ex.base pair.facet n
    own = from_pair d t n ex.base ex.vertex ex.c ex.b pair

    cls : IsClass d ex.base
    cls = ((k.members ex.base).0 pair.member).0

    by : (l : ℕ) → l < suc (suc d) → pos 0 <ℤ (negsuc 0 *ℤ number_at l (ex.c ∷ scale (negsuc 0) ex.b)) → IsClassOf d (without l (ex.vertex ∷ ex.base)) s' →
        (i : ℕ) (next : List (List ℤ)) (p : List ℤ) (j : ℕ) (c : ℤ) (b : List ℤ) → i < suc d → IsRegulatorAt d t ex.base i n → IsNeighbour d t ex.base i next p j → IsExpression ex.base (outer_vertex next p j) c b →
        (m : ℕ) × IsMadeFrom d ex.base (outer_vertex next p j) b m s'
    by zero hl side of i next p j c b hi r nb x = absurd (omega (arith, ints, side, pair.expression.positive))
    by (suc l) hl side of i next p j c b hi r nb x =
        let w : ex.vertex ≡ outer_vertex next p j = pair.vertex ∙ one_outer d a n t ex.base pair.facet i pair.next next pair.shift p pair.outer j two k facet pair.member pair.place hi own r pair.neighbour nb in
        let given : pos 0 <ℤ number_at l ex.b = let e = number_at-scale l (negsuc 0) ex.b in omega (arith, ints, side, e) in (
          l,
          record {
            place = omega (arith, hl);
            positive = same_sign d ex.base (outer_vertex next p j) ex.c c ex.b b l cls (subst (λ v. IsExpression ex.base v ex.c ex.b) w pair.expression) x given;
            class_of = subst (λ v. IsClassOf d (without (suc l) (v ∷ ex.base)) s') w of;
          },
        )
