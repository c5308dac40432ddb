-- The regulators of the principal triangulation, and that each is a facet.
use Rattle.std.proofs.Common.{◌≡◌, ◌≢◌, ℕ, zero, suc, ℤ, pos, negsuc, ◌+ℤ◌, ◌-ℤ◌, ◌*ℤ◌, ◌<ℤ◌, ◌<◌, ◌≤◌, refl, ap, ap₂, arith, sym, ◌∙◌, subst, List, [], ◌∷◌, length, map, get_or, ◌⊎◌, ◌↔◌, inl, inr}
use Rattle.std.proofs.lemmas.Int.{ints}
use Rattle.std.specs.List.{Contains}
use Rattle.lt_model.proofs.Integers.{mul_zero_z, zero_mul_z}
use Rattle.lt_model.proofs.Ring.{ring, var, num, ◌⊖◌, ◌⊗◌}
use Rattle.lt_model.proofs.Squares.{length-scale, length-plus}
use Rattle.lt_model.proofs.Vectors.{dot-scale, dot_comm}
use Rattle.lt_model.proofs.Excess.{same_from_dots, scale-dot}
use Rattle.lt_model.proofs.Walk.{length-map, number_at-map, length-without, number_at-plus, number_at-scale}
use Rattle.lt_model.proofs.Opposite.{length-unit}
use Rattle.lt_model.proofs.Expressions.{one_expression, total-plus, total-scale}
use Rattle.lt_model.proofs.Sets.{Contains-head, Contains-tail}
use Rattle.lt_model.specs.Vectors.{plus, scale, dot, total, unit, IsPrimitive}
use Rattle.lt_model.specs.Forms.{value, numbers_of_form}
use Rattle.lt_model.specs.Simplices.{IsSimplex, IsExpression, excess}
use Rattle.lt_model.specs.Facets.{number_at, without, IsNeighbour}
use Rattle.lt_model.specs.Walls.{excess_normal, IsPair, IsRegulator, IsFacet}
use Rattle.lt_geometry.specs.Paving.{IsPaving}
use Rattle.lt_model.specs.Principal.{IsOrder, IsPrincipal, principal_class, principal_rows}
use Rattle.lt_model.proofs.Flat.{number_at-unit_same}
use Rattle.lt_model.proofs.Points.{weighted, total-unit}
use Rattle.lt_model.proofs.Inequalities.{natural}
use Rattle.lt_geometry.specs.Principal.{pair_normal, own_normal, IsPrincipalNormal}
use Rattle.lt_geometry.proofs.Places.{IsAt, find, place_below, either_there}
use Rattle.lt_geometry.proofs.Paths.{unit_other, same_or_not}
use Rattle.lt_geometry.proofs.Closed.{three, three-dot, IsThird, third_expression, length-rows}
use Rattle.lt_geometry.proofs.Neighbours.{HasNeighbour, has_neighbour, first, middle, down_from, down_order, principal_paving}
use Rattle.lt_geometry.proofs.Unique.{one_neighbour}
use Rattle.lt_geometry.proofs.Primitive.{same_primitive, primitive_from_one}
pub use Rattle.lt_geometry.proofs.Normals.{normal_dot, length-normal}
use Rattle.lt_geometry.proofs.Products.{product_form, length-product, less_square, pair_at_less, own_at_less, pair_at, length-pair, length-own, pair_one, own_one}

-- ---- the stated normals

pub length-stated : (d : ℕ) (n : List ℤ) → IsPrincipalNormal d n → length n ≡ numbers_of_form d
length-stated d n (inl h) = ap length h.4 ∙ length-pair d h.0 h.1
length-stated d n (inr h) = ap length h.2 ∙ length-own d h.0

pub stated_primitive : (d : ℕ) (n : List ℤ) → 2 ≤ d → IsPrincipalNormal d n → IsPrimitive n
stated_primitive d n h (inl (i, j, lt, hj, e)) =
    subst (λ (m : List ℤ). IsPrimitive m) (sym e) (primitive_from_one (pair_normal d i j) (product_form (unit d i) (unit d j)) (inr (pair_one d i j (omega arith) hj (λ z. absurd (omega arith)))))
stated_primitive d n h (inr (zero, hi, e)) =
    subst (λ (m : List ℤ). IsPrimitive m) (sym e) (primitive_from_one (own_normal d 0) (product_form (unit d 0) (unit d 1)) (inl (own_one d 0 1 hi (omega arith) (λ z. absurd (omega arith)))))
stated_primitive d n h (inr (suc i, hi, e)) =
    subst (λ (m : List ℤ). IsPrimitive m) (sym e) (primitive_from_one (own_normal d (suc i)) (product_form (unit d (suc i)) (unit d 0)) (inl (own_one d (suc i) 0 hi (omega arith) (λ z. absurd (omega arith)))))

-- ---- a regulator is one of the normals

third_excess : (q : List ℤ) (vs : List (List ℤ)) (w : List ℤ) (i j k : ℕ) → IsThird vs w i j k → excess q vs w (pos 1) (three (length vs) i j k) ≡ value q w +ℤ value q (get_or vs i []) -ℤ value q (get_or vs j []) -ℤ value q (get_or vs k [])
third_excess q vs w i j k h =
    let e = three-dot (length vs) i j k (map (value q) vs) (length-map (value q) vs) in
    let ei = number_at-map (value q) i vs [] h.first in
    let ej = number_at-map (value q) j vs [] h.second in
    let ek = number_at-map (value q) k vs [] h.third in
    omega (arith, ints, e, ei, ej, ek)

-- the excess of the vertex beyond a facet at any expression
pub pair_excess : (d : ℕ) (t : List (List (List ℤ))) (q : List ℤ) (s : List (List ℤ)) (i : ℕ) (n : List ℤ) (c : ℤ) (b : List ℤ) → IsSimplex d s → (h : HasNeighbour d t s i n) → IsExpression s h.vertex c b → excess q s h.vertex c b ≡ c *ℤ dot q n
pair_excess d t q s i n c b simplex h e =
    let own = third_expression d s h.vertex i h.j h.k simplex.points h.dimension h.third in
    let f : List ℤ = three (length s) i h.j h.k in
    let same : scale (pos 1) b ≡ scale c f = one_expression d s (pos 1) h.vertex b f c (pos 1) simplex (weighted s h.vertex c b e) (weighted s h.vertex (pos 1) f own) in
    let g : pos 1 *ℤ dot b (map (value q) s) ≡ c *ℤ dot f (map (value q) s) = sym (scale-dot (pos 1) b (map (value q) s)) ∙ ap (λ (l : List ℤ). dot l (map (value q) s)) same ∙ scale-dot c f (map (value q) s) in
    let v : pos 1 *ℤ value q h.vertex -ℤ dot f (map (value q) s) ≡ dot q n = third_excess q s h.vertex i h.j h.k h.third ∙ h.values q in
    end c (value q h.vertex) (dot b (map (value q) s)) (dot f (map (value q) s)) (dot q n) g v
  where
    end : (c w b f n : ℤ) → pos 1 *ℤ b ≡ c *ℤ f → pos 1 *ℤ w -ℤ f ≡ n → c *ℤ w -ℤ b ≡ c *ℤ n
    end c w b f n g v =
        let own : c *ℤ (pos 1 *ℤ w -ℤ f) ≡ c *ℤ w -ℤ c *ℤ f = ring (c ∷ w ∷ f ∷ []) (var 0 ⊗ (num (pos 1) ⊗ var 1 ⊖ var 2)) (var 0 ⊗ var 1 ⊖ var 0 ⊗ var 2) tt in
        let k : c *ℤ (pos 1 *ℤ w -ℤ f) ≡ c *ℤ n = ap (λ x. c *ℤ x) v in
        omega (arith, ints, own, k, g)

pub regulator_stated : (d : ℕ) (t : List (List (List ℤ))) → 2 ≤ d → IsPrincipal d t → (n : List ℤ) → IsRegulator d t n → IsPrincipalNormal d n
regulator_stated d t h pr n (s, w, c, b, pair) =
    let o = (pr.members s).0 pair.member in
    let pav = principal_paving d t (omega arith) pr in
    let hn = has_neighbour d t o.0 pair.facet (omega arith) pr o.1 pair.place in
    go o.0 pair.facet hn.0 o.2 pav pair refl (subst (λ (l : List (List ℤ)). HasNeighbour d t l pair.facet hn.0) (sym o.2) hn.1)
  where
    go : (p : List ℕ) (i : ℕ) (m : List ℤ) → s ≡ principal_class d p → IsPaving d (principal_rows d d) t → (pair : IsPair d t n s w c b) → i ≡ pair.facet → HasNeighbour d t s i m → IsPrincipalNormal d n
    go p i m is pav pair same hn =
        let cl = pav.classes s pair.member in
        let nb : IsNeighbour d t s i pair.next pair.shift pair.outer = subst (λ (k : ℕ). IsNeighbour d t s k pair.next pair.shift pair.outer) (sym same) pair.neighbour in
        let place : i < suc d = subst (λ (k : ℕ). k < suc d) (sym same) pair.place in
        let one : w ≡ hn.vertex = pair.vertex ∙ one_neighbour d (principal_rows d d) t s i pair.next hn.next pair.shift hn.shift pair.outer hn.outer pav pair.member place nb hn.neighbour ∙ sym hn.is_vertex in
        let e : IsExpression s hn.vertex c b = subst (λ (v : List ℤ). IsExpression s v c b) one pair.expression in
        let f = natural c pair.expression.positive in
        let lw : length w ≡ d = ap length one ∙ hn.dimension in
        let ln : length n ≡ length m = sym (length-scale (pos pair.factor) n) ∙ ap length (sym pair.multiple) ∙ length-normal d s w c b cl.simplex.points (omega (arith, cl.simplex.count)) lw pair.expression.one_each ∙ sym (length-stated d m hn.stated) in
        let all : (u : List ℤ) → pos pair.factor *ℤ dot u n ≡ pos f.0 *ℤ dot u m = λ u.
        sym (dot-scale u (pos pair.factor) n) ∙ ap (dot u) (sym pair.multiple) ∙ normal_dot u s w c b ∙ ap (λ (v : List ℤ). excess u s v c b) one ∙ pair_excess d t u s i m c b cl.simplex hn e ∙ ap (λ x. x *ℤ dot u m) f.1
        in
        subst (λ (k : List ℤ). IsPrincipalNormal d k) (sym (same_primitive pair.factor f.0 n m pair.some f.2 ln pair.primitive (stated_primitive d m h hn.stated) all)) hn.stated

-- ---- each of them is a regulator

regulator_from : (d : ℕ) (t : List (List (List ℤ))) (p : List ℕ) (i : ℕ) (n : List ℤ) → 2 ≤ d → IsPrincipal d t → IsOrder d p → i < suc d → HasNeighbour d t (principal_class d p) i n → IsRegulator d t n
regulator_from d t p i n h pr o hi hn =
    let s = principal_class d p in
    let member = (pr.members s).1 (p, o, refl) in
    let cl = (principal_paving d t (omega arith) pr).classes s member in
    let b : List ℤ = three (length s) i hn.j hn.k in
    let e = third_expression d s hn.vertex i hn.j hn.k cl.simplex.points hn.dimension hn.third in (
      s,
      hn.vertex,
      pos 1,
      b,
      record {
        member = member;
        facet = i;
        place = hi;
        next = hn.next;
        shift = hn.shift;
        outer = hn.outer;
        neighbour = hn.neighbour;
        vertex = hn.is_vertex;
        expression = e;
        primitive = stated_primitive d n h hn.stated;
        factor = 1;
        some = omega arith;
        multiple = same_from_dots (excess_normal s hn.vertex (pos 1) b) (scale (pos 1) n) (length-normal d s hn.vertex (pos 1) b cl.simplex.points (omega (arith, cl.simplex.count)) hn.dimension e.one_each ∙ sym (length-stated d n hn.stated) ∙ sym (length-scale (pos 1) n))
            (λ u. normal_dot u s hn.vertex (pos 1) b ∙ pair_excess d t u s i n (pos 1) b cl.simplex hn e ∙ sym (dot-scale u (pos 1) n));
      },
    )

-- the number at place i moved to the front
to_front : (d i k : ℕ) (p : List ℕ) → IsAt p i k → IsOrder d p → IsOrder d (k ∷ without i p)
to_front d i k p at o = record {
  count = length-without i p (place_below p i k at) ∙ o.count;
  each = λ j l. elim (either_there p i k j at (o.each j l)) [
    | inl e ↦ subst (λ (x : ℕ). Contains (k ∷ without i p) x) e (Contains-head k (without i p))
    | inr r ↦ Contains-tail k (without i p) j r
  ];
}

starts_with : (d k : ℕ) → k < d → (p : List ℕ) × IsOrder d (k ∷ p)
starts_with d k h =
    let o = down_order d in
    let at = find (down_from d) k (o.each k h) in
    (without at.0 (down_from d), to_front d at.0 k (down_from d) at.1 o)

starts_with_two : (d i j : ℕ) → i < d → j < d → i ≢ j → (p : List ℕ) × IsOrder d (i ∷ j ∷ p)
starts_with_two d i j hi hj n =
    let r = starts_with d j hj in
    let at = find (j ∷ r.0) i (r.1.each i hi) in
    next r.0 at.0 at.1 r.1
  where
    next : (p : List ℕ) (m : ℕ) → IsAt (j ∷ p) m i → IsOrder d (j ∷ p) → (p : List ℕ) × IsOrder d (i ∷ j ∷ p)
    next p zero at o = absurd (n (sym at))
    next p (suc m) at o = (without m p, to_front d (suc m) i (j ∷ p) at o)

pub stated_regulator : (d : ℕ) (t : List (List (List ℤ))) → 2 ≤ d → IsPrincipal d t → (n : List ℤ) → IsPrincipalNormal d n → IsRegulator d t n
stated_regulator d t h pr n (inl (i, j, lt, hj, e)) =
    let r = starts_with_two d i j (omega arith) hj (λ z. absurd (omega arith)) in
    let hn = middle d t (i ∷ j ∷ r.0) 0 (pair_normal d i j) pr r.1 (omega arith) (inl (i, j, lt, hj, refl)) (λ q. dot_comm q (pair_normal d i j) ∙ pair_at d i j q) in
    subst (λ (m : List ℤ). IsRegulator d t m) (sym e) (regulator_from d t (i ∷ j ∷ r.0) 1 (pair_normal d i j) h pr r.1 (omega arith) hn)
stated_regulator d t h pr n (inr (i, hi, e)) =
    let r = starts_with d i hi in
    subst (λ (m : List ℤ). IsRegulator d t m) (sym e) (regulator_from d t (i ∷ r.0) 0 (own_normal d i) h pr r.1 (omega arith) (first d t i r.0 pr r.1))

pub principal_regulators : (d : ℕ) (t : List (List (List ℤ))) → 2 ≤ d → IsPrincipal d t → (n : List ℤ) → IsRegulator d t n ↔ IsPrincipalNormal d n
principal_regulators d t h pr n = (regulator_stated d t h pr n, stated_regulator d t h pr n)

-- ---- walls

pub length-less : (d : ℕ) (l : List ℤ) → length l ≡ d → length (less_square d l) ≡ numbers_of_form d
length-less d l ll =
    let e : length (scale (negsuc 0) (product_form l l)) ≡ numbers_of_form d = length-scale (negsuc 0) (product_form l l) ∙ length-product d l l ll ll in
    length-plus (principal_rows d d) (scale (negsuc 0) (product_form l l)) (length-rows d d ∙ sym e) ∙ length-rows d d

-- for - a_kl: the form less (x_k - x_l)^2
abbrev pub apart : ℕ → ℕ → ℕ → List ℤ
apart d k l = plus (unit d k) (scale (negsuc 0) (unit d l))

pub length-apart : (d k l : ℕ) → length (apart d k l) ≡ d
length-apart d k l = length-plus (unit d k) (scale (negsuc 0) (unit d l)) (length-unit d k ∙ sym (length-scale (negsuc 0) (unit d l) ∙ length-unit d l)) ∙ length-unit d k

apart_number : (d k l i : ℕ) → number_at i (apart d k l) ≡ number_at i (unit d k) -ℤ number_at i (unit d l)
apart_number d k l i = number_at-plus i (unit d k) (scale (negsuc 0) (unit d l)) ∙ ap (λ n. number_at i (unit d k) +ℤ n) (number_at-scale i (negsuc 0) (unit d l)) ∙ (omega (arith, ints))

pub apart_other : (d k l i : ℕ) → i ≢ k → i ≢ l → number_at i (apart d k l) ≡ pos 0
apart_other d k l i n m = omega (arith, ints, apart_number d k l i, unit_other d k i n, unit_other d l i m)

apart_first : (d k l : ℕ) → k < d → k ≢ l → number_at k (apart d k l) ≡ pos 1
apart_first d k l h n = omega (arith, ints, apart_number d k l k, number_at-unit_same d k h, unit_other d l k n)

apart_second : (d k l : ℕ) → l < d → k ≢ l → number_at l (apart d k l) ≡ negsuc 0
apart_second d k l h n = omega (arith, ints, apart_number d k l l, number_at-unit_same d l h, unit_other d k l (λ e. n (sym e)))

pub apart_total : (d k l : ℕ) → k < d → l < d → total (apart d k l) ≡ pos 0
apart_total d k l hk hl = omega (arith, ints, total-plus (unit d k) (scale (negsuc 0) (unit d l)), total-scale (negsuc 0) (unit d l), total-unit d k hk, total-unit d l hl)

pub pair_zero : (d k l : ℕ) → k < l → l < d → dot (pair_normal d k l) (less_square d (apart d k l)) ≡ pos 0
pair_zero d k l lt hl =
    let hk : k < d = omega arith in
    let n : k ≢ l = λ z. absurd (omega arith) in
    pair_at_less d k l (apart d k l) (length-apart d k l) hk hl n ∙ (rw (apart_first d k l hk n, apart_second d k l hl n) refl)

-- at the wall of the pair k, l each other normal is 2
pub pair_others : (d k l : ℕ) → k < l → l < d → (m : List ℤ) → IsPrincipalNormal d m → m ≢ pair_normal d k l → dot m (less_square d (apart d k l)) ≡ pos 2
pair_others d k l lt hl m (inr (i, hi, e)) n =
    let f : dot (own_normal d i) (less_square d (apart d k l)) ≡ pos 2 -ℤ pos 2 *ℤ (total (apart d k l) *ℤ number_at i (apart d k l)) = own_at_less d i (apart d k l) (length-apart d k l) hi in
    let g : total (apart d k l) *ℤ number_at i (apart d k l) ≡ pos 0 = ap (λ x. x *ℤ number_at i (apart d k l)) (apart_total d k l (omega arith) hl) ∙ zero_mul_z (number_at i (apart d k l)) in
    ap (λ (x : List ℤ). dot x (less_square d (apart d k l))) e ∙ f ∙ (rw g refl)
pair_others d k l lt hl m (inl (i, j, le, hj, e)) n =
    let f : dot (pair_normal d i j) (less_square d (apart d k l)) ≡ pos 2 +ℤ pos 2 *ℤ (number_at i (apart d k l) *ℤ number_at j (apart d k l)) =
    pair_at_less d i j (apart d k l) (length-apart d k l) (omega arith) hj (λ z. absurd (omega arith))
    in
    let g : number_at i (apart d k l) *ℤ number_at j (apart d k l) ≡ pos 0 = cases (same_or_not i k) (same_or_not i l) (same_or_not j l) in
    ap (λ (x : List ℤ). dot x (less_square d (apart d k l))) e ∙ f ∙ (rw g refl)
  where
    left : number_at i (apart d k l) ≡ pos 0 → number_at i (apart d k l) *ℤ number_at j (apart d k l) ≡ pos 0
    left h = ap (λ x. x *ℤ number_at j (apart d k l)) h ∙ zero_mul_z (number_at j (apart d k l))

    right : number_at j (apart d k l) ≡ pos 0 → number_at i (apart d k l) *ℤ number_at j (apart d k l) ≡ pos 0
    right h = ap (λ x. number_at i (apart d k l) *ℤ x) h ∙ mul_zero_z (number_at i (apart d k l))

    cases : (i ≡ k) ⊎ (i ≢ k) → (i ≡ l) ⊎ (i ≢ l) → (j ≡ l) ⊎ (j ≢ l) → number_at i (apart d k l) *ℤ number_at j (apart d k l) ≡ pos 0
    cases (inl a) b (inl c) = absurd (n (e ∙ ap₂ (λ (x y : ℕ). pair_normal d x y) a c))
    cases (inl a) b (inr c) = right (apart_other d k l j (λ z. absurd (omega arith)) c)
    cases (inr a) (inl b) c = right (apart_other d k l j (λ z. absurd (omega arith)) (λ z. absurd (omega arith)))
    cases (inr a) (inr b) c = left (apart_other d k l i a b)

pub own_zero : (d k : ℕ) → k < d → dot (own_normal d k) (less_square d (unit d k)) ≡ pos 0
own_zero d k h = own_at_less d k (unit d k) (length-unit d k) h ∙ (rw (total-unit d k h, number_at-unit_same d k h) refl)

pub own_others : (d k : ℕ) → k < d → (m : List ℤ) → IsPrincipalNormal d m → m ≢ own_normal d k → dot m (less_square d (unit d k)) ≡ pos 2
own_others d k h m (inr (i, hi, e)) n =
    let f : dot (own_normal d i) (less_square d (unit d k)) ≡ pos 2 -ℤ pos 2 *ℤ (total (unit d k) *ℤ number_at i (unit d k)) = own_at_less d i (unit d k) (length-unit d k) hi in
    let g : number_at i (unit d k) ≡ pos 0 = unit_other d k i (λ z. n (e ∙ ap (own_normal d) z)) in
    let z : total (unit d k) *ℤ number_at i (unit d k) ≡ pos 0 = ap (λ x. total (unit d k) *ℤ x) g ∙ mul_zero_z (total (unit d k)) in
    ap (λ (x : List ℤ). dot x (less_square d (unit d k))) e ∙ f ∙ (rw z refl)
own_others d k h m (inl (i, j, le, hj, e)) n =
    let f : dot (pair_normal d i j) (less_square d (unit d k)) ≡ pos 2 +ℤ pos 2 *ℤ (number_at i (unit d k) *ℤ number_at j (unit d k)) =
    pair_at_less d i j (unit d k) (length-unit d k) (omega arith) hj (λ z. absurd (omega arith))
    in
    let g : number_at i (unit d k) *ℤ number_at j (unit d k) ≡ pos 0 = cases (same_or_not i k) in
    ap (λ (x : List ℤ). dot x (less_square d (unit d k))) e ∙ f ∙ (rw g refl)
  where
    cases : (i ≡ k) ⊎ (i ≢ k) → number_at i (unit d k) *ℤ number_at j (unit d k) ≡ pos 0
    cases (inl a) = ap (λ x. number_at i (unit d k) *ℤ x) (unit_other d k j (λ z. absurd (omega arith))) ∙ mul_zero_z (number_at i (unit d k))
    cases (inr a) = ap (λ x. x *ℤ number_at j (unit d k)) (unit_other d k i a) ∙ zero_mul_z (number_at j (unit d k))

pub principal_facets : (d : ℕ) (t : List (List (List ℤ))) → 2 ≤ d → IsPrincipal d t → (n : List ℤ) → IsPrincipalNormal d n → IsFacet d t n
principal_facets d t h pr n (inl (k, l, lt, hl, e)) =
    subst (λ (m : List ℤ). IsFacet d t m) (sym e) (
      less_square d (apart d k l),
      record {
        regulator = stated_regulator d t h pr (pair_normal d k l) (inl (k, l, lt, hl, refl));
        numbers = length-less d (apart d k l) (length-apart d k l);
        zero_there = pair_zero d k l lt hl;
        others = λ m r ne. two (dot m (less_square d (apart d k l))) (pair_others d k l lt hl m (regulator_stated d t h pr m r) ne);
      },
    )
  where
    two : (x : ℤ) → x ≡ pos 2 → pos 0 <ℤ x
    two x e = omega (arith, ints, e)
principal_facets d t h pr n (inr (k, hk, e)) =
    subst (λ (m : List ℤ). IsFacet d t m) (sym e) (
      less_square d (unit d k),
      record {
        regulator = stated_regulator d t h pr (own_normal d k) (inr (k, hk, refl));
        numbers = length-less d (unit d k) (length-unit d k);
        zero_there = own_zero d k hk;
        others = λ m r ne. two (dot m (less_square d (unit d k))) (own_others d k hk m (regulator_stated d t h pr m r) ne);
      },
    )
  where
    two : (x : ℤ) → x ≡ pos 2 → pos 0 <ℤ x
    two x e = omega (arith, ints, e)
