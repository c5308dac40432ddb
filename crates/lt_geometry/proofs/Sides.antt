-- Two members that share a facet lie on opposite sides of it; a facet of a member has one neighbour, whose neighbour the member is.
use Rattle.std.proofs.Common.{◌≡◌, ◌≢◌, ℕ, zero, suc, ℤ, pos, negsuc, ◌-ℤ◌, ◌*ℤ◌, ◌<ℤ◌, ◌≤ℤ◌, neg_ℤ, ◌<◌, refl, ap, arith, sym, ◌∙◌, subst, List, [], ◌∷◌, length, map, get_or, inl, inr}
use Rattle.std.proofs.lemmas.Int.{ints, by_lt_z}
use Rattle.std.specs.List.{Contains}
use Rattle.std.specs.List.Sorted.{IsStrictlySortedBy}
use Rattle.std.specs.declared.cmp.Ordering.TheVariants.{Less}
use Rattle.lt_model.proofs.Ring.{ring, var, num, neg, ◌⊕◌, ◌⊖◌, ◌⊗◌}
use Rattle.lt_model.proofs.Inequalities.{mul_nonneg_z, mul_pos_z}
use Rattle.lt_model.proofs.Squares.{length-scale}
use Rattle.lt_model.proofs.Vectors.{dot-scale, dot_comm}
use Rattle.lt_model.proofs.Excess.{dot-combine, same_from_dots, scale-dot, excess-moved}
use Rattle.lt_model.proofs.Walk.{number_at-scale}
use Rattle.lt_model.proofs.Opposite.{length-zeros, zeros-dot}
use Rattle.lt_model.proofs.Expressions.{has_weighted, one_expression, number_at-zeros, total-scale}
use Rattle.lt_model.proofs.Moved.{simplex_moved, translate-back}
use Rattle.lt_model.proofs.Translates.{without-translate, get-translate, ascending_translate}
use Rattle.lt_model.proofs.Sets.{Contains-head, Contains-tail, Contains-cases, Contains-none, each_holds, never_below_itself, number_list_cmp_total}
use Rattle.lt_model.specs.Order.{number_list_cmp}
use Rattle.lt_model.specs.Vectors.{plus, scale, dot, combine, zeros}
use Rattle.lt_model.specs.Forms.{value}
use Rattle.lt_model.specs.Simplices.{AllOfDimension, IsSimplex, IsClass, IsExpression, IsStrictlyEmpty, excess, translate}
use Rattle.lt_model.specs.Facets.{number_at, without, IsBeyond, IsNeighbour}
use Rattle.lt_model.specs.Triangulations.{IsDelaunay}
use Rattle.lt_model.proofs.Points.{weighted}
use Rattle.lt_geometry.specs.Regulators.{outer_vertex}
use Rattle.lt_walls.proofs.Beside.{IsBeside, turned, length-turned, turned_number, turned_at, turned_total, turned_dot, length-combined, length-vertex, turned_expression, turned_excess, expression_moved}
use Rattle.lt_geometry.proofs.LocalWalk.{empty_moved}
use Rattle.lt_geometry.proofs.Whole.{same_from_within}
use Rattle.lt_geometry.proofs.Closed.{get_dimension}
use Rattle.lt_geometry.proofs.Unique.{one_or_other, no_number, one_neighbour}
use Rattle.lt_geometry.proofs.Classes.{same_translate}
use Rattle.lt_geometry.proofs.Fewness.{paving_of}

-- ---- places of members

was_vertex : (vs : List (List ℤ)) (i : ℕ) (x : List ℤ) → Contains (without i vs) x → Contains vs x
was_vertex [] i x c = Contains-none x c
was_vertex (v ∷ vs) zero x c = Contains-tail v vs x c
was_vertex (v ∷ vs) (suc i) x c =
    elim (Contains-cases v (without i vs) x c) [
      | inl e ↦ subst (λ (y : List ℤ). Contains (v ∷ vs) y) e (Contains-head v vs)
      | inr r ↦ Contains-tail v vs x (was_vertex vs i x r)
    ]

pub at_place : (vs : List (List ℤ)) (i : ℕ) → i < length vs → Contains vs (get_or vs i [])
at_place [] i h = absurd (omega arith)
at_place (v ∷ vs) zero h = Contains-head v vs
at_place (v ∷ vs) (suc i) h = Contains-tail v vs (get_or vs i []) (at_place vs i (omega arith))

one_place : (vs : List (List ℤ)) (i j : ℕ) → IsStrictlySortedBy number_list_cmp vs → i < length vs → j < length vs → get_or vs i [] ≡ get_or vs j [] → i ≡ j
unfolding IsStrictlySortedBy
one_place [] i j s hi hj e = absurd (omega arith)
one_place (v ∷ vs) zero zero s hi hj e = refl
one_place (v ∷ vs) (suc i) (suc j) s hi hj e = ap suc (one_place vs i j s.1 (omega arith) (omega arith) e)
one_place (v ∷ vs) zero (suc j) s hi hj e =
    absurd (never_below_itself number_list_cmp number_list_cmp_total v (subst (λ (x : List ℤ). number_list_cmp v x ≡ Less) (sym e) (each_holds (λ w. number_list_cmp v w ≡ Less) vs (get_or vs j []) s.0 (at_place vs j (omega arith)))))
one_place (v ∷ vs) (suc i) zero s hi hj e =
    absurd (never_below_itself number_list_cmp number_list_cmp_total v (subst (λ (x : List ℤ). number_list_cmp v x ≡ Less) e (each_holds (λ w. number_list_cmp v w ≡ Less) vs (get_or vs i []) s.0 (at_place vs i (omega arith)))))

-- ascending lists of one length with a facet in common, whose other points are equal, are equal
same_vertices : (vs ws : List (List ℤ)) (i j : ℕ) → IsStrictlySortedBy number_list_cmp vs → IsStrictlySortedBy number_list_cmp ws → length ws ≡ length vs → i < length vs → without j ws ≡ without i vs → get_or ws j [] ≡ get_or vs i [] → ws ≡ vs
same_vertices vs ws i j sv sw l hi f e = same_from_within number_list_cmp number_list_cmp_total ws vs sw sv l (λ x c. elim (one_or_other ws j x c) [
  | inl o ↦ subst (λ (y : List ℤ). Contains vs y) (sym e ∙ o) (at_place vs i hi)
  | inr r ↦ was_vertex vs i x (subst (λ (l : List (List ℤ)). Contains l x) f r)
])

-- ---- the vertex opposite to a facet, over the simplex beyond it

module _ {d : ℕ} {vs ws : List (List ℤ)} {i j : ℕ} {e : ℤ} {f : List ℤ} (h : IsBeside d vs i ws j e f) where
  -- where they lie on the same side
  back_expression : pos 0 <ℤ number_at i f → IsExpression ws (get_or vs i []) (number_at i f) (scale (negsuc 0) (turned i j e f))
  back_expression n =
      let l : length (scale (negsuc 0) (turned i j e f)) ≡ length ws = length-scale (negsuc 0) (turned i j e f) ∙ (length-turned h) in
      record {
        positive = n;
        one_each = l;
        point = same_from_dots (combine (scale (negsuc 0) (turned i j e f)) ws) (scale (number_at i f) (get_or vs i [])) (length-combined h (scale (negsuc 0) (turned i j e f)) l ∙ sym (length-vertex h) ∙ sym (length-scale (number_at i f) (get_or vs i [])))
            (λ u. dot-combine u (scale (negsuc 0) (turned i j e f)) ws ∙ scale-dot (negsuc 0) (turned i j e f) (map (dot u) ws) ∙ ap (λ (z : ℤ). negsuc 0 *ℤ z) (sym (dot-combine u (turned i j e f) ws) ∙ turned_dot h u)
            ∙ ring (number_at i f ∷ dot u (get_or vs i []) ∷ []) (num (negsuc 0) ⊗ (neg (var 0) ⊗ var 1)) (var 0 ⊗ var 1) tt ∙ sym (dot-scale u (number_at i f) (get_or vs i [])));
        sum = total-scale (negsuc 0) (turned i j e f) ∙ ap (λ (z : ℤ). negsuc 0 *ℤ z) (turned_total h) ∙ ring (number_at i f ∷ []) (num (negsuc 0) ⊗ neg (var 0)) (var 0) tt;
      }

  back_excess : (q : List ℤ) → excess q ws (get_or vs i []) (number_at i f) (scale (negsuc 0) (turned i j e f)) ≡ neg_ℤ (excess q vs (get_or ws j []) e f)
  back_excess q = ap (λ (z : ℤ). number_at i f *ℤ value q (get_or vs i []) -ℤ z) (scale-dot (negsuc 0) (turned i j e f) (map (value q) ws) ∙ ap (λ (z : ℤ). negsuc 0 *ℤ z) (turned_at h (value q)))
      ∙ ring (e ∷ number_at i f ∷ value q (get_or vs i []) ∷ value q (get_or ws j []) ∷ dot f (map (value q) vs) ∷ []) (var 1 ⊗ var 2 ⊖ num (negsuc 0) ⊗ (neg (var 0) ⊗ var 3 ⊕ (var 4 ⊖ var 1 ⊗ var 2))) (neg (var 0 ⊗ var 3 ⊖ var 4)) tt

  -- the vertex doesn't lie in the plane of the facet
  off_facet : number_at i f ≡ pos 0 → ⊥
  off_facet z =
      let none : turned i j e f ≡ zeros (length ws) = h.second.independent (turned i j e f) (length-turned h) ((turned_total h) ∙ ap neg_ℤ z)
      (same_from_dots (combine (turned i j e f) ws) (zeros d) (length-combined h (turned i j e f) (length-turned h) ∙ sym (length-zeros d))
      (λ u. turned_dot h u ∙ ap (λ (y : ℤ). neg_ℤ y *ℤ dot u (get_or vs i [])) z ∙ ring (dot u (get_or vs i []) ∷ []) (neg (num (pos 0)) ⊗ var 0) (num (pos 0)) tt ∙ sym (dot_comm u (zeros d) ∙ zeros-dot d u)))
      in
      let at : neg_ℤ e ≡ pos 0 = sym (turned_number h) ∙ ap (number_at j) none ∙ number_at-zeros (length ws) j in
      omega (arith, ints, at, h.expression.positive)

  -- strictly empty simplices on the same side of a facet have the same vertex there
  same_side : (q : List ℤ) → IsStrictlyEmpty d q vs → IsStrictlyEmpty d q ws → pos 0 <ℤ number_at i f → get_or ws j [] ≡ get_or vs i []
  same_side q ev ew n =
      let lw : length (get_or ws j []) ≡ d = get_dimension d ws j h.second.points h.second_place in
      let up = ev.outside (get_or ws j []) e f lw h.expression in
      let down = ew.outside (get_or vs i []) (number_at i f) (scale (negsuc 0) (turned i j e f)) (length-vertex h) (back_expression n) in
      elim (one_or_other vs i (get_or ws j []) (ev.touches (get_or ws j []) e f lw h.expression (omega (arith, ints, up, down, back_excess q)))) [
        | inl o ↦ sym o
        | inr r ↦ absurd (let z = no_number d vs i (get_or ws j []) e f h.simplex h.expression r in omega (arith, ints, n, z))
      ]

-- ---- members

moved_class : (d : ℕ) (a : List ℤ) (t : List (List (List ℤ))) (next : List (List ℤ)) (p : List ℤ) → IsDelaunay d a t → Contains t next → length p ≡ d → IsSimplex d (translate p next) × IsStrictlyEmpty d a (translate p next) × IsStrictlySortedBy number_list_cmp (translate p next)
moved_class d a t next p k m l =
    let c = (k.members next).0 m in
    (simplex_moved d next p l c.0.simplex, empty_moved d a next p c.0.simplex l c.1, ascending_translate d p next l c.0.simplex.points c.0.ascending)

pub lie_opposite : (d : ℕ) (a : List ℤ) (t : List (List (List ℤ))) (s : List (List ℤ)) (i : ℕ) (next : List (List ℤ)) (p : List ℤ) (j : ℕ) → IsDelaunay d a t → Contains t s → Contains t next → length p ≡ d → i < suc d → j < suc d →
    without j (translate p next) ≡ without i s → translate p next ≢ s → IsBeyond s i (outer_vertex next p j)
lie_opposite d a t s i next p j k ms mn lp hi hj facet differ =
    let c = (k.members s).0 ms in
    let m = moved_class d a t next p k mn lp in
    let hw = has_weighted d s (pos 1) (outer_vertex next p j) c.0.simplex (get_dimension d (translate p next) j m.0.points (omega (arith, m.0.count))) in
    let x : IsExpression s (outer_vertex next p j) hw.c hw.b = record { positive = hw.is.positive; one_each = hw.is.one_each; point = hw.is.point; sum = hw.is.sum ∙ (omega (arith, ints)) } in
    let h : IsBeside d s i (translate p next) j hw.c hw.b = record {
      simplex = c.0.simplex;
      second = m.0;
      place = omega (arith, c.0.simplex.count);
      second_place = omega (arith, m.0.count);
      facet = facet;
      expression = x;
    } in
    record { scale = hw.c; coefficients = hw.b; expression = x; negative = by_lt_z (number_at i hw.b) (pos 0) (λ l. l) (λ g. absurd (never c.0 c.1 m h g)) }
  where
    never : {e : ℤ} → {f : List ℤ} → IsClass d s → IsStrictlyEmpty d a s → IsSimplex d (translate p next) × IsStrictlyEmpty d a (translate p next) × IsStrictlySortedBy number_list_cmp (translate p next) → IsBeside d s i (translate p next) j e f → pos 0 ≤ℤ number_at i f → ⊥
    never {e} {f} c ec m h g = by_lt_z (pos 0) (number_at i f)
        (λ l. differ (same_vertices s (translate p next) i j c.ascending m.2 (m.0.count ∙ sym c.simplex.count) h.place facet (same_side h a ec m.1 l)))
        (λ l. off_facet h (omega (arith, ints, g, l)))

pub unique_neighbour : (d : ℕ) (a : List ℤ) (t : List (List (List ℤ))) (s : List (List ℤ)) (i : ℕ) (next next' : List (List ℤ)) (p p' : List ℤ) (j j' : ℕ) → IsDelaunay d a t → Contains t s → i < suc d →
    IsNeighbour d t s i next p j → IsNeighbour d t s i next' p' j' → (next ≡ next') × (p ≡ p') × (j ≡ j')
unique_neighbour d a t s i next next' p p' j j' k ms hi n n' =
    let m = moved_class d a t next p k n.member n.dimension in
    let m' = moved_class d a t next' p' k n'.member n'.dimension in
    let w = one_neighbour d a t s i next next' p p' j j' (paving_of d a t k) ms hi n n' in
    let same : translate p next ≡ translate p' next' = same_vertices (translate p' next') (translate p next) j' j m'.2 m.2 (m.0.count ∙ sym m'.0.count) (omega (arith, m'.0.count, n'.place)) (n.facet ∙ sym n'.facet) w in
    let b = same_translate d next next' p p' ((k.members next).0 n.member).0 ((k.members next').0 n'.member).0 n.dimension n'.dimension same in
    (b.0, b.1, one_place (translate p next) j j' m.2 (omega (arith, m.0.count, n.place)) (omega (arith, m.0.count, n'.place)) (w ∙ ap (λ (l : List (List ℤ)). get_or l j' []) (sym same)))

-- ---- seen from the other side

pub record IsAside (d : ℕ) (t : List (List (List ℤ))) (s : List (List ℤ)) (i : ℕ) (next : List (List ℤ)) (p : List ℤ) (j : ℕ) (c : ℤ) (b : List ℤ) : Type 0 where
  pub beside : IsBeside d s i (translate p next) j c b
  pub negative : number_at i b <ℤ pos 0
  pub vertex : outer_vertex s (scale (negsuc 0) p) i ≡ plus (get_or s i []) (scale (negsuc 0) p)
  pub expression : IsExpression next (outer_vertex s (scale (negsuc 0) p) i) (neg_ℤ (number_at i b)) (turned i j c b)
  pub same_excess : (q : List ℤ) → excess q next (outer_vertex s (scale (negsuc 0) p) i) (neg_ℤ (number_at i b)) (turned i j c b) ≡ excess q s (outer_vertex next p j) c b

-- each expression of the outer vertex of a neighbour has a negative number at the facet, and turns into one of the vertex beyond the facet on the other side
pub aside : (d : ℕ) (a : List ℤ) (t : List (List (List ℤ))) (s : List (List ℤ)) (i : ℕ) (next : List (List ℤ)) (p : List ℤ) (j : ℕ) (c : ℤ) (b : List ℤ) → IsDelaunay d a t → Contains t s → i < suc d →
    IsNeighbour d t s i next p j → IsExpression s (outer_vertex next p j) c b → IsAside d t s i next p j c b
aside d a t s i next p j c b k ms hi n x =
    let cs = ((k.members s).0 ms).0.simplex in
    let cn = ((k.members next).0 n.member).0.simplex in
    let m = moved_class d a t next p k n.member n.dimension in
    let lm : length (scale (negsuc 0) p) ≡ d = length-scale (negsuc 0) p ∙ n.dimension in
    let h : IsBeside d s i (translate p next) j c b = record {
      simplex = cs;
      second = m.0;
      place = omega (arith, cs.count);
      second_place = omega (arith, m.0.count, n.place);
      facet = n.facet;
      expression = x;
    } in
    let back : translate (scale (negsuc 0) p) (translate p next) ≡ next = translate-back d next p cn.points n.dimension in
    let low : number_at i b <ℤ pos 0 = negative cs in
    let lv : length (get_or s i []) ≡ d = get_dimension d s i cs.points (omega (arith, cs.count)) in
    let vertex : outer_vertex s (scale (negsuc 0) p) i ≡ plus (get_or s i []) (scale (negsuc 0) p) = get-translate (scale (negsuc 0) p) i s [] [] (omega (arith, cs.count)) in
    let y = turned_expression h low in
    record {
      beside = h;
      negative = low;
      vertex = vertex;
      expression = subst (λ (v : List ℤ). IsExpression next v (neg_ℤ (number_at i b)) (turned i j c b)) (sym vertex)
          (subst (λ (l : List (List ℤ)). IsExpression l (plus (get_or s i []) (scale (negsuc 0) p)) (neg_ℤ (number_at i b)) (turned i j c b)) back
          (expression_moved d (translate p next) (scale (negsuc 0) p) (get_or s i []) (turned i j c b) (neg_ℤ (number_at i b)) m.0 lm lv y));
      same_excess = λ q. ap (λ (v : List ℤ). excess q next v (neg_ℤ (number_at i b)) (turned i j c b)) vertex
          ∙ ap (λ (l : List (List ℤ)). excess q l (plus (get_or s i []) (scale (negsuc 0) p)) (neg_ℤ (number_at i b)) (turned i j c b)) (sym back)
          ∙ excess-moved q (turned i j c b) (translate p next) (get_or s i []) (scale (negsuc 0) p) (neg_ℤ (number_at i b)) (subst (λ (e : ℕ). AllOfDimension e (translate p next)) (sym lm) m.0.points) (lv ∙ sym lm) y
          ∙ turned_excess h q;
    }
  where
    negative : IsSimplex d s → number_at i b <ℤ pos 0
    negative cs =
        let f = n.beyond in
        let same : scale f.scale b ≡ scale c f.coefficients = one_expression d s (pos 1) (outer_vertex next p j) b f.coefficients c f.scale cs (weighted s (outer_vertex next p j) c b x) (weighted s (outer_vertex next p j) f.scale f.coefficients f.expression) in
        let at : f.scale *ℤ number_at i b ≡ c *ℤ number_at i f.coefficients = sym (number_at-scale i f.scale b) ∙ ap (number_at i) same ∙ number_at-scale i c f.coefficients in
        signs f.scale c (number_at i b) (number_at i f.coefficients) f.expression.positive x.positive f.negative at
      where
        signs : (e c b f : ℤ) → pos 0 <ℤ e → pos 0 <ℤ c → f <ℤ pos 0 → e *ℤ b ≡ c *ℤ f → b <ℤ pos 0
        signs e c b f he hc hf k = by_lt_z b (pos 0) (λ l. l) (λ g. absurd (omega (arith, ints, k, mul_nonneg_z e b (omega (arith, ints, he)) g, mul_pos_z c (neg_ℤ f) hc (omega (arith, ints, hf)), ring (c ∷ f ∷ []) (var 0 ⊗ neg (var 1)) (neg (var 0 ⊗ var 1)) tt)))

pub mutual_neighbour : (d : ℕ) (a : List ℤ) (t : List (List (List ℤ))) (s : List (List ℤ)) (i : ℕ) (next : List (List ℤ)) (p : List ℤ) (j : ℕ) → IsDelaunay d a t → Contains t s → i < suc d →
    IsNeighbour d t s i next p j → IsNeighbour d t next j s (scale (negsuc 0) p) i
mutual_neighbour d a t s i next p j k ms hi n =
    let cn = ((k.members next).0 n.member).0.simplex in
    let o = aside d a t s i next p j n.beyond.scale n.beyond.coefficients k ms hi n n.beyond.expression in
    record {
      member = ms;
      dimension = length-scale (negsuc 0) p ∙ n.dimension;
      place = hi;
      facet = without-translate (scale (negsuc 0) p) i s ∙ ap (translate (scale (negsuc 0) p)) (sym n.facet) ∙ sym (without-translate (scale (negsuc 0) p) j (translate p next)) ∙ ap (without j) (translate-back d next p cn.points n.dimension);
      beyond = record {
        scale = neg_ℤ (number_at i n.beyond.coefficients);
        coefficients = turned i j n.beyond.scale n.beyond.coefficients;
        expression = o.expression;
        negative = let z = turned_number o.beside in omega (arith, ints, z, n.beyond.expression.positive);
      };
    }
