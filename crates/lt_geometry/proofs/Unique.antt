-- A facet of a member has one neighbour.
use Rattle.std.proofs.Common.{◌≡◌, ◌≢◌, ℕ, zero, suc, ℤ, pos, ◌+ℤ◌, ◌-ℤ◌, ◌*ℤ◌, ◌<ℤ◌, ◌≤ℤ◌, neg_ℤ, ◌<◌, refl, ap, arith, sym, ◌∙◌, subst, List, [], ◌∷◌, length, map, get_or, ◌⊎◌, inl, inr}
use Rattle.std.proofs.lemmas.Int.{ints}
use Rattle.std.specs.List.{Contains}
use Rattle.lt_model.proofs.Integers.{mul_zero_z, mul_one_z, one_mul_z}
use Rattle.lt_model.proofs.Ring.{ring, var, num, ◌⊕◌, ◌⊖◌, ◌⊗◌, neg}
use Rattle.lt_model.proofs.Excess.{length-translate}
use Rattle.lt_model.proofs.Walk.{IsStep, IsWeighted, next_coefficients, next_expression, step_at, number_at-scale}
use Rattle.lt_model.proofs.Expressions.{one_expression}
use Rattle.lt_model.proofs.Moved.{simplex_moved}
use Rattle.lt_geometry.proofs.LocalWalk.{empty_moved}
use Rattle.lt_model.proofs.Sets.{Contains-head, Contains-tail, Contains-cases, Contains-none}
use Rattle.lt_model.specs.Vectors.{scale, dot, unit}
use Rattle.lt_model.specs.Forms.{value}
use Rattle.lt_model.specs.Simplices.{IsSimplex, IsExpression, IsStrictlyEmpty, excess, translate}
use Rattle.lt_model.specs.Facets.{number_at, without, IsNeighbour}
use Rattle.lt_model.proofs.Points.{vertex_expression, weighted}
use Rattle.lt_geometry.specs.Paving.{IsPaving}
use Rattle.lt_geometry.proofs.Paths.{unit_other}
use Rattle.lt_geometry.proofs.Closed.{get_dimension}

pub expressed : (vs : List (List ℤ)) (x : List ℤ) (c : ℤ) (b : List ℤ) → IsWeighted vs (pos 1) x c b → IsExpression vs x c b
expressed vs x c b h = record { positive = h.positive; one_each = h.one_each; point = h.point; sum = h.sum ∙ mul_one_z c }

-- ---- places in a list without one

pub other_place : (vs : List (List ℤ)) (i : ℕ) (x : List ℤ) → Contains (without i vs) x → (k : ℕ) × (k ≢ i) × (k < length vs) × (get_or vs k [] ≡ x)
other_place [] i x c = Contains-none x c
other_place (v ∷ vs) zero x c = let r = place vs x c in (suc r.0, λ e. absurd (omega arith), omega (arith, r.1), r.2)
  where
    place : (vs : List (List ℤ)) (x : List ℤ) → Contains vs x → (k : ℕ) × (k < length vs) × (get_or vs k [] ≡ x)
    place [] x c = Contains-none x c
    place (v ∷ vs) x c = elim (Contains-cases v vs x c) [ inl e ↦ (0, omega arith, e) | inr r ↦ (let s = place vs x r in (suc s.0, omega (arith, s.1), s.2)) ]
other_place (v ∷ vs) (suc i) x c =
    elim (Contains-cases v (without i vs) x c) [
      | inl e ↦ (0, λ z. absurd (omega arith), omega arith, e)
      | inr r ↦ (let s = other_place vs i x r in (suc s.0, λ z. s.1 (omega arith), omega (arith, s.2), s.3))
    ]

pub one_or_other : (vs : List (List ℤ)) (j : ℕ) (x : List ℤ) → Contains vs x → (get_or vs j [] ≡ x) ⊎ Contains (without j vs) x
one_or_other [] j x c = Contains-none x c
one_or_other (v ∷ vs) zero x c = Contains-cases v vs x c
one_or_other (v ∷ vs) (suc j) x c =
    elim (Contains-cases v vs x c) [
      | inl e ↦ inr (subst (λ (w : List ℤ). Contains (v ∷ without j vs) w) e (Contains-head v (without j vs)))
      | inr r ↦ elim (one_or_other vs j x r) [ inl e ↦ inl e | inr s ↦ inr (Contains-tail v (without j vs) x s) ]
    ]

pub any_default : (vs : List (List ℤ)) (j : ℕ) (x y : List ℤ) → j < length vs → get_or vs j x ≡ get_or vs j y
any_default [] j x y h = absurd (omega arith)
any_default (v ∷ vs) zero x y h = refl
any_default (v ∷ vs) (suc j) x y h = any_default vs j x y (omega arith)

-- a vertex other than that at place i has the number 0 there
pub no_number : (d : ℕ) (vs : List (List ℤ)) (i : ℕ) (x : List ℤ) (c : ℤ) (b : List ℤ) → IsSimplex d vs → IsExpression vs x c b → Contains (without i vs) x → number_at i b ≡ pos 0
no_number d vs i x c b s e m =
    let p = other_place vs i x m in
    let own : IsExpression vs x (pos 1) (unit (length vs) p.0) = subst (λ (v : List ℤ). IsExpression vs v (pos 1) (unit (length vs) p.0)) p.3 (vertex_expression d vs p.0 s.points p.2) in
    let same : scale (pos 1) b ≡ scale c (unit (length vs) p.0) = one_expression d vs (pos 1) x b (unit (length vs) p.0) c (pos 1) s (weighted vs x c b e) (weighted vs x (pos 1) (unit (length vs) p.0) own) in
    let there : number_at i (scale (pos 1) b) ≡ number_at i (scale c (unit (length vs) p.0)) = ap (number_at i) same in
    let left : number_at i (scale (pos 1) b) ≡ number_at i b = number_at-scale i (pos 1) b ∙ one_mul_z (number_at i b) in
    let right : number_at i (scale c (unit (length vs) p.0)) ≡ pos 0 = number_at-scale i c (unit (length vs) p.0) ∙ ap (λ n. c *ℤ n) (unit_other (length vs) p.0 i (λ z. p.1 (sym z))) ∙ mul_zero_z c in
    sym left ∙ there ∙ right

-- ---- two vertices beyond one facet

pub record IsBehind (d : ℕ) (q : List ℤ) (vs : List (List ℤ)) (i : ℕ) (ws : List (List ℤ)) (j : ℕ) (e : ℤ) (f : List ℤ) : Type 0 where
  pub simplex : IsSimplex d ws
  pub empty : IsStrictlyEmpty d q ws
  pub place : j < length ws
  pub facet : without j ws ≡ without i vs
  pub expression : IsExpression vs (get_or ws j []) e f
  pub negative : number_at i f <ℤ pos 0

-- the excess of the one vertex over the simplex of the other
crossing : (d : ℕ) (q : List ℤ) (vs : List (List ℤ)) (i : ℕ) (ws us : List (List ℤ)) (j k : ℕ) (e g : ℤ) (f h : List ℤ) → IsSimplex d vs → i < length vs → IsBehind d q vs i ws j e f → IsBehind d q vs i us k g h →
    (b : List ℤ) × IsExpression ws (get_or us k []) (neg_ℤ (number_at i f) *ℤ g) b × (excess q ws (get_or us k []) (neg_ℤ (number_at i f) *ℤ g) b ≡ neg_ℤ (number_at i f) *ℤ excess q vs (get_or us k []) g h +ℤ number_at i h *ℤ excess q vs (get_or ws j []) e f)
crossing d q vs i ws us j k e g f h s hi a b =
    let step : IsStep d i j vs ws (get_or ws j []) (pos 1) (get_or us k []) h f g e = record {
      dimension = get_dimension d us k b.simplex.points b.place;
      points = s.points;
      next_points = a.simplex.points;
      place = hi;
      next_place = a.place;
      count = a.simplex.count ∙ sym s.count;
      facet = a.facet;
      vertex = any_default ws j (get_or ws j []) [] a.place;
      expression = weighted vs (get_or us k []) g h b.expression;
      beyond = b.negative;
      vertex_expression = a.expression;
      vertex_beyond = a.negative;
    } in
    let height = step_at (value q) d i j vs ws (get_or ws j []) (pos 1) (get_or us k []) h f g e step in (
      next_coefficients i j h f e,
      expressed ws (get_or us k []) (neg_ℤ (number_at i f) *ℤ g) (next_coefficients i j h f e) (next_expression d i j vs ws (get_or ws j []) (pos 1) (get_or us k []) h f g e step),
      end (number_at i f) (number_at i h) g e (value q (get_or us k [])) (value q (get_or ws j [])) (dot h (map (value q) vs)) (dot f (map (value q) vs)) (dot (next_coefficients i j h f e) (map (value q) ws)) height,
    )
  where
    end : (fi hi g e x w a b n : ℤ) → n ≡ neg_ℤ fi *ℤ a -ℤ hi *ℤ (e *ℤ w -ℤ b) → neg_ℤ fi *ℤ g *ℤ x -ℤ n ≡ neg_ℤ fi *ℤ (g *ℤ x -ℤ a) +ℤ hi *ℤ (e *ℤ w -ℤ b)
    end fi hi g e x w a b n h =
        rw h (ring (fi ∷ hi ∷ g ∷ e ∷ x ∷ w ∷ a ∷ b ∷ [])
        (neg (var 0) ⊗ var 2 ⊗ var 4 ⊖ (neg (var 0) ⊗ var 6 ⊖ var 1 ⊗ (var 3 ⊗ var 5 ⊖ var 7)))
        (neg (var 0) ⊗ (var 2 ⊗ var 4 ⊖ var 6) ⊕ var 1 ⊗ (var 3 ⊗ var 5 ⊖ var 7)) tt)

pub one_behind : (d : ℕ) (q : List ℤ) (vs : List (List ℤ)) (i : ℕ) (ws us : List (List ℤ)) (j k : ℕ) (e g : ℤ) (f h : List ℤ) → IsSimplex d vs → i < length vs → IsBehind d q vs i ws j e f → IsBehind d q vs i us k g h →
    get_or ws j [] ≡ get_or us k []
one_behind d q vs i ws us j k e g f h s hi a b =
    let w : List ℤ = get_or ws j [] in
    let x : List ℤ = get_or us k [] in
    let lw : length w ≡ d = get_dimension d ws j a.simplex.points a.place in
    let lx : length x ≡ d = get_dimension d us k b.simplex.points b.place in
    let m = crossing d q vs i ws us j k e g f h s hi a b in
    let n = crossing d q vs i us ws k j g e h f s hi b a in
    let p = a.empty.outside x (neg_ℤ (number_at i f) *ℤ g) m.0 lx m.1 in
    let r = b.empty.outside w (neg_ℤ (number_at i h) *ℤ e) n.0 lw n.1 in
    let z : excess q ws x (neg_ℤ (number_at i f) *ℤ g) m.0 ≡ pos 0 =
    both (number_at i f) (number_at i h) (excess q vs x g h) (excess q vs w e f) (excess q ws x (neg_ℤ (number_at i f) *ℤ g) m.0) (excess q us w (neg_ℤ (number_at i h) *ℤ e) n.0) m.2 n.2 p r
    in
    elim (one_or_other ws j x (a.empty.touches x (neg_ℤ (number_at i f) *ℤ g) m.0 lx m.1 z)) [
      | inl same ↦ same
      | inr c ↦ absurd (never (no_number d vs i x g h s b.expression (subst (λ (l : List (List ℤ)). Contains l x) a.facet c)))
    ]
  where
    both : (fi hi x w s t : ℤ) → s ≡ neg_ℤ fi *ℤ x +ℤ hi *ℤ w → t ≡ neg_ℤ hi *ℤ w +ℤ fi *ℤ x → pos 0 ≤ℤ s → pos 0 ≤ℤ t → s ≡ pos 0
    both fi hi x w s t e f h k =
        let sum : neg_ℤ fi *ℤ x +ℤ hi *ℤ w +ℤ (neg_ℤ hi *ℤ w +ℤ fi *ℤ x) ≡ pos 0 = ring (fi ∷ hi ∷ x ∷ w ∷ []) (neg (var 0) ⊗ var 2 ⊕ var 1 ⊗ var 3 ⊕ (neg (var 1) ⊗ var 3 ⊕ var 0 ⊗ var 2)) (num (pos 0)) tt in
        omega (arith, ints, sum, e, f)

    never : number_at i h ≡ pos 0 → ⊥
    never z = omega (arith, ints, z, b.negative)

-- a neighbour in these words
pub behind : (d : ℕ) (q : List ℤ) (t : List (List (List ℤ))) (s : List (List ℤ)) (i : ℕ) (next : List (List ℤ)) (p : List ℤ) (j : ℕ) → IsPaving d q t → (n : IsNeighbour d t s i next p j) → IsBehind d q s i (translate p next) j n.beyond.scale n.beyond.coefficients
behind d q t s i next p j pav n =
    let c = pav.classes next n.member in
    record {
      simplex = simplex_moved d next p n.dimension c.simplex;
      empty = empty_moved d q next p c.simplex n.dimension (pav.empty next n.member);
      place = omega (arith, length-translate p next, c.simplex.count, n.place);
      facet = n.facet;
      expression = n.beyond.expression;
      negative = n.beyond.negative;
    }

pub one_neighbour : (d : ℕ) (q : List ℤ) (t : List (List (List ℤ))) (s : List (List ℤ)) (i : ℕ) (next next' : List (List ℤ)) (p p' : List ℤ) (j j' : ℕ) → IsPaving d q t → Contains t s → i < suc d → IsNeighbour d t s i next p j → IsNeighbour d t s i next' p' j' →
    get_or (translate p next) j [] ≡ get_or (translate p' next') j' []
one_neighbour d q t s i next next' p p' j j' pav m hi n n' =
    let c = pav.classes s m in
    one_behind d q s i (translate p next) (translate p' next') j j' n.beyond.scale n'.beyond.scale n.beyond.coefficients n'.beyond.coefficients c.simplex (omega (arith, c.simplex.count))
    (behind d q t s i next p j pav n) (behind d q t s i next' p' j' pav n')
