-- The expression of a vertex beyond a facet turns into that of the opposite vertex over the simplex on the other side.
use Rattle.std.proofs.Common.{◌≡◌, ℕ, suc, ℤ, pos, neg_ℤ, ◌+ℤ◌, ◌-ℤ◌, ◌*ℤ◌, ◌<ℤ◌, ◌<◌, refl, ap, ap₂, arith, sym, ◌∙◌, List, [], ◌∷◌, length, map, get_or}
use Rattle.std.proofs.lemmas.Int.{ints}
use Rattle.lt_model.proofs.Ring.{ring, var, neg, ◌⊕◌, ◌⊖◌, ◌⊗◌}
use Rattle.lt_model.proofs.Squares.{length-scale}
use Rattle.lt_model.proofs.Vectors.{dot-scale}
use Rattle.lt_model.proofs.Excess.{dot-combine, dot-constant, same_from_dots}
use Rattle.lt_model.proofs.Walk.{IsWeighted, dot-without, without-map, number_at-map, without-with_at, number_at-with_at, length-with_at, length-without, length-combine, length-map}
use Rattle.lt_model.proofs.Moved.{weighted_moved}
use Rattle.lt_model.proofs.Points.{get_dimension, scale-one}
use Rattle.lt_model.specs.Vectors.{plus, scale, dot, total, combine}
use Rattle.lt_model.specs.Forms.{value}
use Rattle.lt_model.specs.Simplices.{IsSimplex, IsExpression, excess, translate}
use Rattle.lt_model.specs.Facets.{number_at, without, with_at}

-- ws has facet i of vs, and its vertex j has the expression e, f over vs
pub record IsBeside (d : ℕ) (vs : List (List ℤ)) (i : ℕ) (ws : List (List ℤ)) (j : ℕ) (e : ℤ) (f : List ℤ) : Type 0 where
  pub simplex : IsSimplex d vs
  pub second : IsSimplex d ws
  pub place : i < length vs
  pub second_place : j < length ws
  pub facet : without j ws ≡ without i vs
  pub expression : IsExpression vs (get_or ws j []) e f

-- the numbers of - f_i times the vertex i of vs over ws
abbrev pub turned : ℕ → ℕ → ℤ → List ℤ → List ℤ
turned i j e f = with_at j (neg_ℤ e) (without i f)

module _ {d : ℕ} {vs ws : List (List ℤ)} {i j : ℕ} {e : ℤ} {f : List ℤ} (h : IsBeside d vs i ws j e f) where
  short : suc (length (without i f)) ≡ length vs
  short = let l : length f ≡ length vs = h.expression.one_each in length-without i f (omega (arith, l, h.place)) ∙ l

  same_count : length ws ≡ length vs
  same_count = h.second.count ∙ sym h.simplex.count

  pub length-turned : length (turned i j e f) ≡ length ws
  length-turned = length-with_at j (neg_ℤ e) (without i f) ∙ short ∙ sym same_count

  pub turned_number : number_at j (turned i j e f) ≡ neg_ℤ e
  turned_number = number_at-with_at j (neg_ℤ e) (without i f) (omega (arith, h.second_place, short, same_count))

  pub turned_at : (g : List ℤ → ℤ) → dot (turned i j e f) (map g ws) ≡ neg_ℤ e *ℤ g (get_or ws j []) +ℤ (dot f (map g vs) -ℤ number_at i f *ℤ g (get_or vs i []))
  turned_at g =
      let lv = length-map g vs in
      let lw = length-map g ws in
      let lf : length f ≡ length vs = h.expression.one_each in
      let own = dot-without i f (map g vs) (lf ∙ sym lv) in
      let at_i : number_at i (map g vs) ≡ g (get_or vs i []) = number_at-map g i vs [] h.place in
      let there = dot-without j (turned i j e f) (map g ws) (length-turned ∙ sym lw) in
      let at_j : number_at j (map g ws) ≡ g (get_or ws j []) = number_at-map g j ws [] h.second_place in
      let rest : dot (without j (turned i j e f)) (without j (map g ws)) ≡ dot (without i f) (without i (map g vs)) =
      ap₂ dot (without-with_at j (neg_ℤ e) (without i f) (omega (arith, h.second_place, short, same_count))) (without-map g j ws ∙ ap (map g) h.facet ∙ sym (without-map g i vs))
      in
      end (number_at j (turned i j e f)) (number_at j (map g ws)) (g (get_or ws j [])) (number_at i f) (number_at i (map g vs)) (g (get_or vs i [])) (dot (turned i j e f) (map g ws)) (dot f (map g vs)) (dot (without j (turned i j e f)) (without j (map g ws))) (dot (without i f) (without i (map g vs))) there own at_j at_i rest turned_number
    where
      end : (n gj gw fi gi gv t s r r' : ℤ) → t ≡ n *ℤ gj +ℤ r → s ≡ fi *ℤ gi +ℤ r' → gj ≡ gw → gi ≡ gv → r ≡ r' → n ≡ neg_ℤ e → t ≡ neg_ℤ e *ℤ gw +ℤ (s -ℤ fi *ℤ gv)
      end n gj gw fi gi gv t s r r' a b c k l m =
          let p : n *ℤ gj ≡ neg_ℤ e *ℤ gw = ap₂ (λ (x y : ℤ). x *ℤ y) m c in
          let q : fi *ℤ gi ≡ fi *ℤ gv = ap (λ (y : ℤ). fi *ℤ y) k in
          omega (arith, ints, a, b, p, q, l)

  over : (g : List ℤ → ℤ) (x : ℤ) → dot f (map g vs) ≡ e *ℤ x → g (get_or ws j []) ≡ x → dot (turned i j e f) (map g ws) ≡ neg_ℤ (number_at i f) *ℤ g (get_or vs i [])
  over g x k l = turned_at g ∙ ap₂ (λ (y z : ℤ). neg_ℤ e *ℤ y +ℤ (z -ℤ number_at i f *ℤ g (get_or vs i []))) l k
      ∙ ring (e ∷ x ∷ number_at i f ∷ g (get_or vs i []) ∷ []) (neg (var 0) ⊗ var 1 ⊕ (var 0 ⊗ var 1 ⊖ var 2 ⊗ var 3)) (neg (var 2) ⊗ var 3) tt

  pub turned_total : total (turned i j e f) ≡ neg_ℤ (number_at i f)
  turned_total =
      let one : List ℤ → ℤ = λ v. pos 1 in
      let a : total (turned i j e f) *ℤ pos 1 ≡ neg_ℤ (number_at i f) *ℤ pos 1 = sym (dot-constant (turned i j e f) (pos 1) ws length-turned) ∙ over one (pos 1) (dot-constant f (pos 1) vs h.expression.one_each ∙ ap (λ (n : ℤ). n *ℤ pos 1) h.expression.sum) refl in
      omega (arith, ints, a)

  pub turned_dot : (u : List ℤ) → dot u (combine (turned i j e f) ws) ≡ neg_ℤ (number_at i f) *ℤ dot u (get_or vs i [])
  turned_dot u = dot-combine u (turned i j e f) ws ∙ over (dot u) (dot u (get_or ws j [])) (sym (dot-combine u f vs) ∙ ap (dot u) h.expression.point ∙ dot-scale u e (get_or ws j [])) refl

  pub length-combined : (b : List ℤ) → length b ≡ length ws → length (combine b ws) ≡ d
  length-combined b l = length-combine d b ws h.second.points l (omega (arith, h.second.count))

  pub length-vertex : length (get_or vs i []) ≡ d
  length-vertex = get_dimension d i vs [] h.simplex.points h.place

  -- where the vertices lie on opposite sides
  pub turned_expression : number_at i f <ℤ pos 0 → IsExpression ws (get_or vs i []) (neg_ℤ (number_at i f)) (turned i j e f)
  turned_expression n = record {
    positive = omega (arith, ints, n);
    one_each = length-turned;
    point = same_from_dots (combine (turned i j e f) ws) (scale (neg_ℤ (number_at i f)) (get_or vs i [])) (length-combined (turned i j e f) length-turned ∙ sym length-vertex ∙ sym (length-scale (neg_ℤ (number_at i f)) (get_or vs i [])))
        (λ u. turned_dot u ∙ sym (dot-scale u (neg_ℤ (number_at i f)) (get_or vs i [])));
    sum = turned_total;
  }

  pub turned_excess : (q : List ℤ) → excess q ws (get_or vs i []) (neg_ℤ (number_at i f)) (turned i j e f) ≡ excess q vs (get_or ws j []) e f
  turned_excess q = ap (λ (z : ℤ). neg_ℤ (number_at i f) *ℤ value q (get_or vs i []) -ℤ z) (turned_at (value q))
      ∙ ring (e ∷ number_at i f ∷ value q (get_or vs i []) ∷ value q (get_or ws j []) ∷ dot f (map (value q) vs) ∷ []) (neg (var 1) ⊗ var 2 ⊖ (neg (var 0) ⊗ var 3 ⊕ (var 4 ⊖ var 1 ⊗ var 2))) (var 0 ⊗ var 3 ⊖ var 4) tt

-- an expression of a point is one of the moved point over the moved simplex
pub expression_moved : (d : ℕ) (vs : List (List ℤ)) (p x b : List ℤ) (c : ℤ) → IsSimplex d vs → length p ≡ d → length x ≡ d → IsExpression vs x c b → IsExpression (translate p vs) (plus x p) c b
expression_moved d vs p x b c s lp lx h =
    let w : IsWeighted vs (pos 1) x c b = record { positive = h.positive; one_each = h.one_each; point = h.point; sum = h.sum ∙ (omega (arith, ints)) } in
    let k : IsWeighted (translate p vs) (pos 1) (plus x (scale (pos 1) p)) c b = weighted_moved d vs p (pos 1) x b c s.points (omega (arith, s.count)) lp lx w in
    let l : IsWeighted (translate p vs) (pos 1) (plus x p) c b = rw (scale-one p) at k in
    record { positive = l.positive; one_each = l.one_each; point = l.point; sum = h.sum }
