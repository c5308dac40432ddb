-- One denominator serves the expressions of all points over a simplex.
use Rattle.std.proofs.Common.{◌≡◌, ℕ, zero, suc, ℤ, pos, ◌+ℤ◌, ◌*ℤ◌, ◌<ℤ◌, refl, ap, arith, sym, ◌∙◌, List, [], ◌∷◌, length, map}
use Rattle.std.proofs.lemmas.Int.{ints}
use Rattle.lt_model.proofs.Integers.{spread, triple_is, mul_assoc_z, mul_add_z}
use Rattle.std.proofs.Math.IntN.{*ℤ_comm, *ℤ-zero}
use Rattle.lt_model.proofs.Vectors.{dot-scale, dot_comm}
use Rattle.lt_model.proofs.Squares.{length-scale, length-plus}
use Rattle.lt_model.proofs.Excess.{dot-combine, same_from_dots, dot-nil, plus-dot, scale-dot}
use Rattle.lt_model.proofs.Walk.{length-combine, IsWeighted}
use Rattle.lt_model.proofs.Opposite.{length-zeros, zeros-dot}
use Rattle.lt_model.proofs.Expressions.{has_weighted, HasWeighted, total-plus, total-scale}
use Rattle.lt_model.specs.Vectors.{plus, scale, dot, total, combine, zeros}
use Rattle.lt_model.specs.Simplices.{AllOfDimension, IsSimplex}
use Rattle.lt_model.specs.Matrices.{identity}
use Rattle.lt_model.proofs.Flat.{longer_all}
use Rattle.lt_model.proofs.Differences.{total-none}
use Rattle.lt_model.proofs.Inequalities.{mul_pos_z}

-- b are the numbers of a combination of directions, times c
pub record IsDirection (vs gs : List (List ℤ)) (c : ℤ) (a b : List ℤ) : Type 0 where
  pub one_each : length b ≡ length vs
  pub sum : total b ≡ pos 0
  pub point : (u : List ℤ) → dot b (map (dot u) vs) ≡ c *ℤ dot a (map (dot u) gs)

pub record HasDirections (vs gs : List (List ℤ)) : Type 0 where
  pub c : ℤ
  pub positive : pos 0 <ℤ c
  pub b : List ℤ → List ℤ
  pub is : (a : List ℤ) → length a ≡ length gs → IsDirection vs gs c a (b a)

abbrev pub head_or : List ℤ → ℤ
head_or [] = pos 0
head_or (a ∷ x) = a

abbrev pub tail_or : List ℤ → List ℤ
tail_or [] = []
tail_or (a ∷ x) = x

step_end : (a k c g s : ℤ) → a *ℤ k *ℤ (c *ℤ g) +ℤ c *ℤ (k *ℤ s) ≡ c *ℤ k *ℤ (a *ℤ g +ℤ s)
step_end a k c g s =
    let e : a *ℤ k *ℤ (c *ℤ g) ≡ c *ℤ k *ℤ (a *ℤ g) =
    mul_assoc_z a k (c *ℤ g) ∙ ap (λ n. a *ℤ n) (sym (mul_assoc_z k c g) ∙ ap (λ n. n *ℤ g) (*ℤ_comm k c)) ∙ sym (mul_assoc_z a (c *ℤ k) g) ∙ ap (λ n. n *ℤ g) (*ℤ_comm a (c *ℤ k)) ∙ mul_assoc_z (c *ℤ k) a g
    in
    rw (e, ← mul_assoc_z c k s) (sym (mul_add_z (c *ℤ k) (a *ℤ g) s))

pub directions : (d : ℕ) (vs gs : List (List ℤ)) → IsSimplex d vs → AllOfDimension d gs → HasDirections vs gs
directions d vs [] s all = record {
  c = pos 1;
  positive = omega (arith, ints);
  b = λ a. zeros (length vs);
  is = λ a l. record {
    one_each = length-zeros (length vs);
    sum = total-none (length vs);
    point = λ u. zeros-dot (length vs) (map (dot u) vs) ∙ (omega (arith, ints, dot-nil a));
  };
}
directions d vs (g ∷ gs) s all =
    let h = directions d vs gs s all.1 in
    let w = has_weighted d vs (pos 0) g s all.0 in
    record {
      c = w.c *ℤ h.c;
      positive = mul_pos_z w.c h.c w.is.positive h.positive;
      b = λ a. plus (scale (head_or a *ℤ h.c) w.b) (scale w.c (h.b (tail_or a)));
      is = λ a l. more d vs g gs a h w l;
    }
  where
    more : (d : ℕ) (vs : List (List ℤ)) (g : List ℤ) (gs : List (List ℤ)) (a : List ℤ) (h : HasDirections vs gs) (w : HasWeighted vs (pos 0) g) → length a ≡ suc (length gs) →
        IsDirection vs (g ∷ gs) (w.c *ℤ h.c) a (plus (scale (head_or a *ℤ h.c) w.b) (scale w.c (h.b (tail_or a))))
    more d vs g gs [] h w l = absurd (omega arith)
    more d vs g gs (a ∷ rest_a) h w l =
        let k = h.is rest_a (omega arith) in
        record {
          one_each = length-plus (scale (a *ℤ h.c) w.b) (scale w.c (h.b rest_a)) (length-scale (a *ℤ h.c) w.b ∙ w.is.one_each ∙ sym (length-scale w.c (h.b rest_a) ∙ k.one_each)) ∙ length-scale (a *ℤ h.c) w.b ∙ w.is.one_each;
          sum = total-plus (scale (a *ℤ h.c) w.b) (scale w.c (h.b rest_a)) ∙ (rw (total-scale (a *ℤ h.c) w.b, total-scale w.c (h.b rest_a), k.sum, w.is.sum, *ℤ-zero w.c, *ℤ-zero (a *ℤ h.c)) refl);
          point = λ u. at u k;
        }
      where
        at : (u : List ℤ) → IsDirection vs gs h.c rest_a (h.b rest_a) → dot (plus (scale (a *ℤ h.c) w.b) (scale w.c (h.b rest_a))) (map (dot u) vs) ≡ w.c *ℤ h.c *ℤ (a *ℤ dot u g +ℤ dot rest_a (map (dot u) gs))
        at u k =
            let e1 : dot w.b (map (dot u) vs) ≡ w.c *ℤ dot u g = sym (dot-combine u w.b vs) ∙ ap (dot u) w.is.point ∙ dot-scale u w.c g in
            plus-dot (scale (a *ℤ h.c) w.b) (scale w.c (h.b rest_a)) (map (dot u) vs)
            ∙ (rw (scale-dot (a *ℤ h.c) w.b (map (dot u) vs), scale-dot w.c (h.b rest_a) (map (dot u) vs), e1, k.point u) (step_end a h.c w.c (dot u g) (dot rest_a (map (dot u) gs))))

identity_all : (d : ℕ) → AllOfDimension d (identity d)
identity_all zero = tt
identity_all (suc d) = (ap suc (length-zeros d), longer_all d (identity d) (identity_all d))

length-padded : (vs : List (List ℤ)) → length (map (λ v. let w : List ℤ = pos 0 ∷ v in w) vs) ≡ length vs
length-padded [] = refl
length-padded (v ∷ vs) = ap suc (length-padded vs)

pub length-identity : (d : ℕ) → length (identity d) ≡ d
length-identity zero = refl
length-identity (suc d) = ap suc (length-padded (identity d) ∙ length-identity d)

none_there : (x : List ℤ) (vs : List (List ℤ)) → dot x (map (dot []) vs) ≡ pos 0
none_there [] vs = refl
none_there (a ∷ x) [] = refl
none_there (a ∷ x) (v ∷ vs) = omega (arith, ints, none_there x vs)

below_padding : (z : ℤ) (u : List ℤ) (vs : List (List ℤ)) → map (dot (z ∷ u)) (map (λ v. pos 0 ∷ v) vs) ≡ map (dot u) vs
below_padding z u [] = refl
below_padding z u (v ∷ vs) =
    let e : z *ℤ pos 0 +ℤ dot u v ≡ dot u v = omega (arith, ints) in
    rw (below_padding z u vs, e) refl

pub at_units : (d : ℕ) (u x : List ℤ) → length x ≡ d → dot x (map (dot u) (identity d)) ≡ dot u x
at_units zero u [] l = sym (dot-nil u)
at_units zero u (a ∷ x) l = absurd (omega arith)
at_units (suc d) u [] l = absurd (omega arith)
at_units (suc d) [] (a ∷ x) l = none_there (a ∷ x) (identity (suc d))
at_units (suc d) (z ∷ u) (a ∷ x) l =
    let e1 : dot u (zeros d) ≡ pos 0 = dot_comm u (zeros d) ∙ zeros-dot d u in
    let e2 : z *ℤ pos 1 +ℤ dot u (zeros d) ≡ z = omega (arith, ints, e1) in
    rw (e2, below_padding z u (identity d), at_units d u x (omega arith)) (omega (arith, ints))

-- one scale serves all points
pub record HasUniform (d : ℕ) (vs : List (List ℤ)) : Type 0 where
  pub c : ℤ
  pub positive : pos 0 <ℤ c
  pub b : ℤ → List ℤ → List ℤ
  pub is : (m : ℤ) (x : List ℤ) → length x ≡ d → IsWeighted vs m x c (b m x)

pub uniform : (d : ℕ) (vs : List (List ℤ)) → IsSimplex d vs → HasUniform d vs
uniform d vs s =
    let h = directions d vs (identity d) s (identity_all d) in
    let w = has_weighted d vs (pos 1) (zeros d) s (length-zeros d) in
    record {
      c = w.c *ℤ h.c;
      positive = mul_pos_z w.c h.c w.is.positive h.positive;
      b = λ m x. plus (scale (m *ℤ h.c) w.b) (scale w.c (h.b x));
      is = λ m x l. make d vs s h w m x l;
    }
  where
    make : (d : ℕ) (vs : List (List ℤ)) → IsSimplex d vs → (h : HasDirections vs (identity d)) (w : HasWeighted vs (pos 1) (zeros d)) (m : ℤ) (x : List ℤ) → length x ≡ d →
        IsWeighted vs m x (w.c *ℤ h.c) (plus (scale (m *ℤ h.c) w.b) (scale w.c (h.b x)))
    make d vs s h w m x l =
        let k = h.is x (l ∙ sym (length-identity d)) in
        let b : List ℤ = plus (scale (m *ℤ h.c) w.b) (scale w.c (h.b x)) in
        let count : length b ≡ length vs = length-plus (scale (m *ℤ h.c) w.b) (scale w.c (h.b x)) (length-scale (m *ℤ h.c) w.b ∙ w.is.one_each ∙ sym (length-scale w.c (h.b x) ∙ k.one_each)) ∙ length-scale (m *ℤ h.c) w.b ∙ w.is.one_each in
        record {
          positive = mul_pos_z w.c h.c w.is.positive h.positive;
          one_each = count;
          point = same_from_dots (combine b vs) (scale (w.c *ℤ h.c) x) (length-combine d b vs s.points count (omega (arith, s.count)) ∙ sym l ∙ sym (length-scale (w.c *ℤ h.c) x)) (λ u. at u k);
          sum = total-plus (scale (m *ℤ h.c) w.b) (scale w.c (h.b x)) ∙ (rw (total-scale (m *ℤ h.c) w.b, total-scale w.c (h.b x), k.sum, w.is.sum) (sum_end m h.c w.c));
        }
      where
        sum_end : (m k c : ℤ) → m *ℤ k *ℤ (c *ℤ pos 1) +ℤ c *ℤ pos 0 ≡ c *ℤ k *ℤ m
        sum_end m k c =
            let e1 : c *ℤ pos 1 ≡ c = omega (arith, ints) in
            rw e1 (simp spread (omega (arith, ints, triple_is)))

        end : (a c k y : ℤ) → a *ℤ (c *ℤ pos 0) +ℤ c *ℤ (k *ℤ y) ≡ c *ℤ k *ℤ y
        end a c k y = rw (*ℤ-zero c, *ℤ-zero a) (simp spread (omega (arith, ints)))

        at : (u : List ℤ) → IsDirection vs (identity d) h.c x (h.b x) → dot u (combine (plus (scale (m *ℤ h.c) w.b) (scale w.c (h.b x))) vs) ≡ dot u (scale (w.c *ℤ h.c) x)
        at u k =
            let e1 : dot w.b (map (dot u) vs) ≡ w.c *ℤ dot u (zeros d) = sym (dot-combine u w.b vs) ∙ ap (dot u) w.is.point ∙ dot-scale u w.c (zeros d) in
            let e2 : dot u (zeros d) ≡ pos 0 = dot_comm u (zeros d) ∙ zeros-dot d u in
            let e3 : dot (h.b x) (map (dot u) vs) ≡ h.c *ℤ dot u x = k.point u ∙ ap (λ n. h.c *ℤ n) (at_units d u x l) in
            dot-combine u (plus (scale (m *ℤ h.c) w.b) (scale w.c (h.b x))) vs ∙ plus-dot (scale (m *ℤ h.c) w.b) (scale w.c (h.b x)) (map (dot u) vs)
            ∙ (rw (scale-dot (m *ℤ h.c) w.b (map (dot u) vs), scale-dot w.c (h.b x) (map (dot u) vs), e1, e2, e3, dot-scale u (w.c *ℤ h.c) x) (end (m *ℤ h.c) w.c h.c (dot u x)))
