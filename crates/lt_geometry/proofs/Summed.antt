-- The height of a sum of points over a strictly empty simplex is at most the sum of their values.
use Rattle.std.proofs.Common.{◌≡◌, ℕ, ℤ, pos, ◌+ℤ◌, ◌-ℤ◌, ◌*ℤ◌, ◌<ℤ◌, ◌≤ℤ◌, refl, ap, arith, sym, ◌∙◌, List, [], ◌∷◌, length, map, inl, inr}
use Rattle.std.proofs.lemmas.Int.{ints}
use Rattle.std.specs.List.{AllByRecursion}
use Rattle.lt_model.proofs.Integers.{spread, triple_is}
use Rattle.std.proofs.Math.IntN.{*ℤ-zero}
use Rattle.lt_model.proofs.Vectors.{dot-scale}
use Rattle.lt_model.proofs.Squares.{length-scale, length-plus}
use Rattle.lt_model.proofs.Excess.{dot-combine, plus-dot, scale-dot}
use Rattle.lt_model.proofs.Dependent.{zero_or_not, mul-not_zero}
use Rattle.lt_model.proofs.Opposite.{length-zeros, zeros-dot}
use Rattle.lt_model.proofs.Expressions.{total-plus, total-scale}
use Rattle.lt_model.specs.Vectors.{plus, scale, dot, total, zeros}
use Rattle.lt_model.specs.Forms.{value}
use Rattle.lt_model.specs.Simplices.{AllOfDimension, IsExpression, excess}
use Rattle.lt_model.proofs.Differences.{total-none}
use Rattle.lt_model.proofs.Inequalities.{mul_nonneg_z}

-- a point with its numbers over vs, all with the scale c
pub record HasEach (d : ℕ) (vs : List (List ℤ)) (c : ℤ) : Type 0 where
  pub b : (x : List ℤ) → length x ≡ d → List ℤ
  pub is : (x : List ℤ) (l : length x ≡ d) → IsExpression vs x c (b x l)

-- the point has the excess 0 over vs, by some expression
pub record IsOn (q : List ℤ) (vs : List (List ℤ)) (x : List ℤ) : Type 0 where
  pub c : ℤ
  pub b : List ℤ
  pub expression : IsExpression vs x c b
  pub zero : excess q vs x c b ≡ pos 0

-- no excess over vs is negative
abbrev pub IsWeaklyEmpty : ℕ → List ℤ → List (List ℤ) → Type 0
IsWeaklyEmpty d q vs = (x : List ℤ) (c : ℤ) (b : List ℤ) → length x ≡ d → IsExpression vs x c b → pos 0 ≤ℤ excess q vs x c b

-- with weights a that are not negative, the numbers of the sum of the a_k u_k over vs, and its height there
pub record IsSummed (d : ℕ) (q : List ℤ) (vs : List (List ℤ)) (c : ℤ) (a : List ℤ) (us : List (List ℤ)) (bs : List ℤ) : Type 0 where
  pub one_each : length bs ≡ length vs
  pub sum : total bs ≡ c *ℤ total a
  pub point : (u : List ℤ) → dot bs (map (dot u) vs) ≡ c *ℤ dot a (map (dot u) us)
  pub low : dot bs (map (value q) vs) ≤ℤ (c *ℤ dot a (map (value q) us))
  pub tight : AllByRecursion (λ z. pos 0 <ℤ z) a → dot bs (map (value q) vs) ≡ c *ℤ dot a (map (value q) us) → AllByRecursion (λ u. IsOn q vs u) us

pub record HasSummed (d : ℕ) (q : List ℤ) (vs : List (List ℤ)) (c : ℤ) (a : List ℤ) (us : List (List ℤ)) : Type 0 where
  pub bs : List ℤ
  pub is : IsSummed d q vs c a us bs

low_end : (a c v h r g : ℤ) → pos 0 ≤ℤ (a *ℤ (c *ℤ v -ℤ h)) → g ≤ℤ (c *ℤ r) → (a *ℤ h +ℤ g) ≤ℤ (c *ℤ (a *ℤ v +ℤ r))
low_end a c v h r g p l =
    let e1 : a *ℤ (c *ℤ v -ℤ h) ≡ a *ℤ (c *ℤ v) -ℤ a *ℤ h = simp spread refl in
    let e2 : c *ℤ (a *ℤ v +ℤ r) ≡ a *ℤ (c *ℤ v) +ℤ c *ℤ r = simp spread (omega (arith, ints, triple_is)) in
    omega (arith, ints, e1, e2, p, l)

tight_end : (a c v h r g : ℤ) → pos 0 ≤ℤ (a *ℤ (c *ℤ v -ℤ h)) → g ≤ℤ (c *ℤ r) → a *ℤ h +ℤ g ≡ c *ℤ (a *ℤ v +ℤ r) → (g ≡ c *ℤ r) × (a *ℤ (c *ℤ v -ℤ h) ≡ pos 0)
tight_end a c v h r g p l t =
    let e1 : a *ℤ (c *ℤ v -ℤ h) ≡ a *ℤ (c *ℤ v) -ℤ a *ℤ h = simp spread refl in
    let e2 : c *ℤ (a *ℤ v +ℤ r) ≡ a *ℤ (c *ℤ v) +ℤ c *ℤ r = simp spread (omega (arith, ints, triple_is)) in
    (omega (arith, ints, e1, e2, p, l, t), omega (arith, ints, e1, e2, p, l, t))

zero_factor : (a x : ℤ) → pos 0 <ℤ a → a *ℤ x ≡ pos 0 → x ≡ pos 0
zero_factor a x h e = elim (zero_or_not x) [ inl z ↦ z | inr n ↦ absurd (mul-not_zero a x (λ z. omega (arith, ints, h, z)) n e) ]

pub summed : (d : ℕ) (q : List ℤ) (vs : List (List ℤ)) (c : ℤ) (k : HasEach d vs c) (a : List ℤ) (us : List (List ℤ)) → IsWeaklyEmpty d q vs → AllOfDimension d us → AllByRecursion (λ z. pos 0 ≤ℤ z) a → length a ≡ length us →
    HasSummed d q vs c a us
summed d q vs c k [] [] e all nn l = record {
  bs = zeros (length vs);
  is = record {
    one_each = length-zeros (length vs);
    sum = total-none (length vs) ∙ sym (*ℤ-zero c);
    point = λ u. zeros-dot (length vs) (map (dot u) vs) ∙ sym (*ℤ-zero c);
    low = omega (arith, ints, zeros-dot (length vs) (map (value q) vs), *ℤ-zero c);
    tight = λ p t. tt;
  };
}
summed d q vs c k [] (u ∷ us) e all nn l = absurd (omega arith)
summed d q vs c k (a ∷ a') [] e all nn l = absurd (omega arith)
summed d q vs c k (a ∷ a') (v ∷ us) e all nn l =
    let h = summed d q vs c k a' us e all.1 nn.1 (omega arith) in
    let b : List ℤ = k.b v all.0 in
    let x : IsExpression vs v c b = k.is v all.0 in
    record {
      bs = plus (scale a b) h.bs;
      is = record {
        one_each = length-plus (scale a b) h.bs (length-scale a b ∙ x.one_each ∙ sym h.is.one_each) ∙ length-scale a b ∙ x.one_each;
        sum = total-plus (scale a b) h.bs ∙ (rw (total-scale a b, x.sum, h.is.sum) (sum_end a c (total a')));
        point = λ u. at u b h.bs x (h.is.point u);
        low = rw (plus-dot (scale a b) h.bs (map (value q) vs), scale-dot a b (map (value q) vs)) (low_end a c (value q v) (dot b (map (value q) vs)) (dot a' (map (value q) us)) (dot h.bs (map (value q) vs)) (mul_nonneg_z a (excess q vs v c b) nn.0 (e v c b all.0 x)) h.is.low);
        tight = λ p t. tight a' us b h.bs h.is x p t all.0;
      };
    }
  where
    tight : (a' : List ℤ) (us : List (List ℤ)) (b r : List ℤ) → IsSummed d q vs c a' us r → IsExpression vs v c b → AllByRecursion (λ z. pos 0 <ℤ z) (a ∷ a') → dot (plus (scale a b) r) (map (value q) vs) ≡ c *ℤ (a *ℤ value q v +ℤ dot a' (map (value q) us)) → length v ≡ d →
        AllByRecursion (λ u. IsOn q vs u) (v ∷ us)
    tight a' us b r h x p t lv =
        let t2 : a *ℤ dot b (map (value q) vs) +ℤ dot r (map (value q) vs) ≡ c *ℤ (a *ℤ value q v +ℤ dot a' (map (value q) us)) =
        sym (plus-dot (scale a b) r (map (value q) vs) ∙ ap (λ n. n +ℤ dot r (map (value q) vs)) (scale-dot a b (map (value q) vs))) ∙ t
        in
        let pos_a : pos 0 ≤ℤ a = omega (arith, ints, p.0) in
        let both = tight_end a c (value q v) (dot b (map (value q) vs)) (dot a' (map (value q) us)) (dot r (map (value q) vs)) (mul_nonneg_z a (excess q vs v c b) pos_a (e v c b lv x)) h.low t2 in
        (record { c = c; b = b; expression = x; zero = zero_factor a (excess q vs v c b) p.0 both.1 }, h.tight p.1 both.0)

    sum_end : (a c t : ℤ) → a *ℤ c +ℤ c *ℤ t ≡ c *ℤ (a +ℤ t)
    sum_end a c t = simp spread (omega (arith, ints))

    at : (u b r : List ℤ) → IsExpression vs v c b → dot r (map (dot u) vs) ≡ c *ℤ dot a' (map (dot u) us) → dot (plus (scale a b) r) (map (dot u) vs) ≡ c *ℤ (a *ℤ dot u v +ℤ dot a' (map (dot u) us))
    at u b r x h =
        let e1 : dot b (map (dot u) vs) ≡ c *ℤ dot u v = sym (dot-combine u b vs) ∙ ap (dot u) x.point ∙ dot-scale u c v in
        plus-dot (scale a b) r (map (dot u) vs) ∙ (rw (scale-dot a b (map (dot u) vs), e1, h) (point_end a c (dot u v) (dot a' (map (dot u) us))))
      where
        point_end : (a c v r : ℤ) → a *ℤ (c *ℤ v) +ℤ c *ℤ r ≡ c *ℤ (a *ℤ v +ℤ r)
        point_end a c v r = simp spread (omega (arith, ints, triple_is))
