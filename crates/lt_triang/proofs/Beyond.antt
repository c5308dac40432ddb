-- On which side of a facet a point lies, by the numbers of a solution.
use Rattle.std.proofs.Common.{◌≡◌, ℕ, zero, suc, ℤ, pos, neg_ℤ, ◌+ℤ◌, ◌-ℤ◌, ◌*ℤ◌, ◌<ℤ◌, ◌≤ℤ◌, refl, ap, arith, sym, ◌∙◌, List, [], ◌∷◌, length, drop}
use Rattle.std.proofs.lemmas.Int.{ints, by_lt_z}
use Rattle.lt_model.proofs.Integers.{mul_neg_z}
use Rattle.lt_model.proofs.Vectors.{dot_comm, dot-plus, dot-scale}
use Rattle.lt_model.proofs.Squares.{length-scale}
use Rattle.lt_model.proofs.Excess.{same_from_dots}
use Rattle.lt_model.proofs.Walk.{length-combine, number_at-scale}
use Rattle.lt_model.proofs.Inequalities.{mul_nonneg_z, mul_pos_z}
use Rattle.lt_model.proofs.Opposite.{length-zeros, zeros-dot}
use Rattle.lt_model.proofs.Expressions.{one_expression}
use Rattle.lt_model.specs.Facets.{number_at, IsBeyond}
use Rattle.lt_model.specs.Vectors.{scale, dot, total, combine, zeros}
use Rattle.lt_model.specs.Simplices.{IsClass, IsExpression}
use Rattle.lt_model.proofs.Points.{weighted}
use Rattle.lt_solve.specs.Systems.{IsSolution, IsColumnDependency}
use Rattle.lt_triang.specs.Flat.{leading}
use Rattle.lt_triang.proofs.Signs.{leading_primitive}

-- the numbers of the expression over a class, whose first vertex is 0
abbrev pub numbers_of : ℤ → List ℤ → List ℤ
numbers_of den nums = (den -ℤ total nums) ∷ nums

pub expression_of : (d : ℕ) (s : List (List ℤ)) (w : List ℤ) (den : ℤ) (nums : List ℤ) → IsClass d s → length w ≡ d → IsSolution (drop 1 s) w den nums → IsExpression s w den (numbers_of den nums)
expression_of d [] w den nums k lw h = absurd (omega (arith, k.simplex.count))
expression_of d (v ∷ vs) w den nums k lw h =
    let l : length (numbers_of den nums) ≡ length (v ∷ vs) = ap suc h.one_each in
    record {
      positive = h.positive;
      one_each = l;
      point = same_from_dots (combine (numbers_of den nums) (v ∷ vs)) (scale den w) (length-combine d (numbers_of den nums) (v ∷ vs) k.simplex.points l (omega arith) ∙ sym (length-scale den w ∙ lw)) at;
      sum = omega (arith, ints);
    }
  where
    at : (u : List ℤ) → dot u (combine (numbers_of den nums) (v ∷ vs)) ≡ dot u (scale den w)
    at u =
        let z : dot u v ≡ pos 0 = ap (dot u) k.first ∙ dot_comm u (zeros d) ∙ zeros-dot d u in
        let e : dot u (combine nums vs) ≡ dot u (scale den w) = ap (dot u) h.sum in
        dot-plus u (scale (den -ℤ total nums) v) (combine nums vs) ∙ (rw (dot-scale u (den -ℤ total nums) v, z, e) (end (den -ℤ total nums) (dot u (scale den w))))
      where
        end : (a x : ℤ) → a *ℤ pos 0 +ℤ x ≡ x
        end a x = omega (arith, ints)

pub negative_from : (d : ℕ) (s : List (List ℤ)) (i : ℕ) (w : List ℤ) (c : ℤ) (b : List ℤ) → IsClass d s → IsExpression s w c b → IsBeyond s i w → number_at i b <ℤ pos 0
negative_from d s i w c b k e n =
    let same : scale n.scale b ≡ scale c n.coefficients = one_expression d s (pos 1) w b n.coefficients c n.scale k.simplex (weighted s w c b e) (weighted s w n.scale n.coefficients n.expression) in
    let at : n.scale *ℤ number_at i b ≡ c *ℤ number_at i n.coefficients = sym (number_at-scale i n.scale b) ∙ ap (number_at i) same ∙ number_at-scale i c n.coefficients in
    negative n.scale c (number_at i b) (number_at i n.coefficients) n.expression.positive e.positive n.negative at
  where
    negative : (c e a b : ℤ) → pos 0 <ℤ c → pos 0 <ℤ e → b <ℤ pos 0 → c *ℤ a ≡ e *ℤ b → a <ℤ pos 0
    negative c e a b pc pe nb eq =
        let n : pos 0 <ℤ neg_ℤ b = omega (arith, ints) in
        let z : pos 0 <ℤ (e *ℤ neg_ℤ b) = mul_pos_z e (neg_ℤ b) pe n in
        by_lt_z a (pos 0) (λ l. l) (λ l.
        let q : pos 0 ≤ℤ (c *ℤ a) = mul_nonneg_z c a (omega (arith, ints)) l in
        absurd (omega (arith, ints, z, q, eq, mul_neg_z e b)))

pub no_dependency : (d : ℕ) (s : List (List ℤ)) (b : List ℤ) → IsClass d s → IsColumnDependency (drop 1 s) b → ⊥
no_dependency d [] b k h = absurd (omega (arith, k.simplex.count))
no_dependency d (v ∷ vs) b k h =
    let a : List ℤ = neg_ℤ (total b) ∷ b in
    let l : length a ≡ length (v ∷ vs) = ap suc h.one_each in
    let t : total a ≡ pos 0 = omega (arith, ints) in
    let c : combine a (v ∷ vs) ≡ zeros d = same_from_dots (combine a (v ∷ vs)) (zeros d) (length-combine d a (v ∷ vs) k.simplex.points l (omega arith) ∙ sym (length-zeros d)) at in
    let z : a ≡ zeros (length (v ∷ vs)) = k.simplex.independent a l t c in
    let zb : b ≡ zeros (length vs) = cc in
    leading_primitive b h.primitive (ap leading zb ∙ none (length vs))
  where
    none : (n : ℕ) → leading (zeros n) ≡ pos 0
    none zero = refl
    none (suc n) = none n

    at : (u : List ℤ) → dot u (combine (neg_ℤ (total b) ∷ b) (v ∷ vs)) ≡ dot u (zeros d)
    at u =
        let z : dot u v ≡ pos 0 = ap (dot u) k.first ∙ dot_comm u (zeros d) ∙ zeros-dot d u in
        let count : length vs ≡ d = omega (arith, k.simplex.count) in
        let e : dot u (combine b vs) ≡ dot u (zeros d) = ap (dot u) (h.sum ∙ ap zeros count) in
        dot-plus u (scale (neg_ℤ (total b)) v) (combine b vs) ∙ (rw (dot-scale u (neg_ℤ (total b)) v, z, e) (end (neg_ℤ (total b)) (dot u (zeros d))))
      where
        end : (a x : ℤ) → a *ℤ pos 0 +ℤ x ≡ x
        end a x = omega (arith, ints)
