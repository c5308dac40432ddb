-- A point and the vertices of a simplex but one, whose number in an expression of the point isn't 0, are independent.
use Rattle.std.proofs.Common.{◌≡◌, ◌≢◌, ℕ, zero, suc, ℤ, pos, ◌+ℤ◌, ◌*ℤ◌, ◌<◌, refl, ap, ap₂, arith, sym, ◌∙◌, List, [], ◌∷◌, length, map}
use Rattle.std.proofs.lemmas.Int.{ints}
use Rattle.lt_model.proofs.Ring.{ring, var, num, ◌⊕◌, ◌⊗◌}
use Rattle.lt_model.proofs.Inequalities.{cancel_nonzero_z}
use Rattle.lt_model.proofs.Squares.{length-scale, length-plus}
use Rattle.lt_model.proofs.Vectors.{dot-scale, dot_comm}
use Rattle.lt_model.proofs.Excess.{dot-combine, dot-constant, same_from_dots, plus-dot, scale-dot}
use Rattle.lt_model.proofs.Walk.{dot-without, without-map, number_at-plus, number_at-scale, without-with_at, number_at-with_at, length-with_at, length-without, length-combine, length-map}
use Rattle.lt_model.proofs.Opposite.{length-zeros, zeros-dot}
use Rattle.lt_model.proofs.Expressions.{number_at-zeros, total-plus, total-scale}
use Rattle.lt_model.specs.Vectors.{plus, scale, dot, total, combine, zeros}
use Rattle.lt_model.specs.Simplices.{AreIndependent, IsSimplex, IsExpression}
use Rattle.lt_model.specs.Facets.{without, with_at, number_at}
use Rattle.lt_model.proofs.Dependent.{all_without}
use Rattle.lt_triang.specs.Flat.{IsFlat, leading}
use Rattle.lt_triang.proofs.Signs.{leading_primitive}

without-zeros : (k n : ℕ) → k < suc n → without k (zeros (suc n)) ≡ zeros n
without-zeros zero n h = refl
without-zeros (suc k) zero h = absurd (omega arith)
without-zeros (suc k) (suc n) h = ap (λ (l : List ℤ). pos 0 ∷ l) (without-zeros k n (omega arith))

-- numbers with a 0 more
filled : (g : List ℤ → ℤ) (k : ℕ) (r : List ℤ) (vs : List (List ℤ)) → k < length vs → suc (length r) ≡ length vs → dot (with_at k (pos 0) r) (map g vs) ≡ dot r (map g (without k vs))
filled g k r vs hk l =
    let lz : length (with_at k (pos 0) r) ≡ length (map g vs) = length-with_at k (pos 0) r ∙ l ∙ sym (length-map g vs) in
    dot-without k (with_at k (pos 0) r) (map g vs) lz
    ∙ ap₂ (λ (x : ℤ) (z : ℤ). x *ℤ number_at k (map g vs) +ℤ z) (number_at-with_at k (pos 0) r (omega (arith, l))) (ap₂ dot (without-with_at k (pos 0) r (omega (arith, l))) (without-map g k vs))
    ∙ ring (number_at k (map g vs) ∷ dot r (map g (without k vs)) ∷ []) (num (pos 0) ⊗ var 0 ⊕ var 1) (var 1) tt

same_total : (k : ℕ) (r : List ℤ) (vs : List (List ℤ)) → k < length vs → suc (length r) ≡ length vs → total (with_at k (pos 0) r) ≡ total r
same_total k r vs hk l =
    let short = length-without k vs hk in
    let a = dot-constant (with_at k (pos 0) r) (pos 1) vs (length-with_at k (pos 0) r ∙ l) in
    let b = dot-constant r (pos 1) (without k vs) (omega (arith, short, l)) in
    let e = filled (λ v. pos 1) k r vs hk l in
    omega (arith, ints, a, b, e)

exchanged_independent : (d : ℕ) (vs : List (List ℤ)) (w : List ℤ) (c : ℤ) (b : List ℤ) (k : ℕ) → IsSimplex d vs → length w ≡ d → IsExpression vs w c b → k < length vs → number_at k b ≢ pos 0 → AreIndependent d (w ∷ without k vs)
exchanged_independent d vs w c b k s lw e hk nz [] lg tg pg = absurd (omega arith)
exchanged_independent d vs w c b k s lw e hk nz (x ∷ r) lg tg pg =
    let short = length-without k vs hk in
    let lr : suc (length r) ≡ length vs = omega (arith, short, lg) in
    let x_zero : x ≡ pos 0 = cancel_nonzero_z (number_at k b) x (pos 0) nz (first lr ∙ ring (number_at k b ∷ []) (num (pos 0)) (var 0 ⊗ num (pos 0)) tt) in
    let r_zero : r ≡ zeros (length r) = rest lr x_zero in
    let n : length r ≡ length (without k vs) = omega (arith, lg) in
    ap₂ (λ (y : ℤ) (l : List ℤ). y ∷ l) x_zero (r_zero ∙ ap zeros n)
  where
    z : List ℤ
    z = with_at k (pos 0) r

    -- the sum over the exchanged points
    sum_at : (u : List ℤ) → x *ℤ dot u w +ℤ dot r (map (dot u) (without k vs)) ≡ pos 0
    sum_at u = sym (dot-combine u (x ∷ r) (w ∷ without k vs)) ∙ ap (dot u) pg ∙ dot_comm u (zeros d) ∙ zeros-dot d u

    -- the numbers of c times the sum over the vertices
    first : suc (length r) ≡ length vs → number_at k b *ℤ x ≡ pos 0
    first lr =
        let a : List ℤ = plus (scale x b) (scale c z) in
        let lz : length z ≡ length vs = length-with_at k (pos 0) r ∙ lr in
        let la : length a ≡ length vs = length-plus (scale x b) (scale c z) (length-scale x b ∙ e.one_each ∙ sym (length-scale c z ∙ lz)) ∙ length-scale x b ∙ e.one_each in
        let t : total a ≡ pos 0 = total-plus (scale x b) (scale c z) ∙ ap₂ (λ (m n : ℤ). m +ℤ n) (total-scale x b ∙ ap (λ m. x *ℤ m) e.sum) (total-scale c z ∙ ap (λ m. c *ℤ m) (same_total k r vs hk lr)) ∙ total_end (total r) tg in
        let p : combine a vs ≡ zeros d = same_from_dots (combine a vs) (zeros d) (length-combine d a vs s.points la (omega (arith, s.count)) ∙ sym (length-zeros d)) (λ u. at u lr) in
        let none : a ≡ zeros (length vs) = s.independent a la t p in
        let at_k : x *ℤ number_at k b +ℤ c *ℤ pos 0 ≡ pos 0 =
        sym (number_at-plus k (scale x b) (scale c z) ∙ ap₂ (λ (m n : ℤ). m +ℤ n) (number_at-scale k x b) (number_at-scale k c z ∙ ap (λ m. c *ℤ m) (number_at-with_at k (pos 0) r (omega (arith, lr)))))
        ∙ ap (number_at k) none ∙ number_at-zeros (length vs) k
        in
        ring (x ∷ number_at k b ∷ c ∷ []) (var 1 ⊗ var 0) (var 0 ⊗ var 1 ⊕ var 2 ⊗ num (pos 0)) tt ∙ at_k
      where
        total_end : (t : ℤ) → x +ℤ t ≡ pos 0 → x *ℤ c +ℤ c *ℤ t ≡ pos 0
        total_end t h = ring (x ∷ c ∷ t ∷ []) (var 0 ⊗ var 1 ⊕ var 1 ⊗ var 2) (var 1 ⊗ (var 0 ⊕ var 2)) tt ∙ ap (λ m. c *ℤ m) h ∙ ring (c ∷ []) (var 0 ⊗ num (pos 0)) (num (pos 0)) tt

        at : (u : List ℤ) → suc (length r) ≡ length vs → dot u (combine (plus (scale x b) (scale c z)) vs) ≡ dot u (zeros d)
        at u lr =
            dot-combine u (plus (scale x b) (scale c z)) vs ∙ plus-dot (scale x b) (scale c z) (map (dot u) vs)
            ∙ ap₂ (λ (m n : ℤ). m +ℤ n) (scale-dot x b (map (dot u) vs) ∙ ap (λ m. x *ℤ m) (sym (dot-combine u b vs) ∙ ap (dot u) e.point ∙ dot-scale u c w)) (scale-dot c z (map (dot u) vs) ∙ ap (λ m. c *ℤ m) (filled (dot u) k r vs hk lr))
            ∙ ring (x ∷ c ∷ dot u w ∷ dot r (map (dot u) (without k vs)) ∷ []) (var 0 ⊗ (var 1 ⊗ var 2) ⊕ var 1 ⊗ var 3) (var 1 ⊗ (var 0 ⊗ var 2 ⊕ var 3)) tt
            ∙ ap (λ m. c *ℤ m) (sum_at u) ∙ ring (c ∷ []) (var 0 ⊗ num (pos 0)) (num (pos 0)) tt ∙ sym (dot_comm u (zeros d) ∙ zeros-dot d u)

    rest : suc (length r) ≡ length vs → x ≡ pos 0 → r ≡ zeros (length r)
    rest lr x0 =
        let lz : length z ≡ length vs = length-with_at k (pos 0) r ∙ lr in
        let t : total z ≡ pos 0 = same_total k r vs hk lr ∙ (omega (arith, ints, tg, x0)) in
        let p : combine z vs ≡ zeros d = same_from_dots (combine z vs) (zeros d) (length-combine d z vs s.points lz (omega (arith, s.count)) ∙ sym (length-zeros d))
        (λ u. dot-combine u z vs ∙ filled (dot u) k r vs hk lr ∙ left u ∙ sym (dot_comm u (zeros d) ∙ zeros-dot d u))
        in
        let none : z ≡ zeros (length vs) = s.independent z lz t p in
        sym (without-with_at k (pos 0) r (omega (arith, lr))) ∙ ap (without k) (none ∙ ap zeros (sym lr)) ∙ without-zeros k (length r) (omega (arith, lr))
      where
        left : (u : List ℤ) → dot r (map (dot u) (without k vs)) ≡ pos 0
        left u = let f : x *ℤ dot u w ≡ pos 0 = ap (λ m. m *ℤ dot u w) x0 ∙ ring (dot u w ∷ []) (num (pos 0) ⊗ var 0) (num (pos 0)) tt in omega (arith, ints, sum_at u, f)

pub exchanged_simplex : (d : ℕ) (vs : List (List ℤ)) (w : List ℤ) (c : ℤ) (b : List ℤ) (k : ℕ) → IsSimplex d vs → length w ≡ d → IsExpression vs w c b → k < suc d → number_at k b ≢ pos 0 → IsSimplex d (without (suc k) (w ∷ vs))
exchanged_simplex d vs w c b k s lw e hk nz =
    let short = length-without k vs (omega (arith, hk, s.count)) in
    record {
      count = omega (arith, short, s.count);
      points = (lw, all_without (λ v. length v ≡ d) k vs s.points);
      independent = exchanged_independent d vs w c b k s lw e (omega (arith, hk, s.count)) nz;
    }

-- independent points aren't flat
pub not_flat : (d : ℕ) (ps : List (List ℤ)) (terms : List ℤ) → IsSimplex d ps → IsFlat d ps terms → ⊥
not_flat d ps terms s f =
    let e : terms ≡ zeros (length ps) = s.independent terms f.one_each f.total_is f.sum in
    leading_primitive terms f.primitive (ap leading e ∙ leading-zeros (length ps))
  where
    leading-zeros : (n : ℕ) → leading (zeros n) ≡ pos 0
    leading-zeros zero = refl
    leading-zeros (suc n) = leading-zeros n
