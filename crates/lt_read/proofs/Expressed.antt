-- Vectors with a volume, by which each vector is expressed: the product of a list of numbers with that vector is at most so much, where
-- its products with those vectors and the volumes are.
use Rattle.std.proofs.Common.{◌≡◌, ◌≢◌, ℕ, zero, suc, ℤ, pos, neg_ℤ, nat_abs, ◌+ℤ◌, ◌*ℤ◌, ◌*◌, ◌<◌, ◌≤◌, inl, inr, sym, ap, ◌∙◌, subst, arith, List, [], ◌∷◌, map, length, get_or, set, mul-le-mul}
use Rattle.std.specs.List.{All}
use Rattle.std.proofs.lemmas.Int.{ints, unsigned_abs-mul}
use Rattle.std.proofs.lemmas.List.{length-map, get_or-map}
use Rattle.std.proofs.lemmas.List.Elements.{recursion_from_All, All-head, All-tail, All-from_get_or}
use Rattle.std.proofs.Math.Nat.{le_of_mul-le-mul_left}
use Rattle.lt_model.specs.Exterior.{volume}
use Rattle.lt_model.specs.Facets.{number_at}
use Rattle.lt_model.specs.Simplices.{AllOfDimension}
use Rattle.lt_model.specs.Vectors.{combine, scale, dot}
use Rattle.lt_model.proofs.Cramer.{cramer, volume_scale}
use Rattle.lt_model.proofs.Dependent.{dependent, IsDependency, zero_or_not, mul-not_zero}
use Rattle.lt_model.proofs.Excess.{dot-combine, same_from_dots}
use Rattle.lt_model.proofs.Integers.{spread}
use Rattle.lt_model.proofs.Squares.{length-scale}
use Rattle.lt_model.proofs.Vectors.{dot-scale}
use Rattle.lt_model.proofs.Walk.{length-combine}
use Rattle.lt_lattice.specs.Ranges.{IsWithin}
use Rattle.lt_lattice.proofs.Dots.{product_within}
use Rattle.lt_read.proofs.Volumes.{IsFilled}

-- a sum of products of numbers that are at most m and n
pub dot_most : (m n : ℕ) (a b : List ℤ) → All (IsWithin m) a → All (IsWithin n) b → nat_abs (dot a b) ≤ length a * (m * n)
dot_most m n [] b ha hb = omega arith
dot_most m n (x ∷ a) [] ha hb = omega arith
dot_most m n (x ∷ a) (y ∷ b) ha hb =
    let p = product_within x y m n (All-head (IsWithin m) x a ha) (All-head (IsWithin n) y b hb) in
    let r = dot_most m n a b (All-tail (IsWithin m) x a ha) (All-tail (IsWithin n) y b hb) in
    sum (x *ℤ y) (dot a b) (m * n) (length a) p r
  where
    sum : (u v : ℤ) (p l : ℕ) → nat_abs u ≤ p → nat_abs v ≤ l * p → nat_abs (u +ℤ v) ≤ suc l * p
    sum u v p l h k = omega (arith, ints, h, k)

-- some multiple of x is a sum of multiples of the vectors
pub record IsExpressed (d : ℕ) (ms : List (List ℤ)) (x : List ℤ) : Type 0 where
  pub factor : ℤ
  pub some : factor ≢ pos 0
  pub terms : List ℤ
  pub long : length terms ≡ d
  pub sum : combine terms ms ≡ scale (neg_ℤ factor) x
  pub each : (i : ℕ) → i < d → number_at i terms *ℤ volume d ms ≡ neg_ℤ factor *ℤ volume d (set ms i x)

module _ (d : ℕ) (s ms : List (List ℤ)) (h : IsFilled d s d ms) (low : 0 < d) where
  points : AllOfDimension d ms
  points = recursion_from_All (λ v. length v ≡ d) ms (All-from_get_or (λ v. length v ≡ d) ms [] (λ i l. h.dimension i (let m = h.long in omega (arith, l, m))))

  module _ (x : List ℤ) (lx : length x ≡ d) where
    from_terms : (k : ℤ) (ks : List ℤ) → IsDependency (x ∷ ms) (k ∷ ks) → IsExpressed d ms x
    from_terms k ks dep = record { factor = k; some = some; terms = ks; long = long ∙ h.long; sum = sum; each = each }
      where
        long : length ks ≡ length ms
        long = let e = dep.one_each in omega (arith, e)

        negative : (k y z : ℤ) → k *ℤ y +ℤ z ≡ pos 0 → z ≡ neg_ℤ k *ℤ y
        negative k y z e = simp spread (omega (arith, ints, e))

        sum : combine ks ms ≡ scale (neg_ℤ k) x
        sum = same_from_dots (combine ks ms) (scale (neg_ℤ k) x) (length-combine d ks ms points long (let m = h.long in omega (arith, m, low)) ∙ sym lx ∙ sym (length-scale (neg_ℤ k) x))
            (λ u. dot-combine u ks ms ∙ negative k (dot u x) (dot ks (map (dot u) ms)) (dep.zero_there u) ∙ sym (dot-scale u (neg_ℤ k) x))

        each : (i : ℕ) → i < d → number_at i ks *ℤ volume d ms ≡ neg_ℤ k *ℤ volume d (set ms i x)
        each i l =
            let within : i < length ms = (let m = h.long in omega (arith, l, m)) in
            sym (cramer d ks ms i within) ∙ ap (λ (y : List ℤ). volume d (set ms i y)) sum ∙ volume_scale d ms i (neg_ℤ k) x within

        none : k ≡ pos 0 → (i : ℕ) → i < d → number_at i ks ≡ pos 0
        none e i l = elim (zero_or_not (number_at i ks)) [
          | inl z ↦ z
          | inr n ↦ absurd (mul-not_zero (number_at i ks) (volume d ms) n h.some (each i l ∙ ap (λ (z : ℤ). neg_ℤ z *ℤ volume d (set ms i x)) e ∙ nothing (volume d (set ms i x))))
        ]
          where
            nothing : (z : ℤ) → neg_ℤ (pos 0) *ℤ z ≡ pos 0
            nothing z = omega (arith, ints)

        all_zero : (j : ℕ) → j < length (k ∷ ks) → k ≡ pos 0 → number_at j (k ∷ ks) ≡ pos 0
        all_zero zero l e = e
        all_zero (suc j) l e = none e j (let m = h.long in omega (arith, l, long, m))

        some : k ≢ pos 0
        some e = dep.some (all_zero dep.place dep.within e)

    from_dependency : (b : List ℤ) → IsDependency (x ∷ ms) b → IsExpressed d ms x
    from_dependency [] dep = let e = dep.one_each in absurd (omega (arith, e))
    from_dependency (k ∷ ks) dep = from_terms k ks dep

    pub expressed : IsExpressed d ms x
    expressed = let r = dependent d (x ∷ ms) (lx, points) (let m = h.long in omega (arith, m)) in from_dependency r.0 r.1

    -- ---- how large a product with x is

    module _ (r : List ℤ) (most volumes : ℕ) (products : (i : ℕ) → i < d → nat_abs (dot r (get_or ms i [])) ≤ most) (small : (i : ℕ) → i < d → nat_abs (volume d (set ms i x)) ≤ volumes) where
      term_most : (e : IsExpressed d ms x) (i : ℕ) → i < d → nat_abs (number_at i e.terms) ≤ nat_abs e.factor * volumes
      term_most e i l =
          let a = unsigned_abs-mul (number_at i e.terms) (volume d ms) in
          let b = unsigned_abs-mul (neg_ℤ e.factor) (volume d (set ms i x)) in
          let c : nat_abs (neg_ℤ e.factor) ≡ nat_abs e.factor = turned e.factor in
          let p = ap nat_abs (e.each i l) in
          let v = small i l in
          let t = nat_abs (number_at i e.terms) in
          let one : 1 ≤ nat_abs (volume d ms) = size (volume d ms) h.some in
          let up : t * 1 ≤ t * nat_abs (volume d ms) = mul-le-mul (same t) one in
          let down : nat_abs e.factor * nat_abs (volume d (set ms i x)) ≤ nat_abs e.factor * volumes = mul-le-mul (same (nat_abs e.factor)) v in
          let q : t * nat_abs (volume d ms) ≡ nat_abs e.factor * nat_abs (volume d (set ms i x)) = sym a ∙ p ∙ b ∙ ap (λ (n : ℕ). n * nat_abs (volume d (set ms i x))) c in
          omega (arith, up, down, q)
        where
          turned : (k : ℤ) → nat_abs (neg_ℤ k) ≡ nat_abs k
          turned k = omega (arith, ints)

          size : (k : ℤ) → k ≢ pos 0 → 1 ≤ nat_abs k
          size k n = omega (arith, ints, n)

          same : (n : ℕ) → n ≤ n
          same n = omega arith

      pub product_most : nat_abs (dot r x) ≤ d * (volumes * most)
      product_most = bound expressed
        where
          size : (k : ℤ) → k ≢ pos 0 → 0 < nat_abs k
          size k n = omega (arith, ints, n)

          turned : (k : ℤ) → nat_abs (neg_ℤ k) ≡ nat_abs k
          turned k = omega (arith, ints)

          bound : IsExpressed d ms x → nat_abs (dot r x) ≤ d * (volumes * most)
          bound e =
              let f = nat_abs e.factor in
              let ws = map (dot r) ms in
              let terms : All (IsWithin (f * volumes)) e.terms = All-from_get_or (IsWithin (f * volumes)) e.terms (pos 0) (λ i l. term_most e i (let m = e.long in omega (arith, l, m))) in
              let sizes : All (IsWithin most) ws = All-from_get_or (IsWithin most) ws (pos 0) (λ i l.
              let here : i < length ms = (let m = length-map ms (dot r) in omega (arith, l, m)) in
              subst (λ (z : ℤ). nat_abs z ≤ most) (sym (get_or-map (dot r) ms i [] (pos 0) here)) (products i (let m = h.long in omega (arith, here, m)))) in
              let d1 = dot_most (f * volumes) most e.terms ws terms sizes in
              let whole : neg_ℤ e.factor *ℤ dot r x ≡ dot e.terms ws = sym (dot-scale r (neg_ℤ e.factor) x) ∙ ap (dot r) (sym e.sum) ∙ dot-combine r e.terms ms in
              let a : f * nat_abs (dot r x) ≡ nat_abs (dot e.terms ws) = ap (λ (n : ℕ). n * nat_abs (dot r x)) (sym (turned e.factor)) ∙ sym (unsigned_abs-mul (neg_ℤ e.factor) (dot r x)) ∙ ap nat_abs whole in
              let l = e.long in
              let c : f * nat_abs (dot r x) ≤ f * (d * (volumes * most)) = subst (λ (n : ℕ). f * nat_abs (dot r x) ≤ n) (turn (length e.terms) f volumes most ∙ ap (λ (n : ℕ). f * (n * (volumes * most))) l) (omega (arith, a, d1)) in
              le_of_mul-le-mul_left c (size e.factor e.some)
            where
              turn : (n f v m : ℕ) → n * ((f * v) * m) ≡ f * (n * (v * m))
              turn n f v m = omega arith
