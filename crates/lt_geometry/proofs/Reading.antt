-- The numbers of a point in the order of some places, with a 0 at the end, and the two sums over pairs of them.
use Rattle.std.proofs.Common.{◌≡◌, ℕ, zero, suc, ℤ, pos, negsuc, ◌+ℤ◌, ◌-ℤ◌, ◌*ℤ◌, ◌≤ℤ◌, refl, ap, arith, sym, ◌∙◌, List, [], ◌∷◌, ◌++◌, length, map, ◌⊎◌, inl, inr}
use Rattle.std.proofs.lemmas.Int.{ints}
use Rattle.lt_model.proofs.Ring.{ring, var, num, ◌⊕◌, ◌⊖◌, ◌⊗◌}
use Rattle.lt_model.proofs.Squares.{length-scale}
use Rattle.lt_model.proofs.Excess.{scale-dot, plus-dot}
use Rattle.lt_model.proofs.Vectors.{dot-scale}
use Rattle.lt_model.proofs.Opposite.{unit-dot}
use Rattle.lt_model.specs.Vectors.{plus, scale, dot, total, unit, ones}
use Rattle.lt_model.specs.Forms.{squares, value}
use Rattle.lt_model.specs.Facets.{number_at}
use Rattle.lt_model.specs.Principal.{IsOrder, principal_rows}
use Rattle.lt_geometry.proofs.Places.{order_whole, sum_of_numbers}

abbrev pub read : List ℕ → List ℤ → List ℤ
read [] x = pos 0 ∷ []
read (k ∷ p) x = number_at k x ∷ read p x

-- the sum of the (z - t)(z - t - 1), t in the list
abbrev pub excess_of : ℤ → List ℤ → ℤ
excess_of z [] = pos 0
excess_of z (t ∷ l) = (z -ℤ t) *ℤ (z -ℤ t -ℤ pos 1) +ℤ excess_of z l

-- the same over all pairs of an earlier and a later number
abbrev pub excesses : List ℤ → ℤ
excesses [] = pos 0
excesses (z ∷ l) = excess_of z l +ℤ excesses l

abbrev pub slope_of : ℤ → List ℤ → ℤ
slope_of z [] = pos 0
slope_of z (t ∷ l) = z -ℤ t +ℤ slope_of z l

-- the sum of all differences of an earlier and a later number
abbrev pub slopes : List ℤ → ℤ
slopes [] = pos 0
slopes (z ∷ l) = slope_of z l +ℤ slopes l

one_more : (n : ℕ) → pos (suc n) ≡ pos n +ℤ pos 1
one_more n = omega (arith, ints)

row_sum : (z : ℤ) (l : List ℤ) → excess_of z l +ℤ slope_of z l ≡ pos (length l) *ℤ (z *ℤ z) -ℤ pos 2 *ℤ (z *ℤ total l) +ℤ dot l l
row_sum z [] = ring (z ∷ []) (num (pos 0) ⊕ num (pos 0)) (num (pos 0) ⊗ (var 0 ⊗ var 0) ⊖ num (pos 2) ⊗ (var 0 ⊗ num (pos 0)) ⊕ num (pos 0)) tt
row_sum z (t ∷ l) =
    gather z t (excess_of z l) (slope_of z l) (pos (length l)) (total l) (dot l l) (row_sum z l)
    ∙ ap (λ n. n *ℤ (z *ℤ z) -ℤ pos 2 *ℤ (z *ℤ (t +ℤ total l)) +ℤ (t *ℤ t +ℤ dot l l)) (sym (one_more (length l)))
  where
    gather : (z t a b n s q : ℤ) → a +ℤ b ≡ n *ℤ (z *ℤ z) -ℤ pos 2 *ℤ (z *ℤ s) +ℤ q → (z -ℤ t) *ℤ (z -ℤ t -ℤ pos 1) +ℤ a +ℤ (z -ℤ t +ℤ b) ≡ (n +ℤ pos 1) *ℤ (z *ℤ z) -ℤ pos 2 *ℤ (z *ℤ (t +ℤ s)) +ℤ (t *ℤ t +ℤ q)
    gather z t a b n s q e =
        let own : (z -ℤ t) *ℤ (z -ℤ t -ℤ pos 1) +ℤ (z -ℤ t) +ℤ (n *ℤ (z *ℤ z) -ℤ pos 2 *ℤ (z *ℤ s) +ℤ q) ≡ (n +ℤ pos 1) *ℤ (z *ℤ z) -ℤ pos 2 *ℤ (z *ℤ (t +ℤ s)) +ℤ (t *ℤ t +ℤ q) =
        ring (z ∷ t ∷ n ∷ s ∷ q ∷ []) ((var 0 ⊖ var 1) ⊗ (var 0 ⊖ var 1 ⊖ num (pos 1)) ⊕ (var 0 ⊖ var 1) ⊕ (var 2 ⊗ (var 0 ⊗ var 0) ⊖ num (pos 2) ⊗ (var 0 ⊗ var 3) ⊕ var 4))
        ((var 2 ⊕ num (pos 1)) ⊗ (var 0 ⊗ var 0) ⊖ num (pos 2) ⊗ (var 0 ⊗ (var 1 ⊕ var 3)) ⊕ (var 1 ⊗ var 1 ⊕ var 4)) tt
        in
        omega (arith, ints, own, e)

-- both sums over pairs together are n times the sum of the squares less the square of the sum
pub pairs_sum : (l : List ℤ) → excesses l +ℤ slopes l ≡ pos (length l) *ℤ dot l l -ℤ total l *ℤ total l
pairs_sum [] = refl
pairs_sum (z ∷ l) =
    gather z (excess_of z l) (slope_of z l) (excesses l) (slopes l) (pos (length l)) (total l) (dot l l) (row_sum z l) (pairs_sum l)
    ∙ ap (λ n. n *ℤ (z *ℤ z +ℤ dot l l) -ℤ (z +ℤ total l) *ℤ (z +ℤ total l)) (sym (one_more (length l)))
  where
    gather : (z a b c d n s q : ℤ) → a +ℤ b ≡ n *ℤ (z *ℤ z) -ℤ pos 2 *ℤ (z *ℤ s) +ℤ q → c +ℤ d ≡ n *ℤ q -ℤ s *ℤ s → a +ℤ c +ℤ (b +ℤ d) ≡ (n +ℤ pos 1) *ℤ (z *ℤ z +ℤ q) -ℤ (z +ℤ s) *ℤ (z +ℤ s)
    gather z a b c d n s q e h =
        let own : n *ℤ (z *ℤ z) -ℤ pos 2 *ℤ (z *ℤ s) +ℤ q +ℤ (n *ℤ q -ℤ s *ℤ s) ≡ (n +ℤ pos 1) *ℤ (z *ℤ z +ℤ q) -ℤ (z +ℤ s) *ℤ (z +ℤ s) =
        ring (z ∷ n ∷ s ∷ q ∷ []) (var 1 ⊗ (var 0 ⊗ var 0) ⊖ num (pos 2) ⊗ (var 0 ⊗ var 2) ⊕ var 3 ⊕ (var 1 ⊗ var 3 ⊖ var 2 ⊗ var 2))
        ((var 1 ⊕ num (pos 1)) ⊗ (var 0 ⊗ var 0 ⊕ var 3) ⊖ (var 0 ⊕ var 2) ⊗ (var 0 ⊕ var 2)) tt
        in
        omega (arith, ints, own, e, h)

-- ---- the principal form

pub dot-append_both : (a b c e : List ℤ) → length a ≡ length c → dot (a ++ b) (c ++ e) ≡ dot a c +ℤ dot b e
dot-append_both [] b [] e h = omega (arith, ints)
dot-append_both [] b (y ∷ c) e h = absurd (omega arith)
dot-append_both (x ∷ a) b [] e h = absurd (omega arith)
dot-append_both (x ∷ a) b (y ∷ c) e h = let k = dot-append_both a b c e (omega arith) in omega (arith, ints, k)

pub ones-dot : (n : ℕ) (x : List ℤ) → length x ≡ n → dot (ones n) x ≡ total x
ones-dot zero [] l = refl
ones-dot zero (a ∷ x) l = absurd (omega arith)
ones-dot (suc n) [] l = absurd (omega arith)
ones-dot (suc n) (a ∷ x) l = omega (arith, ints, ones-dot n x (omega arith))

pub length-ones : (n : ℕ) → length (ones n) ≡ n
length-ones zero = refl
length-ones (suc n) = ap suc (length-ones n)

-- the principal form: (d + 1) times the sum of the squares less the square of the sum
pub rows_value : (d k : ℕ) (x : List ℤ) → length x ≡ k → value (principal_rows d k) x ≡ (pos d +ℤ pos 1) *ℤ dot x x -ℤ total x *ℤ total x
rows_value d zero [] l = ring (pos d ∷ []) (num (pos 0)) ((var 0 ⊕ num (pos 1)) ⊗ num (pos 0) ⊖ num (pos 0) ⊗ num (pos 0)) tt
rows_value d zero (a ∷ x) l = absurd (omega arith)
rows_value d (suc k) [] l = absurd (omega arith)
rows_value d (suc k) (a ∷ x) l =
    let lx : length x ≡ k = omega arith in
    let l1 : length (scale (negsuc 1) (ones k)) ≡ length (scale a x) = length-scale (negsuc 1) (ones k) ∙ length-ones k ∙ sym lx ∙ sym (length-scale a x) in
    let e1 : dot (scale (negsuc 1) (ones k) ++ principal_rows d k) (scale a x ++ squares x) ≡ dot (scale (negsuc 1) (ones k)) (scale a x) +ℤ value (principal_rows d k) x =
    dot-append_both (scale (negsuc 1) (ones k)) (principal_rows d k) (scale a x) (squares x) l1
    in
    let e2 : dot (scale (negsuc 1) (ones k)) (scale a x) ≡ negsuc 1 *ℤ (a *ℤ total x) =
    scale-dot (negsuc 1) (ones k) (scale a x) ∙ ap (λ n. negsuc 1 *ℤ n) (dot-scale (ones k) a x ∙ ap (λ n. a *ℤ n) (ones-dot k x lx))
    in
    let e3 : value (principal_rows d k) x ≡ (pos d +ℤ pos 1) *ℤ dot x x -ℤ total x *ℤ total x = rows_value d k x lx in
    rw (e1, e2, e3) (
    ring (pos d ∷ a ∷ total x ∷ dot x x ∷ [])
    (var 0 ⊗ (var 1 ⊗ var 1) ⊕ (num (negsuc 1) ⊗ (var 1 ⊗ var 2) ⊕ ((var 0 ⊕ num (pos 1)) ⊗ var 3 ⊖ var 2 ⊗ var 2)))
    ((var 0 ⊕ num (pos 1)) ⊗ (var 1 ⊗ var 1 ⊕ var 3) ⊖ (var 1 ⊕ var 2) ⊗ (var 1 ⊕ var 2)) tt
    )

-- ---- the reading has the sums of the point

total_read : (p : List ℕ) (x : List ℤ) → total (read p x) ≡ total (map (λ k. number_at k x) p)
total_read [] x = refl
total_read (k ∷ p) x = ap (λ n. number_at k x +ℤ n) (total_read p x)

square_read : (p : List ℕ) (x : List ℤ) → dot (read p x) (read p x) ≡ total (map (λ k. number_at k x *ℤ number_at k x) p)
square_read [] x = refl
square_read (k ∷ p) x = ap (λ n. number_at k x *ℤ number_at k x +ℤ n) (square_read p x)

length-read : (p : List ℕ) (x : List ℤ) → length (read p x) ≡ suc (length p)
length-read [] x = refl
length-read (k ∷ p) x = ap suc (length-read p x)

total_same : (x : List ℤ) → total (map (λ a. a) x) ≡ total x
total_same [] = refl
total_same (a ∷ x) = ap (λ n. a +ℤ n) (total_same x)

total_squares : (x : List ℤ) → total (map (λ a. a *ℤ a) x) ≡ dot x x
total_squares [] = refl
total_squares (a ∷ x) = ap (λ n. a *ℤ a +ℤ n) (total_squares x)

-- the value at x from the reading in any order
pub value_read : (d : ℕ) (p : List ℕ) (x : List ℤ) → IsOrder d p → length x ≡ d → value (principal_rows d d) x ≡ excesses (read p x) +ℤ slopes (read p x)
value_read d p x o lx =
    let w = order_whole d p o in
    let e1 : total (read p x) ≡ total x = total_read p x ∙ w.sums (λ k. number_at k x) ∙ sum_of_numbers d (λ a. a) x lx ∙ total_same x in
    let e2 : dot (read p x) (read p x) ≡ dot x x = square_read p x ∙ w.sums (λ k. number_at k x *ℤ number_at k x) ∙ sum_of_numbers d (λ a. a *ℤ a) x lx ∙ total_squares x in
    let e3 : pos (length (read p x)) ≡ pos d +ℤ pos 1 = ap pos (length-read p x ∙ ap suc o.count) ∙ one_more d in
    rows_value d d x lx ∙ sym (pairs_sum (read p x) ∙ (rw (e1, e2, e3) refl))

-- ---- the slopes are a linear function of the point

pub record IsLinear (d : ℕ) (g : List ℤ → ℤ) : Type 0 where
  pub vector : List ℤ
  pub is : (x : List ℤ) → length x ≡ d → g x ≡ dot vector x

slope_linear : (d : ℕ) (k : ℕ) (p : List ℕ) → IsLinear d (λ x. slope_of (number_at k x) (read p x))
slope_linear d k [] = record { vector = unit d k; is = λ x lx. omega (arith, ints, unit-dot d k x lx) }
slope_linear d k (j ∷ p) =
    let h = slope_linear d k p in
    record {
      vector = plus (plus (unit d k) (scale (negsuc 0) (unit d j))) h.vector;
      is = λ x lx. rw (plus-dot (plus (unit d k) (scale (negsuc 0) (unit d j))) h.vector x, plus-dot (unit d k) (scale (negsuc 0) (unit d j)) x, scale-dot (negsuc 0) (unit d j) x)
          (omega (arith, ints, unit-dot d k x lx, unit-dot d j x lx, h.is x lx));
    }

pub slopes_linear : (d : ℕ) (p : List ℕ) → IsLinear d (λ x. slopes (read p x))
slopes_linear d [] = record { vector = []; is = λ x lx. refl }
slopes_linear d (k ∷ p) =
    let h = slopes_linear d p in
    let r = slope_linear d k p in
    record {
      vector = plus r.vector h.vector;
      is = λ x lx. rw (r.is x lx, h.is x lx) (sym (plus-dot r.vector h.vector x));
    }

-- ---- signs

-- y (y - 1) is at least 0, and 0 only for 0 and 1
pub step_not_negative : (y : ℤ) → pos 0 ≤ℤ (y *ℤ (y -ℤ pos 1))
step_not_negative y = of y (y -ℤ pos 1) refl
  where
    of : (y z : ℤ) → z ≡ y -ℤ pos 1 → pos 0 ≤ℤ (y *ℤ z)
    of (pos zero) z e = omega (arith, ints)
    of (pos (suc n)) (pos m) e = omega (arith, ints)
    of (pos (suc n)) (negsuc m) e = absurd (omega (arith, ints, e))
    of (negsuc n) (pos m) e = absurd (omega (arith, ints, e))
    of (negsuc n) (negsuc m) e = omega (arith, ints)

pub step_zero : (y : ℤ) → y *ℤ (y -ℤ pos 1) ≡ pos 0 → (y ≡ pos 0) ⊎ (y ≡ pos 1)
step_zero y h = of y (y -ℤ pos 1) refl h
  where
    of : (y z : ℤ) → z ≡ y -ℤ pos 1 → y *ℤ z ≡ pos 0 → (y ≡ pos 0) ⊎ (y ≡ pos 1)
    of (pos zero) z e h = inl refl
    of (pos (suc n)) (pos zero) e h = inr (omega (arith, ints, e))
    of (pos (suc n)) (pos (suc m)) e h = absurd (omega (arith, ints, e, h))
    of (pos (suc n)) (negsuc m) e h = absurd (omega (arith, ints, e))
    of (negsuc n) (pos m) e h = absurd (omega (arith, ints, e))
    of (negsuc n) (negsuc m) e h = absurd (omega (arith, ints, h))

pub row_not_negative : (z : ℤ) (l : List ℤ) → pos 0 ≤ℤ excess_of z l
row_not_negative z [] = omega (arith, ints)
row_not_negative z (t ∷ l) = omega (arith, ints, row_not_negative z l, step_not_negative (z -ℤ t))

pub excesses_not_negative : (l : List ℤ) → pos 0 ≤ℤ excesses l
excesses_not_negative [] = omega (arith, ints)
excesses_not_negative (z ∷ l) = omega (arith, ints, row_not_negative z l, excesses_not_negative l)
