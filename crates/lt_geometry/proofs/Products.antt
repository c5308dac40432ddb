-- The product of two linear functions as a form, and values of the principal normals.
use Rattle.std.proofs.Common.{◌≡◌, ◌≢◌, ℕ, zero, suc, ℤ, pos, negsuc, ◌+ℤ◌, ◌-ℤ◌, ◌*ℤ◌, neg_ℤ, ◌<◌, refl, ap, ap₂, arith, sym, ◌∙◌, List, [], ◌∷◌, ◌++◌, length, length-append}
use Rattle.std.proofs.lemmas.Int.{ints}
use Rattle.lt_model.proofs.Ring.{ring, var, num, ◌⊕◌, ◌⊖◌, ◌⊗◌, neg}
use Rattle.lt_model.proofs.Squares.{length-scale, length-plus, value-sum}
use Rattle.lt_model.proofs.Vectors.{dot-plus, dot-scale, dot_comm}
use Rattle.lt_model.proofs.Excess.{plus-dot, scale-dot}
use Rattle.lt_model.proofs.Opposite.{unit-dot, length-unit}
use Rattle.lt_model.proofs.Expressions.{total-plus}
use Rattle.lt_model.specs.Vectors.{plus, scale, dot, total, unit, ones}
use Rattle.lt_model.specs.Forms.{squares, value, cross, polar, numbers_of_form}
use Rattle.lt_model.specs.Facets.{number_at}
use Rattle.lt_model.specs.Principal.{principal_rows}
use Rattle.lt_model.proofs.Flat.{number_at-unit_same}
use Rattle.lt_model.proofs.Points.{total-unit}
use Rattle.lt_geometry.specs.Principal.{pair_normal, own_normal}
use Rattle.lt_geometry.proofs.Reading.{dot-append_both, length-ones, ones-dot, rows_value}
use Rattle.lt_geometry.proofs.Paths.{unit_other}
use Rattle.lt_geometry.proofs.Neighbours.{number_at-ones}

-- the form whose value is the product of the values of two linear functions
abbrev pub product_form : List ℤ → List ℤ → List ℤ
product_form [] m = []
product_form (a ∷ l) [] = []
product_form (a ∷ l) (b ∷ m) = ((a *ℤ b) ∷ plus (scale a m) (scale b l)) ++ product_form l m

length-mixed : (a b : ℤ) (l m : List ℤ) → length l ≡ length m → length (plus (scale a m) (scale b l)) ≡ length m
length-mixed a b l m h = length-plus (scale a m) (scale b l) (length-scale a m ∙ sym h ∙ sym (length-scale b l)) ∙ length-scale a m

pub length-product : (d : ℕ) (l m : List ℤ) → length l ≡ d → length m ≡ d → length (product_form l m) ≡ numbers_of_form d
length-product zero [] m ll lm = refl
length-product zero (a ∷ l) m ll lm = absurd (omega arith)
length-product (suc d) [] m ll lm = absurd (omega arith)
length-product (suc d) (a ∷ l) [] ll lm = absurd (omega arith)
length-product (suc d) (a ∷ l) (b ∷ m) ll lm =
    let l1 : length (plus (scale a m) (scale b l)) ≡ length m = length-mixed a b l m (omega arith) in
    let e = length-append (plus (scale a m) (scale b l)) (product_form l m) in
    let r : length (product_form l m) ≡ numbers_of_form d = length-product d l m (omega arith) (omega arith) in
    omega (arith, e, r, l1)

pub product_value : (l m x : List ℤ) → length l ≡ length x → length m ≡ length x → value (product_form l m) x ≡ dot l x *ℤ dot m x
product_value [] [] [] ll lm = refl
product_value [] (b ∷ m) [] ll lm = absurd (omega arith)
product_value (a ∷ l) m [] ll lm = absurd (omega arith)
product_value [] m (c ∷ x) ll lm = absurd (omega arith)
product_value (a ∷ l) [] (c ∷ x) ll lm = absurd (omega arith)
product_value (a ∷ l) (b ∷ m) (c ∷ x) ll lm =
    let l1 : length (plus (scale a m) (scale b l)) ≡ length (scale c x) = length-mixed a b l m (omega arith) ∙ (omega arith) ∙ sym (length-scale c x) in
    let e1 = dot-append_both (plus (scale a m) (scale b l)) (product_form l m) (scale c x) (squares x) l1 in
    let e2 : dot (plus (scale a m) (scale b l)) (scale c x) ≡ c *ℤ (a *ℤ dot m x +ℤ b *ℤ dot l x) =
    dot-scale (plus (scale a m) (scale b l)) c x ∙ ap (λ n. c *ℤ n) (plus-dot (scale a m) (scale b l) x ∙ ap₂ (λ (y z : ℤ). y +ℤ z) (scale-dot a m x) (scale-dot b l x))
    in
    let e3 : value (product_form l m) x ≡ dot l x *ℤ dot m x = product_value l m x (omega arith) (omega arith) in
    rw (e1, e2, e3) (ring (a ∷ b ∷ c ∷ dot l x ∷ dot m x ∷ []) (var 0 ⊗ var 1 ⊗ (var 2 ⊗ var 2) ⊕ (var 2 ⊗ (var 0 ⊗ var 4 ⊕ var 1 ⊗ var 3) ⊕ var 3 ⊗ var 4)) ((var 0 ⊗ var 2 ⊕ var 3) ⊗ (var 1 ⊗ var 2 ⊕ var 4)) tt)

pub product_polar : (l m x y : List ℤ) → length l ≡ length x → length m ≡ length x → length x ≡ length y → polar (product_form l m) x y ≡ dot l x *ℤ dot m y +ℤ dot l y *ℤ dot m x
product_polar l m x y ll lm lxy =
    let e = value-sum (product_form l m) x y lxy in
    let lp : length (plus x y) ≡ length x = length-plus x y lxy in
    let e1 = product_value l m (plus x y) (ll ∙ sym lp) (lm ∙ sym lp) in
    let e2 = product_value l m x ll lm in
    let e3 = product_value l m y (ll ∙ lxy) (lm ∙ lxy) in
    end (dot l x) (dot l y) (dot m x) (dot m y) (polar (product_form l m) x y) (value (product_form l m) x) (value (product_form l m) y) (value (product_form l m) (plus x y)) e (e1 ∙ ap₂ (λ (a b : ℤ). a *ℤ b) (dot-plus l x y) (dot-plus m x y)) e2 e3
  where
    end : (a b c e p x y s : ℤ) → s ≡ x +ℤ y +ℤ p → s ≡ (a +ℤ b) *ℤ (c +ℤ e) → x ≡ a *ℤ c → y ≡ b *ℤ e → p ≡ a *ℤ e +ℤ b *ℤ c
    end a b c e p x y s h k m n =
        let own : (a +ℤ b) *ℤ (c +ℤ e) ≡ a *ℤ c +ℤ b *ℤ e +ℤ (a *ℤ e +ℤ b *ℤ c) = ring (a ∷ b ∷ c ∷ e ∷ []) ((var 0 ⊕ var 1) ⊗ (var 2 ⊕ var 3)) (var 0 ⊗ var 2 ⊕ var 1 ⊗ var 3 ⊕ (var 0 ⊗ var 3 ⊕ var 1 ⊗ var 2)) tt in
        omega (arith, ints, own, h, k, m, n)

-- the polar form of the principal form
pub principal_polar : (d : ℕ) (x y : List ℤ) → length x ≡ d → length y ≡ d → polar (principal_rows d d) x y ≡ pos 2 *ℤ ((pos d +ℤ pos 1) *ℤ dot x y) -ℤ pos 2 *ℤ (total x *ℤ total y)
principal_polar d x y lx ly =
    let lxy : length x ≡ length y = lx ∙ sym ly in
    let e = value-sum (principal_rows d d) x y lxy in
    let e1 = rows_value d d (plus x y) (length-plus x y lxy ∙ lx) in
    let e2 = rows_value d d x lx in
    let e3 = rows_value d d y ly in
    let e4 : dot (plus x y) (plus x y) ≡ dot x x +ℤ dot x y +ℤ (dot x y +ℤ dot y y) =
    plus-dot x y (plus x y) ∙ ap₂ (λ (a b : ℤ). a +ℤ b) (dot-plus x x y) (dot-plus y x y ∙ ap (λ n. n +ℤ dot y y) (dot_comm y x))
    in
    end (pos d) (dot x x) (dot x y) (dot y y) (total x) (total y) (polar (principal_rows d d) x y) (value (principal_rows d d) x) (value (principal_rows d d) y) (value (principal_rows d d) (plus x y)) e (e1 ∙ ap₂ (λ (a b : ℤ). (pos d +ℤ pos 1) *ℤ a -ℤ b *ℤ b) e4 (total-plus x y)) e2 e3
  where
    end : (n a b c s t p x y v : ℤ) → v ≡ x +ℤ y +ℤ p → v ≡ (n +ℤ pos 1) *ℤ (a +ℤ b +ℤ (b +ℤ c)) -ℤ (s +ℤ t) *ℤ (s +ℤ t) → x ≡ (n +ℤ pos 1) *ℤ a -ℤ s *ℤ s → y ≡ (n +ℤ pos 1) *ℤ c -ℤ t *ℤ t → p ≡ pos 2 *ℤ ((n +ℤ pos 1) *ℤ b) -ℤ pos 2 *ℤ (s *ℤ t)
    end n a b c s t p x y v h k l m =
        let own : (n +ℤ pos 1) *ℤ (a +ℤ b +ℤ (b +ℤ c)) -ℤ (s +ℤ t) *ℤ (s +ℤ t) ≡ ((n +ℤ pos 1) *ℤ a -ℤ s *ℤ s) +ℤ ((n +ℤ pos 1) *ℤ c -ℤ t *ℤ t) +ℤ (pos 2 *ℤ ((n +ℤ pos 1) *ℤ b) -ℤ pos 2 *ℤ (s *ℤ t)) =
        ring (n ∷ a ∷ b ∷ c ∷ s ∷ t ∷ []) ((var 0 ⊕ num (pos 1)) ⊗ (var 1 ⊕ var 2 ⊕ (var 2 ⊕ var 3)) ⊖ (var 4 ⊕ var 5) ⊗ (var 4 ⊕ var 5))
        (((var 0 ⊕ num (pos 1)) ⊗ var 1 ⊖ var 4 ⊗ var 4) ⊕ ((var 0 ⊕ num (pos 1)) ⊗ var 3 ⊖ var 5 ⊗ var 5) ⊕ (num (pos 2) ⊗ ((var 0 ⊕ num (pos 1)) ⊗ var 2) ⊖ num (pos 2) ⊗ (var 4 ⊗ var 5))) tt
        in
        omega (arith, ints, own, h, k, l, m)

-- ---- the normals at a form

pub pair_at : (d i j : ℕ) (q : List ℤ) → dot (pair_normal d i j) q ≡ neg_ℤ (polar q (unit d i) (unit d j))
pair_at d i j q = dot_comm (pair_normal d i j) q ∙ dot-scale q (negsuc 0) (cross (unit d i) (unit d j)) ∙ (omega (arith, ints))

pub own_at : (d i : ℕ) (q : List ℤ) → dot (own_normal d i) q ≡ polar q (ones d) (unit d i)
own_at d i q = dot_comm (own_normal d i) q

length-cross : (d : ℕ) (x y : List ℤ) → length x ≡ d → length y ≡ d → length (cross x y) ≡ numbers_of_form d
length-cross zero [] [] lx ly = refl
length-cross zero [] (b ∷ y) lx ly = refl
length-cross zero (a ∷ x) y lx ly = absurd (omega arith)
length-cross (suc d) [] y lx ly = absurd (omega arith)
length-cross (suc d) (a ∷ x) [] lx ly = absurd (omega arith)
length-cross (suc d) (a ∷ x) (b ∷ y) lx ly =
    let l1 : length (plus (scale a y) (scale b x)) ≡ length y = length-mixed a b x y (omega arith) in
    let e = length-append (plus (scale a y) (scale b x)) (cross x y) in
    let r : length (cross x y) ≡ numbers_of_form d = length-cross d x y (omega arith) (omega arith) in
    omega (arith, e, r, l1)

pub length-pair : (d i j : ℕ) → length (pair_normal d i j) ≡ numbers_of_form d
length-pair d i j = length-scale (negsuc 0) (cross (unit d i) (unit d j)) ∙ length-cross d (unit d i) (unit d j) (length-unit d i) (length-unit d j)

pub length-own : (d i : ℕ) → length (own_normal d i) ≡ numbers_of_form d
length-own d i = length-cross d (ones d) (unit d i) (length-ones d) (length-unit d i)

-- the products of unit vectors and ones
pub units_dot : (d i j : ℕ) → dot (unit d i) (unit d j) ≡ number_at i (unit d j)
units_dot d i j = unit-dot d i (unit d j) (length-unit d j)

total_ones : (d : ℕ) → total (ones d) ≡ pos d
total_ones zero = refl
total_ones (suc d) = omega (arith, ints, total_ones d)

-- ---- forms Q0 - (l x)^2

abbrev pub less_square : ℕ → List ℤ → List ℤ
less_square d l = plus (principal_rows d d) (scale (negsuc 0) (product_form l l))

less_polar : (d : ℕ) (l x y : List ℤ) → length l ≡ d → length x ≡ d → length y ≡ d → polar (less_square d l) x y ≡ pos 2 *ℤ ((pos d +ℤ pos 1) *ℤ dot x y) -ℤ pos 2 *ℤ (total x *ℤ total y) -ℤ pos 2 *ℤ (dot l x *ℤ dot l y)
less_polar d l x y ll lx ly =
    let e = plus-dot (principal_rows d d) (scale (negsuc 0) (product_form l l)) (cross x y) in
    let e1 = scale-dot (negsuc 0) (product_form l l) (cross x y) in
    let e2 = product_polar l l x y (ll ∙ sym lx) (ll ∙ sym lx) (lx ∙ sym ly) in
    let e3 = principal_polar d x y lx ly in
    end (polar (principal_rows d d) x y) (polar (product_form l l) x y) (polar (scale (negsuc 0) (product_form l l)) x y) (polar (less_square d l) x y) (pos 2 *ℤ ((pos d +ℤ pos 1) *ℤ dot x y) -ℤ pos 2 *ℤ (total x *ℤ total y)) (dot l x) (dot l y) e e1 e2 e3
  where
    end : (a b c e s x y : ℤ) → e ≡ a +ℤ c → c ≡ negsuc 0 *ℤ b → b ≡ x *ℤ y +ℤ y *ℤ x → a ≡ s → e ≡ s -ℤ pos 2 *ℤ (x *ℤ y)
    end a b c e s x y h k l m = omega (arith, ints, h, k, l, m)

-- the pair normal at such a form
pub pair_at_less : (d i j : ℕ) (l : List ℤ) → length l ≡ d → i < d → j < d → i ≢ j → dot (pair_normal d i j) (less_square d l) ≡ pos 2 +ℤ pos 2 *ℤ (number_at i l *ℤ number_at j l)
pair_at_less d i j l ll hi hj n =
    let e1 : dot (unit d i) (unit d j) ≡ pos 0 = units_dot d i j ∙ unit_other d j i n in
    let e2 : dot l (unit d i) ≡ number_at i l = dot_comm l (unit d i) ∙ unit-dot d i l ll in
    let e3 : dot l (unit d j) ≡ number_at j l = dot_comm l (unit d j) ∙ unit-dot d j l ll in
    pair_at d i j (less_square d l) ∙ (rw (less_polar d l (unit d i) (unit d j) ll (length-unit d i) (length-unit d j), e1, e2, e3, total-unit d i hi, total-unit d j hj)
    (ring (pos d ∷ number_at i l ∷ number_at j l ∷ []) (neg (num (pos 2) ⊗ ((var 0 ⊕ num (pos 1)) ⊗ num (pos 0)) ⊖ num (pos 2) ⊗ (num (pos 1) ⊗ num (pos 1)) ⊖ num (pos 2) ⊗ (var 1 ⊗ var 2))) (num (pos 2) ⊕ num (pos 2) ⊗ (var 1 ⊗ var 2)) tt))

pub own_at_less : (d i : ℕ) (l : List ℤ) → length l ≡ d → i < d → dot (own_normal d i) (less_square d l) ≡ pos 2 -ℤ pos 2 *ℤ (total l *ℤ number_at i l)
own_at_less d i l ll hi =
    let e1 : dot (ones d) (unit d i) ≡ pos 1 = ones-dot d (unit d i) (length-unit d i) ∙ total-unit d i hi in
    let e2 : dot l (ones d) ≡ total l = dot_comm l (ones d) ∙ ones-dot d l ll in
    let e3 : dot l (unit d i) ≡ number_at i l = dot_comm l (unit d i) ∙ unit-dot d i l ll in
    own_at d i (less_square d l) ∙ (rw (less_polar d l (ones d) (unit d i) ll (length-ones d) (length-unit d i), e1, e2, e3, total-unit d i hi, total_ones d)
    (ring (pos d ∷ total l ∷ number_at i l ∷ []) (num (pos 2) ⊗ ((var 0 ⊕ num (pos 1)) ⊗ num (pos 1)) ⊖ num (pos 2) ⊗ (var 0 ⊗ num (pos 1)) ⊖ num (pos 2) ⊗ (var 1 ⊗ var 2)) (num (pos 2) ⊖ num (pos 2) ⊗ (var 1 ⊗ var 2)) tt))

-- ---- a form at which the normal is 1 or -1

pub pair_one : (d i j : ℕ) → i < d → j < d → i ≢ j → dot (product_form (unit d i) (unit d j)) (pair_normal d i j) ≡ negsuc 0
pair_one d i j hi hj n =
    let q = product_form (unit d i) (unit d j) in
    let e = product_polar (unit d i) (unit d j) (unit d i) (unit d j) refl (length-unit d j ∙ sym (length-unit d i)) (length-unit d i ∙ sym (length-unit d j)) in
    let a : dot (unit d i) (unit d i) ≡ pos 1 = units_dot d i i ∙ number_at-unit_same d i hi in
    let b : dot (unit d j) (unit d j) ≡ pos 1 = units_dot d j j ∙ number_at-unit_same d j hj in
    let c : dot (unit d i) (unit d j) ≡ pos 0 = units_dot d i j ∙ unit_other d j i n in
    let f : polar q (unit d i) (unit d j) ≡ pos 1 *ℤ pos 1 +ℤ pos 0 *ℤ dot (unit d j) (unit d i) = e ∙ (rw (a, b, c) refl) in
    dot-scale q (negsuc 0) (cross (unit d i) (unit d j)) ∙ (rw f (ring (dot (unit d j) (unit d i) ∷ []) (num (negsuc 0) ⊗ (num (pos 1) ⊗ num (pos 1) ⊕ num (pos 0) ⊗ var 0)) (num (negsuc 0)) tt))

pub own_one : (d i j : ℕ) → i < d → j < d → i ≢ j → dot (product_form (unit d i) (unit d j)) (own_normal d i) ≡ pos 1
own_one d i j hi hj n =
    let q = product_form (unit d i) (unit d j) in
    let lo = length-ones d in
    let e = product_polar (unit d i) (unit d j) (ones d) (unit d i) (length-unit d i ∙ sym lo) (length-unit d j ∙ sym lo) (lo ∙ sym (length-unit d i)) in
    let a : dot (unit d i) (unit d i) ≡ pos 1 = units_dot d i i ∙ number_at-unit_same d i hi in
    let b : dot (unit d j) (ones d) ≡ pos 1 = unit-dot d j (ones d) lo ∙ number_at-ones d j hj in
    let c : dot (unit d j) (unit d i) ≡ pos 0 = units_dot d j i ∙ unit_other d i j (λ e. n (sym e)) in
    e ∙ (rw (a, b, c) (ring (dot (unit d i) (ones d) ∷ []) (var 0 ⊗ num (pos 0) ⊕ num (pos 1) ⊗ num (pos 1)) (num (pos 1)) tt))
