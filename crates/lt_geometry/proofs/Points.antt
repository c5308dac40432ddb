-- Points of dimension d and forms on them, as a space of lt_walls.
use Rattle.std.proofs.Common.{List, [], ◌∷◌, ◌++◌, length, ◌≡◌, ◌≢◌, ℕ, zero, suc, ◌<◌, ◌≤◌, ◌⊎◌, inl, inr, refl, sym, ◌∙◌, ap, ap₂, arith, ℤ, pos, negsuc, neg_ℤ, ◌+ℤ◌, ◌-ℤ◌, ◌*ℤ◌, ◌<ℤ◌, ◌+◌, length-append}
use Rattle.std.proofs.lemmas.Int.{ints}
use Rattle.std.proofs.Math.IntN.{ℤ_discrete}
use Rattle.lt_model.proofs.Ring.{ring, ring_by, ring_by_two, var, num, neg, ◌⊕◌, ◌⊖◌, ◌⊗◌}
use Rattle.lt_walls.proofs.Signs.{ring_by_three, sign}
use Rattle.lt_walls.proofs.Sums.{qs}
use Rattle.lt_model.proofs.Inequalities.{mul_pos_z}
use Rattle.lt_walls.proofs.Lists.{qs-cons, qs-nil, qs-fun, qs-of}
use Rattle.lt_walls.proofs.Space.{Space, Probe}
use Rattle.lt_model.specs.Vectors.{plus, minus, scale, dot}
use Rattle.lt_model.specs.Forms.{squares, value, cross, polar, numbers_of_form}
use Rattle.lt_model.proofs.Vectors.{dot-scale, plus_comm, value-plus, value-scale}
use Rattle.lt_model.proofs.Squares.{value-sum, value-difference, cross-scale, squares-scale, length-scale, length-plus}
use Rattle.lt_model.proofs.Excess.{gradient, dot-nil, plus-dot, scale-dot}
use Rattle.lt_geometry.proofs.Reading.{dot-append_both}

abbrev pub Vec : ℕ → Type 0
Vec zero = Unit {0}
Vec (suc d) = ℤ × Vec d

abbrev pub list : (d : ℕ) → Vec d → List ℤ
list zero x = []
list (suc d) x = x.0 ∷ list d (x.1)

pub of_list : (d : ℕ) (l : List ℤ) → length l ≡ d → (x : Vec d) × (list d x ≡ l)
of_list zero [] h = (tt, refl)
of_list zero (a ∷ l) h = absurd (omega arith)
of_list (suc d) [] h = absurd (omega arith)
of_list (suc d) (a ∷ l) h = let r = of_list d l (omega arith) in ((a, r.0), ap (λ z. a ∷ z) (r.1))

pub length-list : (d : ℕ) (x : Vec d) → length (list d x) ≡ d
length-list zero x = refl
length-list (suc d) x = ap suc (length-list d (x.1))

-- the coordinate at a place, 0 beyond the end
abbrev pub place : (d : ℕ) → Vec d → ℕ → ℤ
place zero x j = pos 0
place (suc d) x zero = x.0
place (suc d) x (suc j) = place d (x.1) j

abbrev pub coordinate : (d : ℕ) → ℕ → Vec d → ℤ
coordinate d zero x = pos 1
coordinate d (suc j) x = place d x j

pub same-places : (d : ℕ) (x y : Vec d) → ((j : ℕ) → place d x j ≡ place d y j) → x ≡ y
same-places zero x y h = refl
same-places (suc d) x y h = λ i. (h zero i, same-places d (x.1) (y.1) (λ j. h (suc j)) i)

pub vec-dec : (d : ℕ) (x y : Vec d) → Dec (x ≡ y)
vec-dec zero x y = yes refl
vec-dec (suc d) x y = go (ℤ_discrete (x.0) (y.0)) (vec-dec d (x.1) (y.1))
  where
    go : Dec (x.0 ≡ y.0) → Dec (x.1 ≡ y.1) → Dec (x ≡ y)
    go (yes e) (yes f) = yes (λ i. (e i, f i))
    go (no n) r = no (λ e. n (ap (λ z. z.0) e))
    go (yes e) (no n) = no (λ p. n (ap (λ z. z.1) p))

abbrev pub add : (d : ℕ) → Vec d → Vec d → Vec d
add zero x y = tt
add (suc d) x y = (x.0 +ℤ y.0, add d (x.1) (y.1))

abbrev pub times : (d : ℕ) → ℤ → Vec d → Vec d
times zero k x = tt
times (suc d) k x = (k *ℤ x.0, times d k (x.1))

abbrev pub less : (d : ℕ) → Vec d → Vec d → Vec d
less d x y = add d x (times d (negsuc 0) y)

pub place-add : (d : ℕ) (x y : Vec d) (j : ℕ) → place d (add d x y) j ≡ place d x j +ℤ place d y j
place-add zero x y j = refl
place-add (suc d) x y zero = refl
place-add (suc d) x y (suc j) = place-add d (x.1) (y.1) j

pub place-times : (d : ℕ) (k : ℤ) (x : Vec d) (j : ℕ) → place d (times d k x) j ≡ k *ℤ place d x j
place-times zero k x j = ring (k ∷ []) (num (pos 0)) (var 0 ⊗ num (pos 0)) tt
place-times (suc d) k x zero = refl
place-times (suc d) k x (suc j) = place-times d k (x.1) j

pub place-less : (d : ℕ) (x y : Vec d) (j : ℕ) → place d (less d x y) j ≡ place d x j -ℤ place d y j
place-less d x y j = place-add d x (times d (negsuc 0) y) j ∙ ap (λ z. place d x j +ℤ z) (place-times d (negsuc 0) y j) ∙ omega (arith, ints)

pub list-add : (d : ℕ) (x y : Vec d) → list d (add d x y) ≡ plus (list d x) (list d y)
list-add zero x y = refl
list-add (suc d) x y = ap (λ z. (x.0 +ℤ y.0) ∷ z) (list-add d (x.1) (y.1))

pub list-times : (d : ℕ) (k : ℤ) (x : Vec d) → list d (times d k x) ≡ scale k (list d x)
list-times zero k x = refl
list-times (suc d) k x = ap (λ z. (k *ℤ x.0) ∷ z) (list-times d k (x.1))

pub list-less : (d : ℕ) (x y : Vec d) → list d (less d x y) ≡ minus (list d x) (list d y)
list-less d x y = list-add d x (times d (negsuc 0) y) ∙ ap (plus (list d x)) (list-times d (negsuc 0) y)

-- ---- linear functions

unfoldable pub lin : List ℤ → (ℕ → ℤ) → ℤ
lin [] h = pos 0
lin (a ∷ g) h = a *ℤ h zero +ℤ lin g (λ j. h (suc j))

pub lin-same : (g : List ℤ) (h k : ℕ → ℤ) → ((j : ℕ) → h j ≡ k j) → lin g h ≡ lin g k
unfolding lin
lin-same [] h k e = refl
lin-same (a ∷ g) h k e = ap₂ (λ y z. a *ℤ y +ℤ z) (e zero) (lin-same g (λ j. h (suc j)) (λ j. k (suc j)) (λ j. e (suc j)))

pub lin-zeros : (g : List ℤ) → lin g (λ j. pos 0) ≡ pos 0
unfolding lin
lin-zeros [] = refl
lin-zeros (a ∷ g) = ap (λ z. a *ℤ pos 0 +ℤ z) (lin-zeros g) ∙ ring (a ∷ []) (var 0 ⊗ num (pos 0) ⊕ num (pos 0)) (num (pos 0)) tt

pub lin-is : (d : ℕ) (g : List ℤ) (x : Vec d) → dot g (list d x) ≡ lin g (place d x)
unfolding lin
lin-is zero g x = dot-nil g ∙ sym (lin-zeros g)
lin-is (suc d) [] x = refl
lin-is (suc d) (a ∷ g) x = ap (λ z. a *ℤ x.0 +ℤ z) (lin-is d g (x.1))

pub lin-scale : (g : List ℤ) (c : ℤ) (h : ℕ → ℤ) → lin g (λ j. c *ℤ h j) ≡ c *ℤ lin g h
unfolding lin
lin-scale [] c h = ring (c ∷ []) (num (pos 0)) (var 0 ⊗ num (pos 0)) tt
lin-scale (a ∷ g) c h = ap (λ z. a *ℤ (c *ℤ h zero) +ℤ z) (lin-scale g c (λ j. h (suc j))) ∙ ring (a ∷ c ∷ (h zero) ∷ (lin g (λ j. h (suc j))) ∷ []) (var 0 ⊗ (var 1 ⊗ var 2) ⊕ var 1 ⊗ var 3) (var 1 ⊗ (var 0 ⊗ var 2 ⊕ var 3)) tt

pub lin-sum : {P : Type 0} → (g : List ℤ) (h : ℕ → P → ℤ) (b : P → ℤ) (S : List P) → qs (λ v. lin g (λ j. h j v)) b S ≡ lin g (λ j. qs (h j) b S)
unfolding lin
lin-sum [] h b [] = qs-nil (λ v. pos 0) b
lin-sum [] h b (x ∷ S) = qs-cons (λ v. pos 0) b x S ∙ ap (λ z. b x *ℤ pos 0 +ℤ z) (lin-sum [] h b S) ∙ ring ((b x) ∷ []) (var 0 ⊗ num (pos 0) ⊕ num (pos 0)) (num (pos 0)) tt
lin-sum {P} (a ∷ g) h b S = qs-fun (λ v. a *ℤ h zero v +ℤ lin g (λ j. h (suc j) v)) (λ v. a *ℤ h zero v +ℤ pos 1 *ℤ lin g (λ j. h (suc j) v)) b (λ v. ring (a ∷ (h zero v) ∷ (lin g (λ j. h (suc j) v)) ∷ []) (var 0 ⊗ var 1 ⊕ var 2) (var 0 ⊗ var 1 ⊕ num (pos 1) ⊗ var 2) tt) S
    ∙ qs-of (h zero) (λ v. lin g (λ j. h (suc j) v)) b a (pos 1) S ∙ ap (λ z. a *ℤ qs (h zero) b S +ℤ pos 1 *ℤ z) (lin-sum g (λ j. h (suc j)) b S) ∙ ring ((a *ℤ qs (h zero) b S) ∷ (lin g (λ j. qs (h (suc j)) b S)) ∷ []) (var 0 ⊕ num (pos 1) ⊗ var 1) (var 0 ⊕ var 1) tt

-- a linear function is carried by expressions
pub carried : (d : ℕ) (g : List ℤ) (x : Vec d) (c : ℤ) (b : Vec d → ℤ) (S : List (Vec d)) → ((j : ℕ) → c *ℤ coordinate d j x ≡ qs (coordinate d j) b S) → c *ℤ dot g (list d x) ≡ qs (λ v. dot g (list d v)) b S
carried d g x c b S e = ap (λ z. c *ℤ z) (lin-is d g x) ∙ sym (lin-scale g c (place d x)) ∙ lin-same g (λ j. c *ℤ place d x j) (λ j. qs (λ v. place d v j) b S) (λ j. e (suc j)) ∙ sym (lin-sum g (λ j v. place d v j) b S) ∙ qs-fun (λ v. lin g (place d v)) (λ v. dot g (list d v)) b (λ v. sym (lin-is d g v)) S

pub flat-linear : (d : ℕ) (g : List ℤ) (s : Vec d → ℤ) (S : List (Vec d)) → ((j : ℕ) → qs (coordinate d j) s S ≡ pos 0) → qs (λ v. dot g (list d v)) s S ≡ pos 0
flat-linear d g s S e = qs-fun (λ v. dot g (list d v)) (λ v. lin g (place d v)) s (λ v. lin-is d g v) S ∙ lin-sum g (λ j v. place d v j) s S ∙ lin-same g (λ j. qs (λ v. place d v j) s S) (λ j. pos 0) (λ j. e (suc j)) ∙ lin-zeros g

-- ---- forms

pub record Form (d : ℕ) : Type 0 where
  pub numbers : List ℤ
  pub is : length numbers ≡ numbers_of_form d

abbrev pub at : (d : ℕ) → Form d → Vec d → ℤ
at d q x = value q.numbers (list d x)

unfoldable pub mixed_form : (d : ℕ) → ℤ → Form d → ℤ → Form d → Form d
mixed_form d m a n b = record {
  numbers = plus (scale m a.numbers) (scale n b.numbers);
  is = length-plus (scale m a.numbers) (scale n b.numbers) (length-scale m a.numbers ∙ a.is ∙ sym b.is ∙ sym (length-scale n b.numbers)) ∙ length-scale m a.numbers ∙ a.is;
}

pub at-mixed : (d : ℕ) (m : ℤ) (a : Form d) (n : ℤ) (b : Form d) (x : Vec d) → at d (mixed_form d m a n b) x ≡ m *ℤ at d a x +ℤ n *ℤ at d b x
unfolding mixed_form
at-mixed d m a n b x = value-plus (scale m a.numbers) (scale n b.numbers) (list d x) ∙ ap₂ (λ y z. y +ℤ z) (value-scale m a.numbers (list d x)) (value-scale n b.numbers (list d x))

alike_length : (d : ℕ) (x y : Vec d) → length (list d x) ≡ length (list d y)
alike_length d x y = length-list d x ∙ sym (length-list d y)

pub polar_comm : (q x y : List ℤ) → length x ≡ length y → polar q x y ≡ polar q y x
polar_comm q x y h = omega (arith, ints, value-sum q x y h, value-sum q y x (sym h), ap (value q) (plus_comm x y))

-- Q[x - v] = Q[x] + Q[v] - B(v, x)
at-less : (d : ℕ) (q : Form d) (x v : Vec d) → at d q (less d x v) ≡ at d q x +ℤ at d q v -ℤ dot ((gradient q.numbers (list d x)).0) (list d v)
at-less d q x v = ap (value q.numbers) (list-less d x v) ∙ value-difference q.numbers (list d x) (list d v) (alike_length d x v) ∙
    ap (λ z. at d q x +ℤ at d q v -ℤ z) (polar_comm q.numbers (list d x) (list d v) (alike_length d x v) ∙ (gradient q.numbers (list d x)).1 (list d v) (alike_length d v x))

pub at-add : (d : ℕ) (q : Form d) (v y : Vec d) → at d q (add d v y) ≡ at d q v +ℤ at d q y +ℤ dot ((gradient q.numbers (list d y)).0) (list d v)
at-add d q v y = ap (value q.numbers) (list-add d v y) ∙ value-sum q.numbers (list d v) (list d y) (alike_length d v y) ∙ ap (λ z. at d q v +ℤ at d q y +ℤ z) ((gradient q.numbers (list d y)).1 (list d v) (alike_length d v y))

pub at-times : (d : ℕ) (q : Form d) (k : ℤ) (x : Vec d) → at d q (times d k x) ≡ (k *ℤ k) *ℤ at d q x
at-times d q k x = ap (value q.numbers) (list-times d k x) ∙ ap (dot q.numbers) (squares-scale k (list d x)) ∙ dot-scale q.numbers (k *ℤ k) (squares (list d x))

pub less-self : (d : ℕ) (x : Vec d) → less d x x ≡ times d (pos 0) x
less-self d x = same-places d (less d x x) (times d (pos 0) x) (λ j. place-less d x x j ∙ ring ((place d x j) ∷ []) (var 0 ⊖ var 0) (num (pos 0) ⊗ var 0) tt ∙ sym (place-times d (pos 0) x j))

pub reflection : (d : ℕ) (q : Form d) (x : Vec d) (c : ℤ) (b : Vec d → ℤ) (S : List (Vec d)) → ((j : ℕ) → c *ℤ coordinate d j x ≡ qs (coordinate d j) b S) → c *ℤ at d q x -ℤ qs (at d q) b S ≡ neg_ℤ (qs (λ v. at d q (less d x v)) b S)
reflection d q x c b S e = ring_by_three (c ∷ (at d q x) ∷ (qs (at d q) b S) ∷ (qs (λ v. pos 1) b S) ∷ (qs f b S) ∷ (f x) ∷ []) (var 0 ⊗ var 1 ⊖ var 2) (neg (var 1 ⊗ var 3 ⊕ num (pos 1) ⊗ (num (pos 1) ⊗ var 2 ⊕ neg (num (pos 1)) ⊗ var 4))) (neg (var 1)) (var 0 ⊗ num (pos 1)) (var 3) (num (pos 1)) (var 0 ⊗ var 5) (var 4) (neg (var 0)) (var 5) (num (pos 2) ⊗ var 1) tt (e 0) (carried d g x c b S e) (grad) ∙ ap neg_ℤ (sym split)
  where
    g : List ℤ
    g = (gradient q.numbers (list d x)).0

    f : Vec d → ℤ
    f v = dot g (list d v)

    split : qs (λ v. at d q (less d x v)) b S ≡ at d q x *ℤ qs (λ v. pos 1) b S +ℤ pos 1 *ℤ (pos 1 *ℤ qs (at d q) b S +ℤ neg_ℤ (pos 1) *ℤ qs f b S)
    split = qs-fun (λ v. at d q (less d x v)) (λ v. at d q x *ℤ pos 1 +ℤ pos 1 *ℤ (pos 1 *ℤ at d q v +ℤ neg_ℤ (pos 1) *ℤ f v)) b (λ v. at-less d q x v ∙ ring ((at d q x) ∷ (at d q v) ∷ (f v) ∷ []) (var 0 ⊕ var 1 ⊖ var 2) (var 0 ⊗ num (pos 1) ⊕ num (pos 1) ⊗ (num (pos 1) ⊗ var 1 ⊕ neg (num (pos 1)) ⊗ var 2)) tt) S
        ∙ qs-of (λ v. pos 1) (λ v. pos 1 *ℤ at d q v +ℤ neg_ℤ (pos 1) *ℤ f v) b (at d q x) (pos 1) S ∙ ap (λ z. at d q x *ℤ qs (λ v. pos 1) b S +ℤ pos 1 *ℤ z) (qs-of (at d q) f b (pos 1) (neg_ℤ (pos 1)) S)

    grad : f x ≡ pos 2 *ℤ at d q x
    grad = ring_by_two ((at d q x) ∷ (f x) ∷ (at d q (less d x x)) ∷ []) (var 1) (num (pos 2) ⊗ var 0) (num (pos 1)) (var 2) (var 0 ⊕ var 0 ⊖ var 1) (neg (num (pos 1))) (var 2) (num (pos 0) ⊗ num (pos 0) ⊗ var 0) tt (at-less d q x x) (ap (at d q) (less-self d x) ∙ at-times d q (pos 0) x)

-- ---- products of linear functions are forms

pub product : List ℤ → List ℤ → List ℤ
product [] ms = []
product (l ∷ ls) [] = []
product (l ∷ ls) (m ∷ ms) = ((l *ℤ m) ∷ plus (scale l ms) (scale m ls)) ++ product ls ms

pub length-product : (d : ℕ) (l m : List ℤ) → length l ≡ d → length m ≡ d → length (product l m) ≡ numbers_of_form d
unfolding product
length-product zero [] ms h k = refl
length-product zero (l ∷ ls) ms h k = absurd (omega arith)
length-product (suc d) [] ms h k = absurd (omega arith)
length-product (suc d) (l ∷ ls) [] h k = absurd (omega arith)
length-product (suc d) (l ∷ ls) (m ∷ ms) h k =
    let e : length ls ≡ d = omega arith in
    let f : length ms ≡ d = omega arith in
    let g : length (plus (scale l ms) (scale m ls)) ≡ d = length-plus (scale l ms) (scale m ls) (length-scale l ms ∙ f ∙ sym e ∙ sym (length-scale m ls)) ∙ length-scale l ms ∙ f in
    length-append ((l *ℤ m) ∷ plus (scale l ms) (scale m ls)) (product ls ms) ∙ ap₂ (λ y z. y + z) (ap suc g) (length-product d ls ms e f)

pub product-value : (d : ℕ) (l m : List ℤ) (x : Vec d) → length l ≡ d → length m ≡ d → value (product l m) (list d x) ≡ dot l (list d x) *ℤ dot m (list d x)
unfolding product
product-value zero [] ms x h k = ring ((dot ms []) ∷ []) (num (pos 0)) (num (pos 0) ⊗ var 0) tt
product-value zero (l ∷ ls) ms x h k = absurd (omega arith)
product-value (suc d) [] ms x h k = absurd (omega arith)
product-value (suc d) (l ∷ ls) [] x h k = absurd (omega arith)
product-value (suc d) (l ∷ ls) (m ∷ ms) x h k =
    dot-append_both ((l *ℤ m) ∷ plus (scale l ms) (scale m ls)) (product ls ms) (scale z (z ∷ zs)) (squares zs) (ap suc (g ∙ sym (length-scale z zs ∙ length-list d (x.1))))
    ∙ ap₂ (λ u v. (l *ℤ m) *ℤ (z *ℤ z) +ℤ u +ℤ v) (plus-dot (scale l ms) (scale m ls) (scale z zs) ∙ ap₂ (λ u v. u +ℤ v) (scale-dot l ms (scale z zs) ∙ ap (λ u. l *ℤ u) (dot-scale ms z zs)) (scale-dot m ls (scale z zs) ∙ ap (λ u. m *ℤ u) (dot-scale ls z zs))) (product-value d ls ms (x.1) e f)
    ∙ ring (l ∷ m ∷ z ∷ (dot ls zs) ∷ (dot ms zs) ∷ []) (var 0 ⊗ var 1 ⊗ (var 2 ⊗ var 2) ⊕ (var 0 ⊗ (var 2 ⊗ var 4) ⊕ var 1 ⊗ (var 2 ⊗ var 3)) ⊕ var 3 ⊗ var 4) ((var 0 ⊗ var 2 ⊕ var 3) ⊗ (var 1 ⊗ var 2 ⊕ var 4)) tt
  where
    z : ℤ
    z = x.0

    zs : List ℤ
    zs = list d (x.1)

    e : length ls ≡ d
    e = omega arith

    f : length ms ≡ d
    f = omega arith

    g : length (plus (scale l ms) (scale m ls)) ≡ d
    g = length-plus (scale l ms) (scale m ls) (length-scale l ms ∙ f ∙ sym e ∙ sym (length-scale m ls)) ∙ length-scale l ms ∙ f

-- ---- axes

abbrev pub none : (d : ℕ) → Vec d
none zero = tt
none (suc d) = (pos 0, none d)

abbrev pub axis : (d : ℕ) → ℕ → Vec d
axis zero j = tt
axis (suc d) zero = (pos 1, none d)
axis (suc d) (suc j) = (pos 0, axis d j)

pub place-none : (d j : ℕ) → place d (none d) j ≡ pos 0
place-none zero j = refl
place-none (suc d) zero = refl
place-none (suc d) (suc j) = place-none d j

dot-none : (d : ℕ) (x : Vec d) → dot (list d (none d)) (list d x) ≡ pos 0
dot-none zero x = refl
dot-none (suc d) x = ap (λ z. pos 0 *ℤ x.0 +ℤ z) (dot-none d (x.1)) ∙ ring (x.0 ∷ []) (num (pos 0) ⊗ var 0 ⊕ num (pos 0)) (num (pos 0)) tt

pub dot-axis : (d j : ℕ) (x : Vec d) → dot (list d (axis d j)) (list d x) ≡ place d x j
dot-axis zero j x = refl
dot-axis (suc d) zero x = ap (λ z. pos 1 *ℤ x.0 +ℤ z) (dot-none d (x.1)) ∙ ring (x.0 ∷ []) (num (pos 1) ⊗ var 0 ⊕ num (pos 0)) (var 0) tt
dot-axis (suc d) (suc j) x = ap (λ z. pos 0 *ℤ x.0 +ℤ z) (dot-axis d j (x.1)) ∙ ring (x.0 ∷ (place d (x.1) j) ∷ []) (num (pos 0) ⊗ var 0 ⊕ var 1) (var 1) tt

place-own : (d j : ℕ) → j < d → place d (axis d j) j ≡ pos 1
place-own zero j h = absurd (omega arith)
place-own (suc d) zero h = refl
place-own (suc d) (suc j) h = place-own d j (omega arith)

place-other : (d i j : ℕ) → i ≢ j → place d (axis d j) i ≡ pos 0
place-other zero i j n = refl
place-other (suc d) zero zero n = absurd (n refl)
place-other (suc d) zero (suc j) n = refl
place-other (suc d) (suc i) zero n = place-none d i
place-other (suc d) (suc i) (suc j) n = place-other d i j (λ e. n (ap suc e))

-- a place where a vector isn't 0
nonzero : (d : ℕ) (x : Vec d) → ((i : ℕ) × (i < d) × (place d x i ≢ pos 0)) ⊎ ((j : ℕ) → place d x j ≡ pos 0)
nonzero zero x = inr (λ j. refl)
nonzero (suc d) x = go (ℤ_discrete (x.0) (pos 0)) (nonzero d (x.1))
  where
    all : x.0 ≡ pos 0 → ((j : ℕ) → place d (x.1) j ≡ pos 0) → (j : ℕ) → place (suc d) x j ≡ pos 0
    all e h zero = e
    all e h (suc j) = h j

    go : Dec (x.0 ≡ pos 0) → ((i : ℕ) × (i < d) × (place d (x.1) i ≢ pos 0)) ⊎ ((j : ℕ) → place d (x.1) j ≡ pos 0) → ((i : ℕ) × (i < suc d) × (place (suc d) x i ≢ pos 0)) ⊎ ((j : ℕ) → place (suc d) x j ≡ pos 0)
    go (no n) r = inl (zero, omega arith, n)
    go (yes e) (inl r) = let g : r.0 < d = r.1 in inl (suc (r.0), omega (arith, g), r.2)
    go (yes e) (inr h) = inr (all e h)

pub differs : (d : ℕ) (x v : Vec d) → x ≢ v → (i : ℕ) × (i < d) × (place d (less d x v) i ≢ pos 0)
differs d x v n = elim (nonzero d (less d x v)) [ inl r ↦ r | inr h ↦ absurd (n (same-places d x v (λ j. omega (arith, ints, h j, place-less d x v j)))) ]

pub second : (d i : ℕ) → 2 ≤ d → (j : ℕ) × (j < d) × (i ≢ j)
second d zero h = (1, omega (arith, h), λ e. omega (arith, e))
second d (suc i) h = (0, omega (arith, h), λ e. omega (arith, e))

square_pos : (z : ℤ) → z ≢ pos 0 → pos 0 <ℤ (z *ℤ z)
square_pos z n = elim (sign z n) [
  | inl l ↦ omega (arith, ints, mul_pos_z (neg_ℤ z) (neg_ℤ z) (omega (arith, ints, l)) (omega (arith, ints, l)), ring (z ∷ []) (neg (var 0) ⊗ neg (var 0)) (var 0 ⊗ var 0) tt)
  | inr l ↦ mul_pos_z z z l l
]

pub probe-at : (d : ℕ) (y : Vec d) (i j : ℕ) → j < d → i ≢ j → place d y i ≢ pos 0 → Probe (at d) y
probe-at d y i j hj n nz = record {
  form = B;
  along = along;
  rate = yi *ℤ yi;
  rate_pos = square_pos yi nz;
  zero_there = value_B y ∙ ring (yi ∷ yj ∷ []) (var 0 ⊗ (var 0 ⊗ var 1 ⊖ var 1 ⊗ var 0)) (num (pos 0)) tt;
  grows = λ k. value_B (along k) ∙ ap₂ (λ u v. u *ℤ (yi *ℤ v -ℤ yj *ℤ u)) (on_i k) (on_j k) ∙ ring (k ∷ yi ∷ yj ∷ []) (var 0 ⊗ var 1 ⊗ (var 1 ⊗ (num (pos 1) ⊕ var 0 ⊗ var 2) ⊖ var 2 ⊗ (var 0 ⊗ var 1))) (var 0 ⊗ (var 1 ⊗ var 1)) tt;
  slope = λ q. polar q.numbers (list d e) (list d y);
  bends = λ q k. bend q k ∙ ring_by ((at d q e) ∷ k ∷ (polar q.numbers (list d e) (list d y)) ∷ (at d q y) ∷ (at d q (along (pos 0))) ∷ []) (var 0 ⊕ var 1 ⊗ var 1 ⊗ var 3 ⊕ var 1 ⊗ var 2) (var 4 ⊕ var 1 ⊗ var 2 ⊕ var 1 ⊗ var 1 ⊗ var 3) (neg (num (pos 1))) (var 4) (var 0 ⊕ num (pos 0) ⊗ num (pos 0) ⊗ var 3 ⊕ num (pos 0) ⊗ var 2) tt (bend q (pos 0));
}
  where
    yi : ℤ
    yi = place d y i

    yj : ℤ
    yj = place d y j

    e : Vec d
    e = axis d j

    second_factor : Vec d
    second_factor = less d (times d yi (axis d j)) (times d yj (axis d i))

    B : Form d
    B = record { numbers = product (list d (axis d i)) (list d second_factor); is = length-product d (list d (axis d i)) (list d second_factor) (length-list d (axis d i)) (length-list d second_factor) }

    dot_second : (z : Vec d) → dot (list d second_factor) (list d z) ≡ yi *ℤ place d z j -ℤ yj *ℤ place d z i
    dot_second z = ap (λ l. dot l (list d z)) (list-less d (times d yi (axis d j)) (times d yj (axis d i))) ∙ plus-dot (list d (times d yi (axis d j))) (scale (negsuc 0) (list d (times d yj (axis d i)))) (list d z)
        ∙ ap₂ (λ u v. u +ℤ v) (ap (λ l. dot l (list d z)) (list-times d yi (axis d j)) ∙ scale-dot yi (list d (axis d j)) (list d z) ∙ ap (λ u. yi *ℤ u) (dot-axis d j z))
        (scale-dot (negsuc 0) (list d (times d yj (axis d i))) (list d z) ∙ ap (λ u. negsuc 0 *ℤ u) (ap (λ l. dot l (list d z)) (list-times d yj (axis d i)) ∙ scale-dot yj (list d (axis d i)) (list d z) ∙ ap (λ u. yj *ℤ u) (dot-axis d i z)))
        ∙ omega (arith, ints)

    value_B : (z : Vec d) → at d B z ≡ place d z i *ℤ (yi *ℤ place d z j -ℤ yj *ℤ place d z i)
    value_B z = product-value d (list d (axis d i)) (list d second_factor) z (length-list d (axis d i)) (length-list d second_factor) ∙ ap₂ (λ u v. u *ℤ v) (dot-axis d i z) (dot_second z)

    along : ℤ → Vec d
    along k = add d e (times d k y)

    on_i : (k : ℤ) → place d (along k) i ≡ k *ℤ yi
    on_i k = place-add d e (times d k y) i ∙ ap₂ (λ u v. u +ℤ v) (place-other d i j n) (place-times d k y i) ∙ ring ((k *ℤ yi) ∷ []) (num (pos 0) ⊕ var 0) (var 0) tt

    on_j : (k : ℤ) → place d (along k) j ≡ pos 1 +ℤ k *ℤ yj
    on_j k = place-add d e (times d k y) j ∙ ap₂ (λ u v. u +ℤ v) (place-own d j hj) (place-times d k y j)

    bend : (q : Form d) (k : ℤ) → at d q (along k) ≡ at d q e +ℤ (k *ℤ k) *ℤ at d q y +ℤ k *ℤ polar q.numbers (list d e) (list d y)
    bend q k = ap (value q.numbers) (list-add d e (times d k y)) ∙ value-sum q.numbers (list d e) (list d (times d k y)) (alike_length d e (times d k y))
        ∙ ap₂ (λ u v. at d q e +ℤ u +ℤ v) (at-times d q k y) (ap (λ l. polar q.numbers (list d e) l) (list-times d k y) ∙ ap (dot q.numbers) (cross-scale k (list d e) (list d y)) ∙ dot-scale q.numbers k (cross (list d e) (list d y)))

-- the space of the points of dimension d >= 2
abbrev pub space : (d : ℕ) → 2 ≤ d → Space (Vec d) (Form d)
space d two = record {
  hom = coordinate d;
  dec = vec-dec d;
  one = λ v. refl;
  inj = λ x y h. same-places d x y (λ j. h (suc j));
  val = at d;
  sub = less d;
  mix = mixed_form d;
  mixed = at-mixed d;
  same = λ q x. ap (at d q) (less-self d x) ∙ at-times d q (pos 0) x ∙ ring ((at d q x) ∷ []) (num (pos 0) ⊗ num (pos 0) ⊗ var 0) (num (pos 0)) tt;
  reflection = reflection d;
  probe = λ x v n. let r = differs d x v n in let s = second d (r.0) two in probe-at d (less d x v) (r.0) (s.0) (s.1) (s.2) (r.2);
}
