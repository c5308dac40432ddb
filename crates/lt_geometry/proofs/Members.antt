-- The placed simplices of a triangulation of the model, and what the model's relations say of them.
use Rattle.std.proofs.Common.{List, [], ◌∷◌, length, map, ◌≡◌, ℕ, zero, suc, ◌<◌, ◌≤◌, inl, inr, refl, sym, ◌∙◌, ap, ap₂, subst, arith, ℤ, pos, negsuc, ◌+ℤ◌, ◌-ℤ◌, ◌*ℤ◌, ◌≤ℤ◌}
use Rattle.std.proofs.lemmas.Int.{ints}
use Rattle.std.specs.List.{Contains}
use Rattle.std.specs.List.Sorted.{IsStrictlySortedBy}
use Rattle.std.specs.declared.cmp.Ordering.TheVariants.{Less}
use Rattle.lt_model.proofs.Ring.{ring, ring_by, ring_by_two, var, num, neg, ◌⊕◌, ◌⊖◌, ◌⊗◌}
use Rattle.lt_walls.proofs.Sums.{qs}
use Rattle.lt_model.specs.Padded.{head_z, tail_z}
use Rattle.lt_walls.proofs.Lists.{Alike, alike-refl, alike-sym, alike-trans, qs-cons, qs-nil, qs-fun, qs-of, In, in-nil, in-head, in-tail, in-cases, in-alike, Distinct, distinct-out, distinct-tail, distinct-cons, distinct-nil}
use Rattle.lt_walls.proofs.Space.{Space, Simp, Expr, Strict, Definite, excess, excess-is, simp-alike}
use Rattle.lt_walls.proofs.Margins.{moved, qs-moved, alike-moved, in-moved}
use Rattle.lt_geometry.proofs.Points.{Vec, list, of_list, length-list, place, coordinate, same-places, vec-dec, add, times, less, place-add, place-times, place-less, carried, flat-linear, Form, at, at-add, space}
use Rattle.lt_model.specs.Vectors.{scale, dot, zeros, total, combine}
use Rattle.lt_model.specs.Forms.{value, IsPositiveDefinite}
use Rattle.lt_model.specs.Order.{number_list_cmp}
use Rattle.lt_model.specs.Simplices.{AllOfDimension, IsClass, IsExpression, IsStrictlyEmpty}
use Rattle.lt_model.specs.Triangulations.{IsDelaunay}
use Rattle.lt_model.proofs.Vectors.{dot-scale}
use Rattle.lt_model.proofs.Squares.{length-scale}
use Rattle.lt_model.proofs.Excess.{gradient, dot-combine, same_from_dots}
use Rattle.lt_model.proofs.Walk.{length-combine}
use Rattle.lt_model.proofs.Sets.{Contains-head, Contains-tail, Contains-cases, Contains-none, each_holds, never_below_itself, number_list_cmp_total}

abbrev pub lists : (d : ℕ) → List (Vec d) → List (List ℤ)
lists d [] = []
lists d (v ∷ C) = list d v ∷ lists d C

pub of_lists : (d : ℕ) (vs : List (List ℤ)) → AllOfDimension d vs → (C : List (Vec d)) × (lists d C ≡ vs)
of_lists d [] h = ([], refl)
of_lists d (v ∷ vs) h =
    let a = of_list d v (h.0) in
    let b = of_lists d vs (h.1) in
    (a.0 ∷ b.0, ap₂ (λ y z. y ∷ z) (a.1) (b.1))

pub all_lists : (d : ℕ) (C : List (Vec d)) → AllOfDimension d (lists d C)
all_lists d [] = tt
all_lists d (v ∷ C) = (length-list d v, all_lists d C)

pub list-same : (d : ℕ) (x y : Vec d) → list d x ≡ list d y → x ≡ y
list-same zero x y e = refl
list-same (suc d) x y e = λ i. (head_z (e i), list-same d (x.1) (y.1) (ap tail_z e) i)

-- coefficients at the points of a list
abbrev pub row : (d : ℕ) → (Vec d → ℤ) → List (Vec d) → List ℤ
row d s [] = []
row d s (v ∷ C) = s v ∷ row d s C

pub length-row : (d : ℕ) (s : Vec d → ℤ) (C : List (Vec d)) → length (row d s C) ≡ length (lists d C)
length-row d s [] = refl
length-row d s (v ∷ C) = ap suc (length-row d s C)

pub row-dot : (d : ℕ) (f : List ℤ → ℤ) (s : Vec d → ℤ) (C : List (Vec d)) → dot (row d s C) (map f (lists d C)) ≡ qs (λ v. f (list d v)) s C
row-dot d f s [] = sym (qs-nil (λ v. f (list d v)) s)
row-dot d f s (v ∷ C) = ap (λ z. s v *ℤ f (list d v) +ℤ z) (row-dot d f s C) ∙ sym (qs-cons (λ v. f (list d v)) s v C)

pub row-total : (d : ℕ) (s : Vec d → ℤ) (C : List (Vec d)) → total (row d s C) ≡ qs (λ v. pos 1) s C
row-total d s [] = sym (qs-nil (λ v. pos 1) s)
row-total d s (v ∷ C) = ap₂ (λ y z. y +ℤ z) (ring ((s v) ∷ []) (var 0) (var 0 ⊗ num (pos 1)) tt) (row-total d s C) ∙ sym (qs-cons (λ v. pos 1) s v C)

pub row-combine : (d : ℕ) (s : Vec d → ℤ) (C : List (Vec d)) (x : Vec d) (c : ℤ) → 0 < length (lists d C) → ((j : ℕ) → c *ℤ coordinate d j x ≡ qs (coordinate d j) s C) → combine (row d s C) (lists d C) ≡ scale c (list d x)
row-combine d s C x c n e = same_from_dots (combine (row d s C) (lists d C)) (scale c (list d x))
    (length-combine d (row d s C) (lists d C) (all_lists d C) (length-row d s C) n ∙ sym (length-list d x) ∙ sym (length-scale c (list d x)))
    (λ u. dot-combine u (row d s C) (lists d C) ∙ row-dot d (dot u) s C ∙ sym (carried d u x c s C e) ∙ sym (dot-scale u c (list d x)))

pub to_expression : (d : ℕ) (two : 2 ≤ d) (x : Vec d) (C : List (Vec d)) (c : ℤ) (b : Vec d → ℤ) → 0 < length (lists d C) → Expr (space d two) x C c b → IsExpression (lists d C) (list d x) c (row d b C)
to_expression d two x C c b n e = record { positive = e.positive; one_each = length-row d b C; point = row-combine d b C x c n e.is; sum = row-total d b C ∙ sym (e.is 0) ∙ ring (c ∷ []) (var 0 ⊗ num (pos 1)) (var 0) tt }

-- membership
pub to_in : (d : ℕ) (C : List (Vec d)) (x : Vec d) → Contains (lists d C) (list d x) → In (vec-dec d) x C
to_in d [] x h = Contains-none (list d x) h
to_in d (v ∷ C) x h = elim (Contains-cases (list d v) (lists d C) (list d x) h) [
  | inl e ↦ subst (λ y. In (vec-dec d) y (v ∷ C)) (list-same d v x e) (in-head (vec-dec d) v C)
  | inr r ↦ in-tail (vec-dec d) x v C (to_in d C x r)
]

pub from_in : (d : ℕ) (C : List (Vec d)) (x : Vec d) → In (vec-dec d) x C → Contains (lists d C) (list d x)
from_in d [] x h = absurd (in-nil h)
from_in d (v ∷ C) x h = elim (in-cases (vec-dec d) x v C h) [
  | inl e ↦ subst (λ y. Contains (list d v ∷ lists d C) (list d y)) (sym e) (Contains-head (list d v) (lists d C))
  | inr r ↦ Contains-tail (list d v) (lists d C) (list d x) (from_in d C x r)
]

-- ascending lists don't repeat
pub ascending-distinct : (d : ℕ) (C : List (Vec d)) → IsStrictlySortedBy number_list_cmp (lists d C) → Distinct (vec-dec d) C
unfolding IsStrictlySortedBy
ascending-distinct d [] h = distinct-nil (vec-dec d)
ascending-distinct d (v ∷ C) h = distinct-cons v C (ascending-distinct d C (h.1)) (λ i. never_below_itself number_list_cmp number_list_cmp_total (list d v) (each_holds (λ z. number_list_cmp (list d v) z ≡ Less) (lists d C) (list d v) (h.0) (from_in d C v i)))

zero-row : (d : ℕ) (s : Vec d → ℤ) (C : List (Vec d)) → row d s C ≡ zeros (length (lists d C)) → (v : Vec d) → In (vec-dec d) v C → s v ≡ pos 0
zero-row d s [] e v i = absurd (in-nil i)
zero-row d s (x ∷ C) e v i = elim (in-cases (vec-dec d) v x C i) [ inl q ↦ ap s q ∙ ap head_z e | inr k ↦ zero-row d s C (ap tail_z e) v k ]

-- a simplex of the model is independent
pub to_simp : (d : ℕ) (two : 2 ≤ d) (C : List (Vec d)) → IsClass d (lists d C) → Simp (space d two) C
to_simp d two C k = record {
  distinct = ascending-distinct d C k.ascending;
  free = λ s z. zero-row d s C (k.simplex.independent (row d s C) (length-row d s C) (row-total d s C ∙ z 0) (same_from_dots (combine (row d s C) (lists d C)) (zeros d)
      (length-combine d (row d s C) (lists d C) (all_lists d C) (length-row d s C) (omega (arith, k.simplex.count)) ∙ sym (length-none d))
      (λ u. dot-combine u (row d s C) (lists d C) ∙ row-dot d (dot u) s C ∙ flat-linear d u s C z ∙ sym (dot-zeros u d))));
}
  where
    length-none : (n : ℕ) → length (zeros n) ≡ n
    length-none zero = refl
    length-none (suc n) = ap suc (length-none n)

    dot-zeros : (u : List ℤ) (n : ℕ) → dot u (zeros n) ≡ pos 0
    dot-zeros [] n = refl
    dot-zeros (a ∷ u) zero = refl
    dot-zeros (a ∷ u) (suc n) = ap (λ z. a *ℤ pos 0 +ℤ z) (dot-zeros u n) ∙ ring (a ∷ []) (var 0 ⊗ num (pos 0) ⊕ num (pos 0)) (num (pos 0)) tt

-- and where the model says that it's strictly empty, it is
pub to_strict : (d : ℕ) (two : 2 ≤ d) (q : Form d) (C : List (Vec d)) → 0 < length (lists d C) → IsStrictlyEmpty d q.numbers (lists d C) → Strict (space d two) (at d q) C
to_strict d two q C n k = record {
  weak = record { outside = λ x c b e. subst (λ z. pos 0 ≤ℤ z) (same x c b) (k.outside (list d x) c (row d b C) (length-list d x) (to_expression d two x C c b n e)) };
  touches = λ x c b e z. to_in d C x (k.touches (list d x) c (row d b C) (length-list d x) (to_expression d two x C c b n e) (same x c b ∙ z));
}
  where
    same : (x : Vec d) (c : ℤ) (b : Vec d → ℤ) → c *ℤ value q.numbers (list d x) -ℤ dot (row d b C) (map (value q.numbers) (lists d C)) ≡ excess (at d q) x C c b
    same x c b = ap (λ z. c *ℤ at d q x -ℤ z) (row-dot d (value q.numbers) b C) ∙ sym (excess-is (at d q) x C c b)

-- ---- translations

abbrev pub shift : (d : ℕ) → Vec d → Vec d → Vec d
shift d y v = add d v y

abbrev pub opposite : (d : ℕ) → Vec d → Vec d
opposite d y = times d (negsuc 0) y

pub shift-back : (d : ℕ) (y v : Vec d) → shift d (opposite d y) (shift d y v) ≡ v
shift-back d y v = same-places d (shift d (opposite d y) (shift d y v)) v (λ j. place-add d (add d v y) (opposite d y) j ∙ ap₂ (λ a b. a +ℤ b) (place-add d v y j) (place-times d (negsuc 0) y j) ∙ omega (arith, ints))

pub shift-forth : (d : ℕ) (y v : Vec d) → shift d y (shift d (opposite d y) v) ≡ v
shift-forth d y v = same-places d (shift d y (shift d (opposite d y) v)) v (λ j. place-add d (add d v (opposite d y)) y j ∙ ap (λ a. a +ℤ place d y j) (place-add d v (opposite d y) j ∙ ap (λ b. place d v j +ℤ b) (place-times d (negsuc 0) y j)) ∙ omega (arith, ints))

abbrev pub off : (d : ℕ) → ℕ → Vec d → ℤ
off d zero y = pos 0
off d (suc j) y = place d y j

pub coordinate-shift : (d j : ℕ) (y v : Vec d) → coordinate d j (shift d y v) ≡ coordinate d j v +ℤ off d j y
coordinate-shift d zero y v = refl
coordinate-shift d (suc j) y v = place-add d v y j

pub sum-shift : (d j : ℕ) (y : Vec d) (s : Vec d → ℤ) (C : List (Vec d)) → qs (λ v. coordinate d j (shift d y v)) s C ≡ qs (coordinate d j) s C +ℤ off d j y *ℤ qs (coordinate d 0) s C
sum-shift d j y s C = qs-fun (λ v. coordinate d j (shift d y v)) (λ v. pos 1 *ℤ coordinate d j v +ℤ off d j y *ℤ pos 1) s (λ v. coordinate-shift d j y v ∙ ring ((coordinate d j v) ∷ (off d j y) ∷ []) (var 0 ⊕ var 1) (num (pos 1) ⊗ var 0 ⊕ var 1 ⊗ num (pos 1)) tt) C
    ∙ qs-of (coordinate d j) (λ v. pos 1) s (pos 1) (off d j y) C ∙ ring ((qs (coordinate d j) s C) ∷ (off d j y *ℤ qs (λ v. pos 1) s C) ∷ []) (num (pos 1) ⊗ var 0 ⊕ var 1) (var 0 ⊕ var 1) tt

value-shift : (d : ℕ) (q : Form d) (y : Vec d) (s : Vec d → ℤ) (C : List (Vec d)) → qs (λ v. at d q (shift d y v)) s C ≡ qs (at d q) s C +ℤ (at d q y *ℤ qs (coordinate d 0) s C +ℤ qs (λ v. dot ((gradient q.numbers (list d y)).0) (list d v)) s C)
value-shift d q y s C = qs-fun (λ v. at d q (shift d y v)) (λ v. pos 1 *ℤ at d q v +ℤ pos 1 *ℤ (at d q y *ℤ pos 1 +ℤ pos 1 *ℤ g v)) s (λ v. at-add d q v y ∙ ring ((at d q v) ∷ (at d q y) ∷ (g v) ∷ []) (var 0 ⊕ var 1 ⊕ var 2) (num (pos 1) ⊗ var 0 ⊕ num (pos 1) ⊗ (var 1 ⊗ num (pos 1) ⊕ num (pos 1) ⊗ var 2)) tt) C
    ∙ qs-of (at d q) (λ v. at d q y *ℤ pos 1 +ℤ pos 1 *ℤ g v) s (pos 1) (pos 1) C ∙ ap (λ z. pos 1 *ℤ qs (at d q) s C +ℤ pos 1 *ℤ z) (qs-of (λ v. pos 1) g s (at d q y) (pos 1) C)
    ∙ ring ((qs (at d q) s C) ∷ (at d q y) ∷ (qs (λ v. pos 1) s C) ∷ (qs g s C) ∷ []) (num (pos 1) ⊗ var 0 ⊕ num (pos 1) ⊗ (var 1 ⊗ var 2 ⊕ num (pos 1) ⊗ var 3)) (var 0 ⊕ (var 1 ⊗ var 2 ⊕ var 3)) tt
  where
    g : Vec d → ℤ
    g v = dot ((gradient q.numbers (list d y)).0) (list d v)

-- values of a dependency are invariant
pub flat-shift : (d : ℕ) (q : Form d) (y : Vec d) (s : Vec d → ℤ) (C : List (Vec d)) → ((j : ℕ) → qs (coordinate d j) s C ≡ pos 0) → qs (λ v. at d q (shift d y v)) s C ≡ qs (at d q) s C
flat-shift d q y s C z = value-shift d q y s C ∙ ap₂ (λ a b. qs (at d q) s C +ℤ (at d q y *ℤ a +ℤ b)) (z 0) (flat-linear d ((gradient q.numbers (list d y)).0) s C z) ∙ ring ((qs (at d q) s C) ∷ (at d q y) ∷ []) (var 0 ⊕ (var 1 ⊗ num (pos 0) ⊕ num (pos 0))) (var 0) tt

-- an expression over a translate, carried back
pub expr-back : (d : ℕ) (two : 2 ≤ d) (y x : Vec d) (C : List (Vec d)) (c : ℤ) (b : Vec d → ℤ) → Expr (space d two) x (moved (shift d y) C) c b → Expr (space d two) (shift d (opposite d y) x) C c (λ v. b (shift d y v))
expr-back d two y x C c b e = record { positive = e.positive; is = eq }
  where
    x' : Vec d
    x' = shift d (opposite d y) x

    b' : Vec d → ℤ
    b' v = b (shift d y v)

    eq0 : (j : ℕ) → c *ℤ coordinate d j (shift d y x') ≡ qs (coordinate d j) b' C +ℤ off d j y *ℤ qs (coordinate d 0) b' C
    eq0 j = ap (λ z. c *ℤ coordinate d j z) (shift-forth d y x) ∙ e.is j ∙ qs-moved (shift d y) (coordinate d j) b C ∙ sum-shift d j y b' C

    ones : c ≡ qs (coordinate d 0) b' C
    ones = ring_by (c ∷ (qs (coordinate d 0) b' C) ∷ []) (var 0) (var 1) (num (pos 1)) (var 0 ⊗ num (pos 1)) (var 1 ⊕ num (pos 0) ⊗ var 1) tt (eq0 0)

    eq : (j : ℕ) → c *ℤ coordinate d j x' ≡ qs (coordinate d j) b' C
    eq j = ring_by_two (c ∷ (coordinate d j x') ∷ (off d j y) ∷ (qs (coordinate d j) b' C) ∷ (qs (coordinate d 0) b' C) ∷ []) (var 0 ⊗ var 1) (var 3) (num (pos 1)) (var 0 ⊗ (var 1 ⊕ var 2)) (var 3 ⊕ var 2 ⊗ var 4) (neg (var 2)) (var 0) (var 4) tt (ap (λ z. c *ℤ z) (sym (coordinate-shift d j y x')) ∙ eq0 j) (ones)

pub excess-back : (d : ℕ) (two : 2 ≤ d) (q : Form d) (y x : Vec d) (C : List (Vec d)) (c : ℤ) (b : Vec d → ℤ) → Expr (space d two) x (moved (shift d y) C) c b → excess (at d q) x (moved (shift d y) C) c b ≡ excess (at d q) (shift d (opposite d y) x) C c (λ v. b (shift d y v))
excess-back d two q y x C c b e = excess-is (at d q) x (moved (shift d y) C) c b ∙ ap₂ (λ u v. c *ℤ u -ℤ v) (ap (at d q) (sym (shift-forth d y x)) ∙ at-add d q x' y) (qs-moved (shift d y) (at d q) b C ∙ value-shift d q y b' C)
    ∙ ring_by_two (c ∷ (at d q x') ∷ (at d q y) ∷ (g x') ∷ (qs (at d q) b' C) ∷ (qs (coordinate d 0) b' C) ∷ (qs g b' C) ∷ []) (var 0 ⊗ (var 1 ⊕ var 2 ⊕ var 3) ⊖ (var 4 ⊕ (var 2 ⊗ var 5 ⊕ var 6))) (var 0 ⊗ var 1 ⊖ var 4) (var 2) (var 0 ⊗ num (pos 1)) (var 5) (num (pos 1)) (var 0 ⊗ var 3) (var 6) tt (ex.is 0) (carried d ((gradient q.numbers (list d y)).0) x' c b' C ex.is) ∙ sym (excess-is (at d q) x' C c b')
  where
    x' : Vec d
    x' = shift d (opposite d y) x

    b' : Vec d → ℤ
    b' v = b (shift d y v)

    g : Vec d → ℤ
    g v = dot ((gradient q.numbers (list d y)).0) (list d v)

    ex : Expr (space d two) x' C c b'
    ex = expr-back d two y x C c b e

in-shift : (d : ℕ) (y x : Vec d) (C : List (Vec d)) → In (vec-dec d) (shift d (opposite d y) x) C → In (vec-dec d) x (moved (shift d y) C)
in-shift d y x C i = subst (λ z. In (vec-dec d) z (moved (shift d y) C)) (shift-forth d y x) (in-moved (vec-dec d) (shift d y) (shift d (opposite d y) x) C i)

pub strict-moved : (d : ℕ) (two : 2 ≤ d) (q : Form d) (y : Vec d) (C : List (Vec d)) → Strict (space d two) (at d q) C → Strict (space d two) (at d q) (moved (shift d y) C)
strict-moved d two q y C k = record {
  weak = record { outside = λ x c b e. subst (λ z. pos 0 ≤ℤ z) (sym (excess-back d two q y x C c b e)) (k.weak.outside (shift d (opposite d y) x) c (λ v. b (shift d y v)) (expr-back d two y x C c b e)) };
  touches = λ x c b e z. in-shift d y x C (k.touches (shift d (opposite d y) x) c (λ v. b (shift d y v)) (expr-back d two y x C c b e) (sym (excess-back d two q y x C c b e) ∙ z));
}

pub moved_back : (d : ℕ) (y : Vec d) (C : List (Vec d)) → moved (shift d (opposite d y)) (moved (shift d y) C) ≡ C
unfolding moved
moved_back d y [] = refl
moved_back d y (v ∷ C) = ap₂ (λ a b. a ∷ b) (shift-back d y v) (moved_back d y C)

pub twice : (d : ℕ) (y z : Vec d) (C : List (Vec d)) → moved (shift d z) (moved (shift d y) C) ≡ moved (shift d (add d y z)) C
unfolding moved
twice d y z [] = refl
twice d y z (v ∷ C) = ap₂ (λ a b. a ∷ b) (same-places d (add d (add d v y) z) (add d v (add d y z)) (λ j. place-add d (add d v y) z j ∙ ap (λ u. u +ℤ place d z j) (place-add d v y j) ∙ ring ((place d v j) ∷ (place d y j) ∷ (place d z j) ∷ []) (var 0 ⊕ var 1 ⊕ var 2) (var 0 ⊕ (var 1 ⊕ var 2)) tt ∙ sym (place-add d v (add d y z) j ∙ ap (λ u. place d v j +ℤ u) (place-add d y z j)))) (twice d y z C)

pub distinct-moved : (d : ℕ) (y : Vec d) (C : List (Vec d)) → Distinct (vec-dec d) C → Distinct (vec-dec d) (moved (shift d y) C)
unfolding moved
distinct-moved d y [] h = h
distinct-moved d y (v ∷ C) h = distinct-cons (shift d y v) (moved (shift d y) C) (distinct-moved d y C (distinct-tail h)) (λ i. distinct-out h (subst (λ z. In (vec-dec d) z C) (shift-back d y v) (subst (λ z. In (vec-dec d) (shift d (opposite d y) (shift d y v)) z) (moved_back d y C) (in-moved (vec-dec d) (shift d (opposite d y)) (shift d y v) (moved (shift d y) C) i))))

moved-in : (d : ℕ) (y x : Vec d) (C : List (Vec d)) → In (vec-dec d) x (moved (shift d y) C) → In (vec-dec d) (shift d (opposite d y) x) C
moved-in d y x C i = subst (λ z. In (vec-dec d) (shift d (opposite d y) x) z) (back C) (in-moved (vec-dec d) (shift d (opposite d y)) x (moved (shift d y) C) i)
  where
    back : (C : List (Vec d)) → moved (shift d (opposite d y)) (moved (shift d y) C) ≡ C
    back C = moved_back d y C

pub simp-moved : (d : ℕ) (two : 2 ≤ d) (y : Vec d) (C : List (Vec d)) → Simp (space d two) C → Simp (space d two) (moved (shift d y) C)
simp-moved d two y C k = record { distinct = distinct-moved d y C k.distinct; free = λ s z v i. subst (λ w. s w ≡ pos 0) (shift-forth d y v) (k.free (λ w. s (shift d y w)) (flat s z) (shift d (opposite d y) v) (moved-in d y v C i)) }
  where
    both : (s : Vec d → ℤ) → ((j : ℕ) → qs (coordinate d j) s (moved (shift d y) C) ≡ pos 0) → (j : ℕ) → qs (coordinate d j) (λ w. s (shift d y w)) C +ℤ off d j y *ℤ qs (coordinate d 0) (λ w. s (shift d y w)) C ≡ pos 0
    both s z j = sym (sum-shift d j y (λ w. s (shift d y w)) C) ∙ sym (qs-moved (shift d y) (coordinate d j) s C) ∙ z j

    flat : (s : Vec d → ℤ) → ((j : ℕ) → qs (coordinate d j) s (moved (shift d y) C) ≡ pos 0) → (j : ℕ) → qs (coordinate d j) (λ w. s (shift d y w)) C ≡ pos 0
    flat s z j = ring_by_two ((qs (coordinate d j) (λ w. s (shift d y w)) C) ∷ (off d j y) ∷ (qs (coordinate d 0) (λ w. s (shift d y w)) C) ∷ []) (var 0) (num (pos 0)) (num (pos 1)) (var 0 ⊕ var 1 ⊗ var 2) (num (pos 0)) (neg (var 1)) (var 2 ⊕ num (pos 0) ⊗ var 2) (num (pos 0)) tt (both s z j) (both s z 0)

-- ---- placed simplices

pub record Placed (d : ℕ) (t : List (List (List ℤ))) (S : List (Vec d)) : Type 0 where
  pub base : List (Vec d)
  pub by : Vec d
  pub member : Contains t (lists d base)
  pub alike : Alike S (moved (shift d by) base)

pub placed-alike : (d : ℕ) (t : List (List (List ℤ))) → {S S' : List (Vec d)} → Placed d t S → Alike S S' → Placed d t S'
placed-alike d t h k = record { base = h.base; by = h.by; member = h.member; alike = alike-trans (alike-sym k) h.alike }

pub placed-moved : (d : ℕ) (t : List (List (List ℤ))) (y : Vec d) (S : List (Vec d)) → Placed d t S → Placed d t (moved (shift d y) S)
placed-moved d t y S h = record { base = h.base; by = add d h.by y; member = h.member; alike = alike-trans (alike-moved (shift d y) h.alike) (subst (λ z. Alike (moved (shift d y) (moved (shift d h.by) h.base)) z) (twice d h.by y h.base) (alike-refl (moved (shift d y) (moved (shift d h.by) h.base)))) }

pub placed-simp : (d : ℕ) (two : 2 ≤ d) (q : Form d) (t : List (List (List ℤ))) → IsDelaunay d q.numbers t → (S : List (Vec d)) → Placed d t S → Simp (space d two) S
placed-simp d two q t k S h = simp-alike (simp-moved d two h.by h.base (to_simp d two h.base ((k.members (lists d h.base)).0 h.member).0)) (alike-sym h.alike)

pub strict-alike : {P Fo : Type 0} → {sp : Space P Fo} → {q : P → ℤ} → {S S' : List P} → Strict sp q S → Alike S S' → Strict sp q S'
strict-alike {P} {Fo} {sp} {q} {S} {S'} k al = record {
  weak = record { outside = λ x c b e. subst (λ z. pos 0 ≤ℤ z) (same x c b) (k.weak.outside x c b (turn x c b e)) };
  touches = λ x c b e z. in-alike (k.touches x c b (turn x c b e) (same x c b ∙ z)) al;
}
  where
    turn : (x : P) (c : ℤ) (b : P → ℤ) → Expr sp x S' c b → Expr sp x S c b
    turn x c b e = record { positive = e.positive; is = λ j. e.is j ∙ sym (al.same (sp.hom j) b) }

    same : (x : P) (c : ℤ) (b : P → ℤ) → excess q x S c b ≡ excess q x S' c b
    same x c b = excess-is q x S c b ∙ ap (λ z. c *ℤ q x -ℤ z) (al.same q b) ∙ sym (excess-is q x S' c b)

pub placed-strict : (d : ℕ) (two : 2 ≤ d) (q : Form d) (t : List (List (List ℤ))) → IsDelaunay d q.numbers t → (S : List (Vec d)) → Placed d t S → Strict (space d two) (at d q) S
placed-strict d two q t k S h = let m = (k.members (lists d h.base)).0 h.member in
    strict-alike (strict-moved d two q h.by h.base (to_strict d two q h.base (omega (arith, m.0.simplex.count)) (m.1))) (alike-sym h.alike)

pub to_definite : (d : ℕ) (two : 2 ≤ d) (q : Form d) → IsPositiveDefinite d q.numbers → Definite (space d two) q
to_definite d two q k = record { above = λ x v n. k.positive (list d (less d x v)) (length-list d (less d x v)) (λ e. n (same-places d x v (λ j. omega (arith, ints, place-less d x v j, zero-places d (less d x v) e j)))) }
  where
    zero-places : (d : ℕ) (x : Vec d) → list d x ≡ zeros d → (j : ℕ) → place d x j ≡ pos 0
    zero-places zero x e j = refl
    zero-places (suc d) x e zero = ap head_z e
    zero-places (suc d) x e (suc j) = zero-places d (x.1) (ap tail_z e) j
