-- Images of points under matrices, products, inverses.
use Rattle.std.proofs.Common.{◌≡◌, ℕ, zero, suc, ℤ, pos, ◌+ℤ◌, ◌*ℤ◌, ◌<◌, refl, ap, arith, sym, ◌∙◌, List, [], ◌∷◌, length, map}
use Rattle.std.proofs.lemmas.Int.{ints}
use Rattle.lt_model.specs.Matrices.{times, apply, identity, IsSquare, IsInverse}
use Rattle.lt_model.specs.Simplices.{AllOfDimension}
use Rattle.lt_model.specs.Vectors.{plus, scale, dot, combine, zeros}
use Rattle.lt_model.proofs.Excess.{plus-dot, scale-dot}
use Rattle.lt_model.proofs.Flat.{identity_square, times_square}
use Rattle.lt_model.proofs.Opposite.{length-zeros, zeros-dot}
use Rattle.lt_model.proofs.Vectors.{dot-plus, dot-scale, dot_comm}
use Rattle.lt_model.proofs.Walk.{length-combine}
use Rattle.lt_model.proofs.Points.{length-apply}

-- a linear function of an image: the rows of u combined
pub dot-apply : (w : List ℤ) (u : List (List ℤ)) (x : List ℤ) → dot w (apply u x) ≡ dot (combine w u) x
dot-apply [] u x = refl
dot-apply (k ∷ w) [] x = refl
dot-apply (k ∷ w) (r ∷ u) x = rw (dot-apply w u x, plus-dot (scale k r) (combine w u) x, scale-dot k r x) refl

pub apply-plus : (u : List (List ℤ)) (x y : List ℤ) → apply u (plus x y) ≡ plus (apply u x) (apply u y)
apply-plus [] x y = refl
apply-plus (r ∷ u) x y = rw (apply-plus u x y, dot-plus r x y) refl

pub apply-scale : (u : List (List ℤ)) (k : ℤ) (x : List ℤ) → apply u (scale k x) ≡ scale k (apply u x)
apply-scale [] k x = refl
apply-scale (r ∷ u) k x = rw (apply-scale u k x, dot-scale r k x) refl

pub apply-zeros : (u : List (List ℤ)) (n : ℕ) → apply u (zeros n) ≡ zeros (length u)
apply-zeros [] n = refl
apply-zeros (r ∷ u) n =
    let e : dot r (zeros n) ≡ pos 0 = dot_comm r (zeros n) ∙ zeros-dot n r in
    rw (apply-zeros u n, e) refl

-- the image under a product
pub apply-times : (u v : List (List ℤ)) (x : List ℤ) → apply (times u v) x ≡ apply u (apply v x)
apply-times [] v x = refl
apply-times (r ∷ u) v x = rw (apply-times u v x, ← dot-apply r v x) refl

apply_padded : (a : ℤ) (u : List (List ℤ)) (x : List ℤ) → apply (map (λ v. pos 0 ∷ v) u) (a ∷ x) ≡ apply u x
apply_padded a [] x = refl
apply_padded a (r ∷ u) x =
    let e : pos 0 *ℤ a +ℤ dot r x ≡ dot r x = omega (arith, ints) in
    rw (apply_padded a u x, e) refl

pub apply-identity : (d : ℕ) (x : List ℤ) → length x ≡ d → apply (identity d) x ≡ x
apply-identity zero [] l = refl
apply-identity zero (a ∷ x) l = absurd (omega arith)
apply-identity (suc d) [] l = absurd (omega arith)
apply-identity (suc d) (a ∷ x) l =
    let e : pos 1 *ℤ a +ℤ dot (zeros d) x ≡ a = omega (arith, ints, zeros-dot d x) in
    rw (e, apply_padded a (identity d) x, apply-identity d x (omega arith)) refl

-- ---- equal vectors and equal matrices

-- vectors of d numbers are equal where the linear functions of d numbers agree
pub same_from_dots_at : (d : ℕ) (x y : List ℤ) → length x ≡ d → length y ≡ d → ((w : List ℤ) → length w ≡ d → dot w x ≡ dot w y) → x ≡ y
same_from_dots_at zero [] [] lx ly h = refl
same_from_dots_at zero (a ∷ x) y lx ly h = absurd (omega arith)
same_from_dots_at zero [] (b ∷ y) lx ly h = absurd (omega arith)
same_from_dots_at (suc d) [] y lx ly h = absurd (omega arith)
same_from_dots_at (suc d) (a ∷ x) [] lx ly h = absurd (omega arith)
same_from_dots_at (suc d) (a ∷ x) (b ∷ y) lx ly h =
    let head : a ≡ b = omega (arith, ints, h (pos 1 ∷ zeros d) (ap suc (length-zeros d)), zeros-dot d x, zeros-dot d y) in
    let tail : x ≡ y = same_from_dots_at d x y (omega arith) (omega arith) (λ w l. omega (arith, ints, h (pos 0 ∷ w) (ap suc l))) in
    cc

-- matrices that send each vector to the same place are equal
pub same_matrices : (d : ℕ) (u v : List (List ℤ)) → AllOfDimension d u → AllOfDimension d v → length u ≡ length v → ((x : List ℤ) → length x ≡ d → apply u x ≡ apply v x) → u ≡ v
same_matrices d [] [] au av l h = refl
same_matrices d [] (s ∷ v) au av l h = absurd (omega arith)
same_matrices d (r ∷ u) [] au av l h = absurd (omega arith)
same_matrices d (r ∷ u) (s ∷ v) au av l h =
    let heads : (x : List ℤ) → length x ≡ d → dot x r ≡ dot x s = λ x lx. dot_comm x r ∙ first (h x lx) ∙ dot_comm s x in
    let head : r ≡ s = same_from_dots_at d r s au.0 av.0 heads in
    let tail : u ≡ v = same_matrices d u v au.1 av.1 (omega arith) (λ x lx. rest (h x lx)) in
    cc
  where
    first : {a b : ℤ} {x y : List ℤ} → (let w : List ℤ = a ∷ x in w) ≡ (b ∷ y) → a ≡ b
    first e = cc

    rest : {a b : ℤ} {x y : List ℤ} → (let w : List ℤ = a ∷ x in w) ≡ (b ∷ y) → x ≡ y
    rest e = cc

-- a combination of d vectors of length d; also of none of length 0
pub length-combine_at : (d n : ℕ) (b : List ℤ) (vs : List (List ℤ)) → AllOfDimension d vs → length b ≡ n → length vs ≡ n → 0 < n → length (combine b vs) ≡ d
length-combine_at d n b vs all lb lv some = length-combine d b vs all (lb ∙ sym lv) (omega arith)

-- v undoes u, on vectors
pub record IsUndone (d : ℕ) (u v : List (List ℤ)) : Type 0 where
  pub square : IsSquare d u
  pub other : IsSquare d v
  pub right : (x : List ℤ) → length x ≡ d → apply u (apply v x) ≡ x
  pub left : (x : List ℤ) → length x ≡ d → apply v (apply u x) ≡ x

pub undone : (d : ℕ) (u v : List (List ℤ)) → IsSquare d u → IsInverse d u v → IsUndone d u v
undone d u v su h = record {
  square = su;
  other = h.square;
  right = λ x l. sym (apply-times u v x) ∙ ap (λ m. apply m x) h.right ∙ apply-identity d x l;
  left = λ x l. sym (apply-times v u x) ∙ ap (λ m. apply m x) h.left ∙ apply-identity d x l;
}

is_identity : (d : ℕ) (u v : List (List ℤ)) → IsSquare d u → IsSquare d v → ((x : List ℤ) → length x ≡ d → apply u (apply v x) ≡ x) → times u v ≡ identity d
is_identity d u v su sv h =
    let st : IsSquare d (times u v) = times_square d u v su sv in
    same_matrices d (times u v) (identity d) st.columns (let i = identity_square d in i.columns) (st.rows ∙ sym (let i = identity_square d in i.rows)) (λ x l. apply-times u v x ∙ h x l ∙ sym (apply-identity d x l))

pub inverse_from_undone : (d : ℕ) (u v : List (List ℤ)) → IsUndone d u v → IsInverse d u v
inverse_from_undone d u v h = record { square = h.other; right = is_identity d u v h.square h.other h.right; left = is_identity d v u h.other h.square h.left }

pub undone_back : (d : ℕ) (u v : List (List ℤ)) → IsUndone d u v → IsUndone d v u
undone_back d u v h = record { square = h.other; other = h.square; right = h.left; left = h.right }

pub undone_times : (d : ℕ) (u u' v v' : List (List ℤ)) → IsUndone d u u' → IsUndone d v v' → IsUndone d (times v u) (times u' v')
undone_times d u u' v v' h k = record {
  square = times_square d v u k.square h.square;
  other = times_square d u' v' h.other k.other;
  right = λ x l. go v u u' v' x (h.right (apply v' x) (length-apply v' x ∙ k.other.rows)) (k.right x l);
  left = λ x l. go u' v' v u x (k.left (apply u x) (length-apply u x ∙ h.square.rows)) (h.left x l);
}
  where
    go : (a b c e : List (List ℤ)) (x : List ℤ) → apply b (apply c (apply e x)) ≡ apply e x → apply a (apply e x) ≡ x → apply (times a b) (apply (times c e) x) ≡ x
    go a b c e x h k = apply-times a b (apply (times c e) x) ∙ ap (λ y. apply a (apply b y)) (apply-times c e x) ∙ ap (apply a) h ∙ k

pub undone_identity : (d : ℕ) → IsUndone d (identity d) (identity d)
undone_identity d =
    let twice : (x : List ℤ) → length x ≡ d → apply (identity d) (apply (identity d) x) ≡ x =
    λ x l. ap (apply (identity d)) (apply-identity d x l) ∙ apply-identity d x l in
    record { square = identity_square d; other = identity_square d; right = twice; left = twice }

pub map-apply_all : (d : ℕ) (u : List (List ℤ)) (vs : List (List ℤ)) → length u ≡ d → AllOfDimension d (map (apply u) vs)
map-apply_all d u [] lu = tt
map-apply_all d u (v ∷ vs) lu = (length-apply u v ∙ lu, map-apply_all d u vs lu)
