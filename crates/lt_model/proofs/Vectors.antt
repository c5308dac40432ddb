-- Laws of vectors of any length, and linearity of Q[x] in Q.
use Rattle.std.proofs.Common.{◌≡◌, ℤ, ◌+ℤ◌, ◌*ℤ◌, refl, ap, arith, sym, ◌∙◌, List, [], ◌∷◌, map}
use Rattle.std.proofs.lemmas.Int.{ints}
use Rattle.std.proofs.Math.IntN.{*ℤ_comm, *ℤ-zero}
use Rattle.lt_model.proofs.Integers.{spread, triple_is, mul_add_z, add_mul_z, mul_assoc_z}
use Rattle.lt_model.specs.Vectors.{plus, scale, dot}
use Rattle.lt_model.specs.Forms.{squares, value}

pub dot-plus : (q x y : List ℤ) → dot q (plus x y) ≡ dot q x +ℤ dot q y
dot-plus [] x y = refl
dot-plus (a ∷ q) [] y = omega (arith, ints)
dot-plus (a ∷ q) (b ∷ x) [] = omega (arith, ints)
dot-plus (a ∷ q) (b ∷ x) (c ∷ y) = rw (dot-plus q x y) (simp spread (omega (arith, ints)))

pub dot-scale : (q : List ℤ) (k : ℤ) (x : List ℤ) → dot q (scale k x) ≡ k *ℤ dot q x
dot-scale [] k x = sym (*ℤ-zero k)
dot-scale (a ∷ q) k [] = sym (*ℤ-zero k)
dot-scale (a ∷ q) k (b ∷ x) = rw (dot-scale q k x) (simp spread (omega (arith, ints, triple_is)))

pub dot_comm : (x y : List ℤ) → dot x y ≡ dot y x
dot_comm [] [] = refl
dot_comm [] (b ∷ y) = refl
dot_comm (a ∷ x) [] = refl
dot_comm (a ∷ x) (b ∷ y) = rw (dot_comm x y, *ℤ_comm a b) refl

pub plus_comm : (x y : List ℤ) → plus x y ≡ plus y x
plus_comm [] [] = refl
plus_comm [] (b ∷ y) = refl
plus_comm (a ∷ x) [] = refl
plus_comm (a ∷ x) (b ∷ y) =
    let e : a +ℤ b ≡ b +ℤ a = omega (arith, ints) in
    rw (plus_comm x y, e) refl

pub plus_assoc : (x y z : List ℤ) → plus (plus x y) z ≡ plus x (plus y z)
plus_assoc [] y z = refl
plus_assoc (a ∷ x) [] z = refl
plus_assoc (a ∷ x) (b ∷ y) [] = refl
plus_assoc (a ∷ x) (b ∷ y) (c ∷ z) =
    let e : (a +ℤ b) +ℤ c ≡ a +ℤ (b +ℤ c) = omega (arith, ints) in
    rw (plus_assoc x y z, e) refl

pub scale-plus : (k : ℤ) (x y : List ℤ) → scale k (plus x y) ≡ plus (scale k x) (scale k y)
scale-plus k [] y = refl
scale-plus k (a ∷ x) [] = refl
scale-plus k (a ∷ x) (b ∷ y) = rw (scale-plus k x y, mul_add_z k a b) refl

pub add-scale : (j k : ℤ) (x : List ℤ) → scale (j +ℤ k) x ≡ plus (scale j x) (scale k x)
add-scale j k [] = refl
add-scale j k (a ∷ x) = rw (add-scale j k x, add_mul_z j k a) refl

pub scale-scale : (j k : ℤ) (x : List ℤ) → scale j (scale k x) ≡ scale (j *ℤ k) x
scale-scale j k [] = refl
scale-scale j k (a ∷ x) = rw (scale-scale j k x, mul_assoc_z j k a) refl

pub map-is-scale : (k : ℤ) (xs : List ℤ) → map (λ z. k *ℤ z) xs ≡ scale k xs
map-is-scale k [] = refl
map-is-scale k (x ∷ xs) = ap (λ (t : List ℤ). (k *ℤ x) ∷ t) (map-is-scale k xs)

-- Q[x] is linear in Q
pub value-plus : (q r x : List ℤ) → value (plus q r) x ≡ value q x +ℤ value r x
value-plus q r x = dot_comm (plus q r) (squares x) ∙ dot-plus (squares x) q r ∙ (rw (dot_comm (squares x) q, dot_comm (squares x) r) refl)

pub value-scale : (k : ℤ) (q x : List ℤ) → value (scale k q) x ≡ k *ℤ value q x
value-scale k q x = dot_comm (scale k q) (squares x) ∙ dot-scale (squares x) k q ∙ ap (λ n. k *ℤ n) (dot_comm (squares x) q)
