-- Unit vectors, and the excesses of two points opposite at a vertex.
use Rattle.std.proofs.Common.{◌≡◌, ℕ, zero, suc, ℤ, pos, negsuc, ◌+ℤ◌, ◌-ℤ◌, ◌*ℤ◌, ◌<◌, refl, ap, arith, sym, ◌∙◌, List, [], ◌∷◌, length, map, get_or}
use Rattle.std.proofs.lemmas.Int.{ints}
use Rattle.lt_model.proofs.Integers.{spread, triple_is, mul_add_z}
use Rattle.lt_model.proofs.Squares.{parallelogram}
use Rattle.lt_model.proofs.Excess.{plus-dot, scale-dot}
use Rattle.lt_model.proofs.Walk.{number_at-map, length-map}
use Rattle.lt_model.specs.Vectors.{plus, minus, scale, dot, zeros, unit}
use Rattle.lt_model.specs.Forms.{value}
use Rattle.lt_model.specs.Simplices.{excess}
use Rattle.lt_model.specs.Facets.{number_at}

pub length-zeros : (n : ℕ) → length (zeros n) ≡ n
length-zeros zero = refl
length-zeros (suc n) = ap suc (length-zeros n)

pub length-unit : (n k : ℕ) → length (unit n k) ≡ n
length-unit zero k = refl
length-unit (suc n) zero = ap suc (length-zeros n)
length-unit (suc n) (suc k) = ap suc (length-unit n k)

pub zeros-dot : (n : ℕ) (u : List ℤ) → dot (zeros n) u ≡ pos 0
zeros-dot zero u = refl
zeros-dot (suc n) [] = refl
zeros-dot (suc n) (a ∷ u) = omega (arith, ints, zeros-dot n u)

pub unit-dot : (n k : ℕ) (u : List ℤ) → length u ≡ n → dot (unit n k) u ≡ number_at k u
unit-dot zero k [] l = refl
unit-dot zero k (a ∷ u) l = absurd (omega arith)
unit-dot (suc n) k [] l = absurd (omega arith)
unit-dot (suc n) zero (a ∷ u) l = omega (arith, ints, zeros-dot n u)
unit-dot (suc n) (suc k) (a ∷ u) l = omega (arith, ints, unit-dot n k u (omega arith))
