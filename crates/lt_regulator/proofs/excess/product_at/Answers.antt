use Rattle.std.proofs.Common.{◌≡◌, ◌≤◌, ◌^◌, ◌*ℤ◌, ℤ, nat_abs, ap₂, arith, ◌∙◌}
use Rattle.std.proofs.lemmas.Int.{ints, to_z-of_z, fits_signed_mul}
use Rattle.lt_lattice.proofs.Dots.{product_within}
use mir.Syntax.{w64}
use mir.Val.{SFits, of_z, to_z}
use Rattle.lt_regulator.proofs.excess.product_at.Goals as goal

fits : (x : ℤ) → nat_abs x ≤ 2 ^ 20 → SFits w64 x
fits x h = omega (arith, ints)

cast : (x y : ℤ) → nat_abs x ≤ 2 ^ 20 → nat_abs y ≤ 2 ^ 20 → to_z w64 (of_z w64 (to_z w64 (of_z w64 x) *ℤ to_z w64 (of_z w64 y))) ≡ x *ℤ y
cast x y hx hy = rw (to_z-of_z w64 x (fits x hx), to_z-of_z w64 y (fits y hy)) (to_z-of_z w64 (x *ℤ y) (fits_signed_mul w64 x y (2 ^ 20) (2 ^ 20) (omega (arith, ints)) (omega (arith, ints)) (omega arith)))

bound : (x y : ℤ) → nat_abs x ≤ 2 ^ 20 → nat_abs y ≤ 2 ^ 20 → nat_abs (x *ℤ y) ≤ 2 ^ 40
bound x y hx hy = product_within x y (2 ^ 20) (2 ^ 20) hx hy

pub returns-clause-value : goal.returns-clause-value
returns-clause-value c = cast c.coord.result c.coord-2.result c.coord.ensures.within c.coord-2.ensures.within ∙ ap₂ ◌*ℤ◌ c.coord.ensures.value c.coord-2.ensures.value

pub returns-clause-small : goal.returns-clause-small
returns-clause-small c = rw (cast c.coord.result c.coord-2.result c.coord.ensures.within c.coord-2.ensures.within) (bound c.coord.result c.coord-2.result c.coord.ensures.within c.coord-2.ensures.within)
