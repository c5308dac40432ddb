-- Differences of points place by place, the casts that the code makes of coordinates, and zeros.
use Rattle.std.proofs.Common.{◌≡◌, ℕ, zero, suc, ℤ, pos, negsuc, ◌+ℤ◌, ◌-ℤ◌, ◌*ℤ◌, ◌<◌, ◌≤◌, ◌+◌, ◌^◌, refl, ap, arith, ◌∙◌, List, [], ◌∷◌, ◌++◌, length, drop, get_or, drop-cons, add-one, nat_abs, append_assoc}
use Rattle.std.proofs.lemmas.Int.{ints, to_z-of_z}
use mir.Val.{SFits, of_z, to_z}
use mir.Syntax.{w32}
use Rattle.std.specs.List.{All}
use Rattle.std.proofs.lemmas.List.Elements.{All-nil, All-cons}
use Rattle.lt_lattice.specs.Ranges.{IsWithin}
use Rattle.lt_model.specs.Vectors.{minus, zeros}

-- one place more of the difference of a and b
pub difference_step : (a b all m : List ℤ) (i : ℕ) → i < length a → i < length b → all ++ minus (drop i a) (drop i b) ≡ m → (all ++ (get_or a i (pos 0) -ℤ get_or b i (pos 0)) ∷ []) ++ minus (drop (i + 1) a) (drop (i + 1) b) ≡ m
difference_step a b all m i p q h =
    let x = get_or a i (pos 0) in
    let y = get_or b i (pos 0) in
    let sign : x +ℤ negsuc 0 *ℤ y ≡ x -ℤ y = omega (arith, ints) in
    let e : minus (drop i a) (drop i b) ≡ (x +ℤ negsuc 0 *ℤ y) ∷ minus (drop (i + 1) a) (drop (i + 1) b) = rw (add-one i, drop-cons a i (pos 0), drop-cons b i (pos 0)) refl in
    rw append_assoc (rw sign at (rw e at h))

pub fits32 : (x : ℤ) → nat_abs x ≤ 2 ^ 20 → SFits w32 x
fits32 x h = omega (arith, ints)

-- the sum that the code makes of two coordinates
pub cast_sum : (x y : ℤ) → nat_abs x ≤ 2 ^ 20 → nat_abs y ≤ 2 ^ 20 →
    to_z w32 (of_z w32 (to_z w32 (of_z w32 x) +ℤ to_z w32 (of_z w32 y))) ≡ x +ℤ y
cast_sum x y hx hy = rw (to_z-of_z w32 x (fits32 x hx), to_z-of_z w32 y (fits32 y hy)) (to_z-of_z w32 (x +ℤ y) both)
  where
    both : SFits w32 (x +ℤ y)
    both = omega (arith, ints)

-- the difference that the code makes of two coordinates
pub cast_difference : (x y : ℤ) → nat_abs x ≤ 2 ^ 20 → nat_abs y ≤ 2 ^ 20 →
    to_z w32 (of_z w32 (to_z w32 (of_z w32 x) -ℤ to_z w32 (of_z w32 y))) ≡ x -ℤ y
cast_difference x y hx hy = rw (to_z-of_z w32 x (fits32 x hx), to_z-of_z w32 y (fits32 y hy)) (to_z-of_z w32 (x -ℤ y) both)
  where
    both : SFits w32 (x -ℤ y)
    both = omega (arith, ints)

pub zeros-push : (n : ℕ) → zeros n ++ pos 0 ∷ [] ≡ zeros (n + 1)
zeros-push zero = refl
zeros-push (suc n) = ap (λ l. pos 0 ∷ l) (zeros-push n) ∙ (rw (add-one n, add-one (suc n)) refl)

pub zeros_within : (m n : ℕ) → All (IsWithin m) (zeros n)
zeros_within m zero = All-nil (IsWithin m)
zeros_within m (suc n) = All-cons (IsWithin m) (pos 0) (zeros n) (omega (arith, ints)) (zeros_within m n)
