-- The worked example of dimension 2: the flips across the three walls, with all classes of the exchanged points.
use Rattle.std.proofs.Common.{◌≡◌, ℕ, zero, suc, pos, negsuc, ◌+ℤ◌, ◌*ℤ◌, ◌<◌, refl, arith, [], ◌∷◌}
use Rattle.std.proofs.lemmas.Int.{ints}
use Rattle.lt_model.specs.Simplices.{IsClass}
use Rattle.lt_model.specs.Flips.{IsFlipOf}
use Rattle.lt_geometry.specs.Plane.{point, left_class, right_class, plane, diagonal_normal, upright_normal, level_normal, across_diagonal, across_upright, across_level, PlaneFlips}
use Rattle.lt_geometry.proofs.Plane.{left_is_class, right_is_class, two_ascending}
use Rattle.lt_geometry.proofs.PlanePairs.{left_first, left_second, left_third, right_first, right_second, right_third}
use Rattle.lt_geometry.proofs.Exchanges.{AreApart, three_class, HasOutcomes, kept, made, arranged, at0, at1, at2, AtFacet, other, turned, exchanged, flip}

pub diagonal_lower : IsClass 2 (point (pos 0) (pos 0) ∷ point (pos 0) (pos 1) ∷ point (pos 1) (pos 0) ∷ [])
diagonal_lower = three_class (pos 0) (pos 1) (pos 1) (pos 0) refl refl refl apart
  where
    apart : AreApart (point (pos 0) (pos 1)) (point (pos 1) (pos 0))
    apart y z e =
        let e1 : y *ℤ pos 0 +ℤ z *ℤ pos 1 ≡ pos 0 = cc in
        let e2 : y *ℤ pos 1 +ℤ z *ℤ pos 0 ≡ pos 0 = cc in
        (omega (arith, ints, e1, e2), omega (arith, ints, e1, e2))

pub diagonal_upper : IsClass 2 (point (pos 0) (pos 0) ∷ point (pos 1) (negsuc 0) ∷ point (pos 1) (pos 0) ∷ [])
diagonal_upper = three_class (pos 1) (negsuc 0) (pos 1) (pos 0) refl refl refl apart
  where
    apart : AreApart (point (pos 1) (negsuc 0)) (point (pos 1) (pos 0))
    apart y z e =
        let e1 : y *ℤ pos 1 +ℤ z *ℤ pos 1 ≡ pos 0 = cc in
        let e2 : y *ℤ negsuc 0 +ℤ z *ℤ pos 0 ≡ pos 0 = cc in
        (omega (arith, ints, e1, e2), omega (arith, ints, e1, e2))

diagonal_left : HasOutcomes across_diagonal left_class (point (pos 1) (pos 0)) (pos 1 ∷ negsuc 0 ∷ pos 1 ∷ [])
diagonal_left zero h = kept left_is_class refl (point (pos 0) (pos 0)) refl refl refl at0 at1 at2 at0 at1 at2
diagonal_left (suc zero) h = made diagonal_upper (1, omega arith, refl) refl (point (pos 0) (pos 1)) refl refl refl at1 at0 at2 at1 at0 at2
diagonal_left (suc (suc zero)) h = kept right_is_class refl (point (pos 0) (pos 0)) refl refl refl at1 at0 at2 at1 at0 at2
diagonal_left (suc (suc (suc zero))) h = made diagonal_lower (0, omega arith, refl) refl (point (pos 0) (pos 0)) refl refl refl at2 at0 at1 at1 at2 at0
diagonal_left (suc (suc (suc (suc k)))) h = absurd (omega arith)

diagonal_right : HasOutcomes across_diagonal right_class (point (pos 0) (pos 1)) (pos 1 ∷ negsuc 0 ∷ pos 1 ∷ [])
diagonal_right zero h = kept right_is_class refl (point (pos 0) (pos 0)) refl refl refl at0 at1 at2 at0 at1 at2
diagonal_right (suc zero) h = made diagonal_upper (1, omega arith, refl) refl (point (pos 0) (pos 1)) refl refl refl at0 at1 at2 at0 at1 at2
diagonal_right (suc (suc zero)) h = kept left_is_class refl (point (pos 0) (pos 0)) refl refl refl at1 at0 at2 at1 at0 at2
diagonal_right (suc (suc (suc zero))) h = made diagonal_lower (0, omega arith, refl) refl (point (pos 0) (pos 0)) refl refl refl at1 at0 at2 at1 at0 at2
diagonal_right (suc (suc (suc (suc k)))) h = absurd (omega arith)

diagonal_at_left : (i : ℕ) → i < 3 → AtFacet diagonal_normal across_diagonal left_class i
diagonal_at_left zero h = other left_first (λ e. cc)
diagonal_at_left (suc zero) h = turned left_second diagonal_left
diagonal_at_left (suc (suc zero)) h = other left_third (λ e. cc)
diagonal_at_left (suc (suc (suc i))) h = absurd (omega arith)

diagonal_at_right : (i : ℕ) → i < 3 → AtFacet diagonal_normal across_diagonal right_class i
diagonal_at_right zero h = other right_first (λ e. cc)
diagonal_at_right (suc zero) h = turned right_second diagonal_right
diagonal_at_right (suc (suc zero)) h = other right_third (λ e. cc)
diagonal_at_right (suc (suc (suc i))) h = absurd (omega arith)

diagonal_flip : IsFlipOf 2 plane diagonal_normal across_diagonal
diagonal_flip = flip (two_ascending _ _ refl) diagonal_at_left diagonal_at_right
    (exchanged left_second (pos 1) 0 (omega arith) (record { lt = tt }) (arranged (point (pos 0) (pos 0)) refl left_is_class refl refl at0 at1 at2 at0 at1 at2))
    (exchanged left_second (pos 1) 2 (omega arith) (record { lt = tt }) (arranged (point (pos 0) (pos 0)) refl right_is_class refl refl at1 at0 at2 at1 at0 at2))
    (exchanged left_second (negsuc 0) 3 (omega arith) (record { lt = tt }) (arranged (point (pos 0) (pos 0)) refl diagonal_lower refl refl at2 at0 at1 at1 at2 at0))
    (exchanged left_second (negsuc 0) 1 (omega arith) (record { lt = tt }) (arranged (point (pos 0) (pos 1)) refl diagonal_upper refl refl at1 at0 at2 at1 at0 at2))

pub upright_lower : IsClass 2 (point (pos 0) (pos 0) ∷ point (pos 0) (pos 1) ∷ point (pos 1) (pos 2) ∷ [])
upright_lower = three_class (pos 0) (pos 1) (pos 1) (pos 2) refl refl refl apart
  where
    apart : AreApart (point (pos 0) (pos 1)) (point (pos 1) (pos 2))
    apart y z e =
        let e1 : y *ℤ pos 0 +ℤ z *ℤ pos 1 ≡ pos 0 = cc in
        let e2 : y *ℤ pos 1 +ℤ z *ℤ pos 2 ≡ pos 0 = cc in
        (omega (arith, ints, e1, e2), omega (arith, ints, e1, e2))

pub upright_upper : IsClass 2 (point (pos 0) (pos 0) ∷ point (pos 1) (pos 1) ∷ point (pos 1) (pos 2) ∷ [])
upright_upper = three_class (pos 1) (pos 1) (pos 1) (pos 2) refl refl refl apart
  where
    apart : AreApart (point (pos 1) (pos 1)) (point (pos 1) (pos 2))
    apart y z e =
        let e1 : y *ℤ pos 1 +ℤ z *ℤ pos 1 ≡ pos 0 = cc in
        let e2 : y *ℤ pos 1 +ℤ z *ℤ pos 2 ≡ pos 0 = cc in
        (omega (arith, ints, e1, e2), omega (arith, ints, e1, e2))

upright_left : HasOutcomes across_upright left_class (point (pos 1) (pos 2)) (negsuc 0 ∷ pos 1 ∷ pos 1 ∷ [])
upright_left zero h = kept left_is_class refl (point (pos 0) (pos 0)) refl refl refl at0 at1 at2 at0 at1 at2
upright_left (suc zero) h = kept right_is_class refl (point (pos 0) (pos 1)) refl refl refl at2 at0 at1 at1 at2 at0
upright_left (suc (suc zero)) h = made upright_upper (1, omega arith, refl) refl (point (pos 0) (pos 0)) refl refl refl at2 at0 at1 at1 at2 at0
upright_left (suc (suc (suc zero))) h = made upright_lower (0, omega arith, refl) refl (point (pos 0) (pos 0)) refl refl refl at2 at0 at1 at1 at2 at0
upright_left (suc (suc (suc (suc k)))) h = absurd (omega arith)

upright_right : HasOutcomes across_upright right_class (point (pos 0) (negsuc 0)) (pos 1 ∷ pos 1 ∷ negsuc 0 ∷ [])
upright_right zero h = kept right_is_class refl (point (pos 0) (pos 0)) refl refl refl at0 at1 at2 at0 at1 at2
upright_right (suc zero) h = made upright_upper (1, omega arith, refl) refl (point (pos 0) (negsuc 0)) refl refl refl at0 at1 at2 at0 at1 at2
upright_right (suc (suc zero)) h = made upright_lower (0, omega arith, refl) refl (point (pos 0) (negsuc 0)) refl refl refl at0 at1 at2 at0 at1 at2
upright_right (suc (suc (suc zero))) h = kept left_is_class refl (point (pos 0) (negsuc 0)) refl refl refl at0 at1 at2 at0 at1 at2
upright_right (suc (suc (suc (suc k)))) h = absurd (omega arith)

upright_at_left : (i : ℕ) → i < 3 → AtFacet upright_normal across_upright left_class i
upright_at_left zero h = turned left_first upright_left
upright_at_left (suc zero) h = other left_second (λ e. cc)
upright_at_left (suc (suc zero)) h = other left_third (λ e. cc)
upright_at_left (suc (suc (suc i))) h = absurd (omega arith)

upright_at_right : (i : ℕ) → i < 3 → AtFacet upright_normal across_upright right_class i
upright_at_right zero h = other right_first (λ e. cc)
upright_at_right (suc zero) h = other right_second (λ e. cc)
upright_at_right (suc (suc zero)) h = turned right_third upright_right
upright_at_right (suc (suc (suc i))) h = absurd (omega arith)

upright_flip : IsFlipOf 2 plane upright_normal across_upright
upright_flip = flip (two_ascending _ _ refl) upright_at_left upright_at_right
    (exchanged left_first (pos 1) 0 (omega arith) (record { lt = tt }) (arranged (point (pos 0) (pos 0)) refl left_is_class refl refl at0 at1 at2 at0 at1 at2))
    (exchanged left_first (pos 1) 1 (omega arith) (record { lt = tt }) (arranged (point (pos 0) (pos 1)) refl right_is_class refl refl at2 at0 at1 at1 at2 at0))
    (exchanged left_first (negsuc 0) 3 (omega arith) (record { lt = tt }) (arranged (point (pos 0) (pos 0)) refl upright_lower refl refl at2 at0 at1 at1 at2 at0))
    (exchanged left_first (negsuc 0) 2 (omega arith) (record { lt = tt }) (arranged (point (pos 0) (pos 0)) refl upright_upper refl refl at2 at0 at1 at1 at2 at0))

pub level_lower : IsClass 2 (point (pos 0) (pos 0) ∷ point (pos 1) (pos 0) ∷ point (pos 2) (pos 1) ∷ [])
level_lower = three_class (pos 1) (pos 0) (pos 2) (pos 1) refl refl refl apart
  where
    apart : AreApart (point (pos 1) (pos 0)) (point (pos 2) (pos 1))
    apart y z e =
        let e1 : y *ℤ pos 1 +ℤ z *ℤ pos 2 ≡ pos 0 = cc in
        let e2 : y *ℤ pos 0 +ℤ z *ℤ pos 1 ≡ pos 0 = cc in
        (omega (arith, ints, e1, e2), omega (arith, ints, e1, e2))

pub level_upper : IsClass 2 (point (pos 0) (pos 0) ∷ point (pos 1) (pos 1) ∷ point (pos 2) (pos 1) ∷ [])
level_upper = three_class (pos 1) (pos 1) (pos 2) (pos 1) refl refl refl apart
  where
    apart : AreApart (point (pos 1) (pos 1)) (point (pos 2) (pos 1))
    apart y z e =
        let e1 : y *ℤ pos 1 +ℤ z *ℤ pos 2 ≡ pos 0 = cc in
        let e2 : y *ℤ pos 1 +ℤ z *ℤ pos 1 ≡ pos 0 = cc in
        (omega (arith, ints, e1, e2), omega (arith, ints, e1, e2))

level_left : HasOutcomes across_level left_class (point (negsuc 0) (pos 0)) (pos 1 ∷ pos 1 ∷ negsuc 0 ∷ [])
level_left zero h = kept left_is_class refl (point (pos 0) (pos 0)) refl refl refl at0 at1 at2 at0 at1 at2
level_left (suc zero) h = made level_upper (1, omega arith, refl) refl (point (negsuc 0) (pos 0)) refl refl refl at0 at1 at2 at0 at1 at2
level_left (suc (suc zero)) h = made level_lower (0, omega arith, refl) refl (point (negsuc 0) (pos 0)) refl refl refl at0 at1 at2 at0 at1 at2
level_left (suc (suc (suc zero))) h = kept right_is_class refl (point (negsuc 0) (pos 0)) refl refl refl at0 at1 at2 at0 at1 at2
level_left (suc (suc (suc (suc k)))) h = absurd (omega arith)

level_right : HasOutcomes across_level right_class (point (pos 2) (pos 1)) (negsuc 0 ∷ pos 1 ∷ pos 1 ∷ [])
level_right zero h = kept right_is_class refl (point (pos 0) (pos 0)) refl refl refl at0 at1 at2 at0 at1 at2
level_right (suc zero) h = kept left_is_class refl (point (pos 1) (pos 0)) refl refl refl at2 at0 at1 at1 at2 at0
level_right (suc (suc zero)) h = made level_upper (1, omega arith, refl) refl (point (pos 0) (pos 0)) refl refl refl at2 at0 at1 at1 at2 at0
level_right (suc (suc (suc zero))) h = made level_lower (0, omega arith, refl) refl (point (pos 0) (pos 0)) refl refl refl at2 at0 at1 at1 at2 at0
level_right (suc (suc (suc (suc k)))) h = absurd (omega arith)

level_at_left : (i : ℕ) → i < 3 → AtFacet level_normal across_level left_class i
level_at_left zero h = other left_first (λ e. cc)
level_at_left (suc zero) h = other left_second (λ e. cc)
level_at_left (suc (suc zero)) h = turned left_third level_left
level_at_left (suc (suc (suc i))) h = absurd (omega arith)

level_at_right : (i : ℕ) → i < 3 → AtFacet level_normal across_level right_class i
level_at_right zero h = turned right_first level_right
level_at_right (suc zero) h = other right_second (λ e. cc)
level_at_right (suc (suc zero)) h = other right_third (λ e. cc)
level_at_right (suc (suc (suc i))) h = absurd (omega arith)

level_flip : IsFlipOf 2 plane level_normal across_level
level_flip = flip (two_ascending _ _ refl) level_at_left level_at_right
    (exchanged left_third (pos 1) 0 (omega arith) (record { lt = tt }) (arranged (point (pos 0) (pos 0)) refl left_is_class refl refl at0 at1 at2 at0 at1 at2))
    (exchanged left_third (pos 1) 3 (omega arith) (record { lt = tt }) (arranged (point (negsuc 0) (pos 0)) refl right_is_class refl refl at0 at1 at2 at0 at1 at2))
    (exchanged left_third (negsuc 0) 2 (omega arith) (record { lt = tt }) (arranged (point (negsuc 0) (pos 0)) refl level_lower refl refl at0 at1 at2 at0 at1 at2))
    (exchanged left_third (negsuc 0) 1 (omega arith) (record { lt = tt }) (arranged (point (negsuc 0) (pos 0)) refl level_upper refl refl at0 at1 at2 at0 at1 at2))

pub plane_flips : PlaneFlips
plane_flips = (diagonal_flip, upright_flip, level_flip)
