-- Local to global in every dimension, and the laws on walls and flips with this premise proved.
use Rattle.std.proofs.Common.{List, length, ◌≡◌, ◌↔◌, ℕ, zero, suc, ◌<◌, ◌≤◌, arith, ℤ, pos, ◌<ℤ◌, ◌≤ℤ◌}
use Rattle.std.specs.List.{Contains}
use Rattle.std.specs.List.Sorted.{IsStrictlySortedBy}
use Rattle.lt_walls.proofs.Walls.{Tri}
use Rattle.lt_geometry.proofs.Points.{Form, space}
use Rattle.lt_geometry.proofs.Members.{Placed}
use Rattle.lt_geometry.proofs.WallLaws.{IsLocal}
use Rattle.lt_geometry.proofs.Bounds.{setting, every_wall_form_is_definite, one_point_on_ellipsoid}
use Rattle.lt_geometry.proofs.FlippedSets.{IsFlipped}
use Rattle.lt_geometry.proofs.ClosedFlips.{flipped_is_delaunay}
use Rattle.lt_geometry.proofs.LocalForms.{local_from}
use Rattle.lt_geometry.proofs.Regulators.{positive_at}
use Rattle.lt_geometry.proofs.Line.{none_in_zero, local_in_one}
use Rattle.lt_model.specs.Vectors.{minus, scale, dot}
use Rattle.lt_model.specs.Order.{simplex_cmp}
use Rattle.lt_model.specs.Simplices.{IsExpression, excess}
use Rattle.lt_model.specs.Forms.{numbers_of_form, IsPositiveDefinite}
use Rattle.lt_model.specs.Triangulations.{IsDelaunay}
use Rattle.lt_model.specs.Walls.{IsRegulator, IsWallForm}

-- a form at which all regulators are positive
pub is_local : (d : ℕ) (a : List ℤ) (t : List (List (List ℤ))) → IsDelaunay d a t → IsLocal d t
is_local zero a t k q l h = absurd (none_in_zero a t k)
is_local (suc zero) a t k q l h = local_in_one a q t k l h
is_local (suc (suc d)) a t k q l h = local_from (suc (suc d)) t a (omega arith) k q l h

-- a form has a Delaunay triangulation of another one exactly where its regulators are positive
pub local_to_global : (d : ℕ) (a q : List ℤ) (t : List (List (List ℤ))) → IsDelaunay d a t → length q ≡ numbers_of_form d → IsDelaunay d q t ↔ ((n : List ℤ) → IsRegulator d t n → pos 0 <ℤ dot n q)
local_to_global d a q t k l = (λ j n r. positive_at d q t j n r, λ h. is_local d a t k q l h)

-- wall forms are positive definite
pub wall_forms_are_definite : (d : ℕ) (a w n : List ℤ) (t : List (List (List ℤ))) → 2 ≤ d → IsDelaunay d a t → IsWallForm d t n w → IsPositiveDefinite d w
wall_forms_are_definite d a w n t two k wall = every_wall_form_is_definite d t a w n two k (is_local d a t k) wall

-- one point on an ellipsoid
pub one_on_ellipsoid : (d : ℕ) (a w n : List ℤ) (t : List (List (List ℤ))) (s : List (List ℤ)) → 2 ≤ d → IsDelaunay d a t → IsWallForm d t n w → Contains t s →
    (x x' : List ℤ) → length x ≡ d → length x' ≡ d → (Contains s x → ⊥) → (Contains s x' → ⊥) → (c c' : ℤ) (b b' : List ℤ) → IsExpression s x c b → IsExpression s x' c' b' →
    excess w s x c b ≡ pos 0 → excess w s x' c' b' ≡ pos 0 → x ≡ x'
one_on_ellipsoid d a w n t s two k wall mem x x' l l' out out' c c' b b' e e' z z' = one_point_on_ellipsoid d t a w n two k (is_local d a t k) wall s mem x x' l l' out out' c c' b b' e e' z z'

-- the setting of lt_walls, with nothing left to show
abbrev pub setting_of : (d : ℕ) (two : 2 ≤ d) (t : List (List (List ℤ))) (q w : Form d) (n : List ℤ) → IsDelaunay d q.numbers t → IsWallForm d t n w.numbers → Tri (space d two) (Placed d t) (IsRegulator d t) (λ m b. dot m b.numbers) n q w
setting_of d two t q w n k wall = setting d two t q w n k (is_local d q.numbers t k) wall

-- the flipped set is Delaunay
pub flip_across : (d : ℕ) (two : 2 ≤ d) (t : List (List (List ℤ))) (q w : Form d) (n : List ℤ) (k : IsDelaunay d q.numbers t) (wall : IsWallForm d t n w.numbers) (t' : List (List (List ℤ))) →
    IsFlipped d two t q w n (setting_of d two t q w n k wall) t' → 0 < length t' → IsStrictlySortedBy simplex_cmp t' →
    (m : ℤ) × ((mu : ℤ) → m ≤ℤ mu → IsDelaunay d (minus (scale mu w.numbers) q.numbers) t')
flip_across d two t q w n k wall t' fl occupied sorted = flipped_is_delaunay d two t q w n k (is_local d q.numbers t k) wall t' fl occupied sorted
