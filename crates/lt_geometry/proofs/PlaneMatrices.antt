-- The worked example of dimension 2: the matrices that carry the triangulations across the walls back.
use Rattle.std.proofs.Common.{◌≡◌, zero, suc, ℤ, pos, negsuc, refl, arith, sym, subst, List, [], ◌∷◌, length, map, inl, inr}
use Rattle.std.specs.List.{Contains}
use Rattle.lt_model.specs.Simplices.{IsClass, IsClassOf}
use Rattle.lt_model.specs.Matrices.{apply, IsSquare, IsInverse, Carries}
use Rattle.lt_geometry.specs.Plane.{point, left_class, right_class, plane, PlaneMatrices}
use Rattle.lt_geometry.proofs.Classes.{one_class, own_class}
use Rattle.lt_geometry.proofs.Plane.{left_is_class, right_is_class, plane_cases, has_left, has_right}

image_class : (ps cls : List (List ℤ)) → ps ≡ cls → IsClass 2 cls → IsClassOf 2 ps cls
image_class ps cls e c = subst (λ (q : List (List ℤ)). IsClassOf 2 q cls) (sym e) (own_class 2 cls c)

-- a matrix that takes the vertices of the one class to those of the left class, and of the other to those of the right one
carried : (u v x y : List (List ℤ)) → IsSquare 2 u → IsInverse 2 u v → map (apply u) x ≡ left_class → map (apply u) y ≡ right_class → Carries 2 u (x ∷ y ∷ []) plane
carried u v x y square inverse left right = record { square = square; inverse = v; is_inverse = inverse; members = λ s. (into s, from s) }
  where
    of_left : IsClassOf 2 (map (apply u) x) left_class
    of_left = image_class (map (apply u) x) left_class left left_is_class

    of_right : IsClassOf 2 (map (apply u) y) right_class
    of_right = image_class (map (apply u) y) right_class right right_is_class

    into : (s' : List (List ℤ)) → Contains plane s' → (s : List (List ℤ)) × Contains (x ∷ y ∷ []) s × IsClassOf 2 (map (apply u) s) s'
    into s' h = elim (plane_cases s' h) [
      | inl e ↦ (x, (0, omega arith, refl), subst (IsClassOf 2 (map (apply u) x)) e of_left)
      | inr e ↦ (y, (1, omega arith, refl), subst (IsClassOf 2 (map (apply u) y)) e of_right)
    ]

    at : (s s' : List (List ℤ)) → Contains (x ∷ y ∷ []) s → IsClassOf 2 (map (apply u) s) s' → Contains plane s'
    at s s' (zero, p, e) h = subst (Contains plane) (one_class 2 (map (apply u) x) left_class s' of_left (subst (λ (q : List (List ℤ)). IsClassOf 2 (map (apply u) q) s') (sym e) h)) has_left
    at s s' (suc zero, p, e) h = subst (Contains plane) (one_class 2 (map (apply u) y) right_class s' of_right (subst (λ (q : List (List ℤ)). IsClassOf 2 (map (apply u) q) s') (sym e) h)) has_right
    at s s' (suc (suc k), p, e) h = absurd (omega arith)

    from : (s' : List (List ℤ)) → (s : List (List ℤ)) × Contains (x ∷ y ∷ []) s × IsClassOf 2 (map (apply u) s) s' → Contains plane s'
    from s' (s, m, h) = at s s' m h

two_rows : (v w : List ℤ) → length v ≡ 2 → length w ≡ 2 → IsSquare 2 (v ∷ w ∷ [])
two_rows v w h k = record { rows = refl; columns = (h, (k, tt)) }

pub plane_matrices : PlaneMatrices
plane_matrices = (
  carried _ (point (pos 1) (pos 0) ∷ point (negsuc 0) (pos 1) ∷ []) _ _ (two_rows _ _ refl refl) (record { square = two_rows _ _ refl refl; right = refl; left = refl }) refl refl,
  carried _ (point (pos 1) (pos 0) ∷ point (pos 1) (pos 1) ∷ []) _ _ (two_rows _ _ refl refl) (record { square = two_rows _ _ refl refl; right = refl; left = refl }) refl refl,
  carried _ (point (pos 1) (pos 1) ∷ point (pos 1) (pos 0) ∷ []) _ _ (two_rows _ _ refl refl) (record { square = two_rows _ _ refl refl; right = refl; left = refl }) refl refl,
)
