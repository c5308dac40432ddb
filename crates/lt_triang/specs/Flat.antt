-- Affine dependencies of points, and the class of points that have none.
use Rattle.std.specs.Prelude.{ℕ, zero, suc, ℤ, pos, negsuc, ◌<ℤ◌, ◌≡◌, ◌↔◌, ◌⊎◌, List, [], ◌∷◌, length, get_or, drop}
use Rattle.std.specs.List.{Contains}
use Rattle.std.specs.declared.cmp.Ordering.TheVariants.{Less}
use Rattle.lt_model.specs.Vectors.{scale, total, combine, zeros, IsPrimitive}
use Rattle.lt_model.specs.Simplices.{IsClass, AreIndependent, translate}
use Rattle.lt_model.specs.Order.{number_list_cmp}

-- the first number that isn't 0, or 0 where there is none
abbrev pub leading : List ℤ → ℤ
leading [] = pos 0
leading (pos zero ∷ xs) = leading xs
leading (pos (suc n) ∷ xs) = pos (suc n)
leading (negsuc n ∷ xs) = negsuc n

-- a dependency of the points: primitive, and its first number that isn't 0 is positive
pub record IsFlat (d : ℕ) (points : List (List ℤ)) (terms : List ℤ) : Type 0 where
  pub one_each : length terms ≡ length points
  pub total_is : total terms ≡ pos 0
  pub sum : combine terms points ≡ zeros d
  pub primitive : IsPrimitive terms
  pub sign : pos 0 <ℤ leading terms

-- the points are independent, s is their class, and p the least of them
pub record IsClassAt (d : ℕ) (points s : List (List ℤ)) (p : List ℤ) : Type 0 where
  pub dimension : length p ≡ d
  pub «class» : IsClass d s
  pub same : (x : List ℤ) → Contains points x ↔ Contains (translate p s) x
  pub independent : AreIndependent d points
  pub member : Contains points p
  pub least : (x : List ℤ) → Contains points x → (p ≡ x) ⊎ (number_list_cmp p x ≡ Less)

-- the differences of the other points from the first
abbrev pub columns_of : List (List ℤ) → List (List ℤ)
columns_of ps = translate (scale (negsuc 0) (get_or ps 0 [])) (drop 1 ps)
