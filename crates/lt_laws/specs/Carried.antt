-- Regulators and facets go along with a carrying matrix.
use Rattle.std.specs.Prelude.{ℕ, ℤ, ◌≡◌, List, length}
use Rattle.lt_model.specs.Vectors.{dot}
use Rattle.lt_model.specs.Forms.{numbers_of_form, value}
use Rattle.lt_model.specs.Matrices.{apply, Carries}
use Rattle.lt_model.specs.Walls.{IsRegulator, IsFacet}
use Rattle.lt_geometry.specs.Carrying.{AreClasses}

-- m has at each form q the value that n has at the form with the values of q at the images
pub record IsNormalAlong (d : ℕ) (u : List (List ℤ)) (n m : List ℤ) : Type 0 where
  pub numbers : length m ≡ numbers_of_form d
  pub values : (q r : List ℤ) → length q ≡ numbers_of_form d → length r ≡ numbers_of_form d
      → ((x : List ℤ) → length x ≡ d → value r x ≡ value q (apply u x)) → dot m q ≡ dot n r

-- a regulator goes to a regulator
abbrev pub RegulatorsAreCarried : Type 0
RegulatorsAreCarried =
    (d : ℕ) (u : List (List ℤ)) (t p : List (List (List ℤ))) (n : List ℤ) → AreClasses d t → Carries d u t p
    → IsRegulator d t n → (m : List ℤ) × IsNormalAlong d u n m × IsRegulator d p m

-- and a facet to a facet
abbrev pub FacetsAreCarried : Type 0
FacetsAreCarried =
    (d : ℕ) (u : List (List ℤ)) (t p : List (List (List ℤ))) (n : List ℤ) → AreClasses d t → Carries d u t p
    → IsFacet d t n → (m : List ℤ) × IsNormalAlong d u n m × IsFacet d p m
