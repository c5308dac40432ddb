-- Laws of walks.
use Rattle.std.specs.Prelude.{ℕ, ℤ, ◌≤◌, ◌≡◌, List, length}
use Rattle.lt_model.specs.Forms.{numbers_of_form}
use Rattle.lt_model.specs.Triangulations.{IsDelaunay}
use Rattle.lt_locate.specs.Endings.{Ending, inside, EndsWith}

-- a walk ends in one way at most
abbrev pub OneEnd : Type 0
OneEnd =
    (d : ℕ) (q : List ℤ) (steps i j : ℕ) (t s : List (List (List ℤ))) (e f : Ending) → 2 ≤ d → EndsWith d q steps i t e
    → EndsWith d q steps j s f → (i ≡ j) × (t ≡ s) × (e ≡ f)

-- a walk that ends inside has come to the triangulation of the form
abbrev pub WalksEndInside : Type 0
WalksEndInside =
    (d : ℕ) (q : List ℤ) (steps i : ℕ) (t : List (List (List ℤ))) → 2 ≤ d → length q ≡ numbers_of_form d
    → EndsWith d q steps i t inside → IsDelaunay d q t
