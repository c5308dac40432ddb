-- Laws of shortest vectors.
use Rattle.std.specs.Prelude.{ℕ, ℤ, ◌≡◌, List}
use Rattle.lt_relevant.specs.Shortest.{IsShortest}

-- a form has one least value at most, and one list of points that have it
abbrev pub OneShortest : Type 0
OneShortest = (d : ℕ) (q : List ℤ) (l m : ℤ) (vs ws : List (List ℤ)) → IsShortest d q l vs → IsShortest d q m ws
    → (l ≡ m) × (vs ≡ ws)
