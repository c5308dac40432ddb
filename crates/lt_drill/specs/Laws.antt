-- Laws of scrambled triangulations.
use Rattle.std.specs.Prelude.{ℕ, ℤ, List, ◌≡◌}
use Rattle.lt_drill.specs.Scrambles.{IsScramble}

-- a number and a triangulation have one scramble
abbrev pub ScramblesAreOne : Type 0
ScramblesAreOne =
    (d x : ℕ) (t r s : List (List (List ℤ))) (u v : List (List ℤ)) → IsScramble d t x u r → IsScramble d t x v s →
    (u ≡ v) × (r ≡ s)
