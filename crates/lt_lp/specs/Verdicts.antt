-- The verdicts of the program as those of the definitions.
use Rattle.std.specs.Prelude.{ℕ, pos, ◌≡◌, ◌≤◌}
use Rattle.lt_model.specs.Cones.{Verdict as Certificate, wall, combination}
use Rattle.lt_model.specs.Limits.{weight_limit}
use Rattle.lt_lp.specs.declared.verdicts.LpError.{LpError}
use Rattle.lt_lp.specs.declared.verdicts.LpError.TheVariants.{Heavy, Memory}
use Rattle.lt_lp.specs.declared.verdicts.Verdict.{Verdict}
use Rattle.lt_lp.specs.declared.verdicts.Verdict.TheVariants.{Wall, Combination}

abbrev pub verdict_of : Verdict → Certificate
verdict_of (Wall w) = wall w
verdict_of (Combination factor terms) = combination factor terms.items

-- Heavy names a weight at the limit or above it; Memory says nothing
abbrev pub IsHeavyLp : ℕ → LpError → Type 0
IsHeavyLp w (Heavy weight) = (weight ≡ pos w) × (weight_limit ≤ w)
IsHeavyLp w Memory = Unit
