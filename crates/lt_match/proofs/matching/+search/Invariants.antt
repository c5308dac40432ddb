use Rattle.std.proofs.Common.{◌-◌, ◌<◌, ◌++◌, ◌∷◌, suc, [], ℕ, length}
use Rattle.lt_match.proofs.Beginnings.{HasNoneFrom}
use Rattle.lt_match.proofs.matching.+search.Given as goal

abbrev pub decreases-search : goal.decreases-search
decreases-search l = suc l.d - length l.chosen.now

abbrev pub invariant-loop-k : goal.invariant-loop-k
invariant-loop-k l = (j : ℕ) → j < l.k → HasNoneFrom l.d l.from l.to l.s (l.chosen ++ j ∷ [])
