use Rattle.std.proofs.Common.{◌<◌, ℕ, List, get_or, []}
use Rattle.lt_match.specs.Matches.{HasNoMatch}
use Rattle.lt_match.proofs.matching.first_match.Given as goal

abbrev pub invariant-loop-n : goal.invariant-loop-n
invariant-loop-n l = (i : ℕ) → i < l.n → (q : List ℕ) → HasNoMatch l.d l.from l.to (get_or l.to i []) q
