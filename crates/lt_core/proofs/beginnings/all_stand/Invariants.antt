use Rattle.std.proofs.Common.{◌<◌, ℕ, [], get_or}
use Rattle.lt_core.specs.Beginnings.{AreStanding}
use Rattle.lt_core.specs.Marks.{marks_of}
use Rattle.lt_core.proofs.beginnings.all_stand.Given as goal

abbrev pub invariant-loop-k : goal.invariant-loop-k
invariant-loop-k l = (j : ℕ) → j < l.k → AreStanding (get_or (marks_of l.marks) j []) (get_or (marks_of l.now) j [])
