use Rattle.std.proofs.Common.{◌≡◌, take}
use Rattle.lt_match.proofs.matching.with_last.Given as goal

abbrev pub invariant-loop-other : goal.invariant-loop-other
invariant-loop-other l = l.all.items ≡ take l.other-index l.chosen
