use Rattle.std.proofs.Common.{◌+◌, ◌*◌}
use Rattle.lt_match.proofs.Entries.{AreEntries}
use Rattle.lt_match.proofs.bases.matrix_taking.Given as goal

abbrev pub invariant-loop-k : goal.invariant-loop-k
invariant-loop-k l = AreEntries l.d l.basis.scales.items l.basis.terms.items l.targets (l.k * l.d) l.numbers.items

abbrev pub invariant-loop-j : goal.invariant-loop-j
invariant-loop-j l = AreEntries l.d l.basis.scales.items l.basis.terms.items l.targets (l.k * l.d + l.j) l.numbers.items
