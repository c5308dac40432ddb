use Rattle.lt_match.proofs.Multiples.{IsBasisUpTo}
use Rattle.lt_match.proofs.bases.basis_of.Given as goal

abbrev pub invariant-loop-j : goal.invariant-loop-j
invariant-loop-j l = IsBasisUpTo l.d l.points l.j l.scales.items l.terms.items
