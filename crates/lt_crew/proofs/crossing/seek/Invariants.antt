use Rattle.lt_crew.specs.Tasks.{IsTest}
use Rattle.lt_crew.proofs.crossing.seek.Given as goal

abbrev pub invariant-seeks : goal.invariant-seeks
invariant-seeks g l = IsTest l.beyond l.test
