use Rattle.std.proofs.Common.{◌≡◌}
use Rattle.lt_crew.specs.Tasks.{IsTest}
use Rattle.lt_crew.proofs.crossing.record_heavy.Given as goal

abbrev pub invariant-tests : goal.invariant-tests
invariant-tests g l = record { parts : l.share.parts ≡ l.fn.share.parts; test : IsTest l.beyond l.test }
