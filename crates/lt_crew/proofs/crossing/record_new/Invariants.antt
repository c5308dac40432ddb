use Rattle.std.proofs.Common.{◌≡◌}
use Rattle.lt_model.specs.Cones.{IsRightCone}
use Rattle.lt_triang.specs.Kept.{dimension_of}
use Rattle.lt_crew.specs.Tasks.{IsBeyond, IsTest}
use Rattle.lt_crew.proofs.crossing.record_new.Given as goal

abbrev pub invariant-tests : goal.invariant-tests
invariant-tests g l = record {
  parts : l.share.parts ≡ l.fn.share.parts;
  beyond : IsBeyond l.task l.beyond;
  cone : IsRightCone (dimension_of l.beyond) l.beyond l.cone;
  test : IsTest l.beyond l.test;
}
