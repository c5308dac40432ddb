use Rattle.std.proofs.Common.{◌≡◌, take, ◌^◌}
use Rattle.lt_model.specs.Simplices.{translate}
use Rattle.lt_triang.specs.Bounds.{AreWithin}
use Rattle.lt_triang.proofs.vertices.moved_by.Given as goal

abbrev pub invariant-loop-point : goal.invariant-loop-point
invariant-loop-point l = record {
  so_far : l.all.items ≡ translate l.by (take l.point-index l.points);
  within : AreWithin (2 ^ 20) (translate l.by (take l.point-index l.points));
}
