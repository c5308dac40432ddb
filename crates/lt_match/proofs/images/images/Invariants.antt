use Rattle.std.proofs.Common.{◌≡◌, ◌^◌, take, map}
use Rattle.lt_model.specs.Matrices.{apply}
use Rattle.lt_model.specs.Flat.{rows}
use Rattle.lt_triang.specs.Bounds.{AreWithin}
use Rattle.lt_match.proofs.images.images.Given as goal

abbrev pub invariant-loop-point : goal.invariant-loop-point
invariant-loop-point l = record {
  so_far : l.all.items ≡ map (apply (rows l.d l.u)) (take l.point-index l.points);
  within : AreWithin (2 ^ 20) (map (apply (rows l.d l.u)) (take l.point-index l.points));
}
