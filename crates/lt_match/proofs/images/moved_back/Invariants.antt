use Rattle.std.proofs.Common.{◌≡◌, ◌^◌, take, get_or, [], negsuc}
use Rattle.lt_model.specs.Vectors.{scale}
use Rattle.lt_model.specs.Simplices.{translate}
use Rattle.lt_triang.specs.Bounds.{AreWithin}
use Rattle.lt_match.proofs.images.moved_back.Given as goal

abbrev pub invariant-loop-point : goal.invariant-loop-point
invariant-loop-point l = record {
  so_far : l.all.items ≡ translate (scale (negsuc 0) (get_or l.points 0 [])) (take l.point-index l.points);
  within : AreWithin (2 ^ 20) (translate (scale (negsuc 0) (get_or l.points 0 [])) (take l.point-index l.points));
}
