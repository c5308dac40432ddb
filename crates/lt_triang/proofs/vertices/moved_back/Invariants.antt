use Rattle.std.proofs.Common.{◌≡◌, take, negsuc}
use Rattle.lt_model.specs.Vectors.{scale}
use Rattle.lt_model.specs.Simplices.{translate}
use Rattle.lt_triang.proofs.vertices.moved_back.Given as goal

abbrev pub invariant-loop-point : goal.invariant-loop-point
invariant-loop-point g l = l.all.items ≡ translate (scale (negsuc 0) l.by) (take l.point-index l.points)
