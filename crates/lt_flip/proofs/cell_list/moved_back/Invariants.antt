use Rattle.std.proofs.Common.{◌≡◌, take, negsuc, [], get_or}
use Rattle.lt_model.specs.Vectors.{scale}
use Rattle.lt_model.specs.Simplices.{translate}
use Rattle.lt_flip.proofs.cell_list.moved_back.Given as goal

abbrev pub invariant-loop-point : goal.invariant-loop-point
invariant-loop-point l = l.all.items ≡ translate (scale (negsuc 0) (get_or l.points 0 [])) (take l.point-index l.points)
