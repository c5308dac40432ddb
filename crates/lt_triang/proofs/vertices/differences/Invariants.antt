use Rattle.std.proofs.Common.{◌≡◌, drop, ◌++◌, get_or, [], negsuc}
use Rattle.lt_model.specs.Vectors.{scale}
use Rattle.lt_model.specs.Simplices.{translate}
use Rattle.lt_model.specs.Flat.{flat}
use Rattle.lt_triang.specs.Flat.{columns_of}
use Rattle.lt_triang.proofs.vertices.differences.Given as goal

abbrev pub invariant-loop-i : goal.invariant-loop-i
invariant-loop-i l = l.all.items ++ flat (translate (scale (negsuc 0) (get_or l.points 0 [])) (drop l.i l.points)) ≡ flat (columns_of l.points)
