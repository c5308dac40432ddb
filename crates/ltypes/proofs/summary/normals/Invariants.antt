use Rattle.std.proofs.Common.{◌≡◌, take}
use Rattle.lt_model.specs.Cones.{normals}
use Rattle.ltypes.proofs.summary.normals.Given as goal

abbrev pub invariant-loop-row : goal.invariant-loop-row
invariant-loop-row l = l.all.items ≡ normals (take l.row-index l.rows)
