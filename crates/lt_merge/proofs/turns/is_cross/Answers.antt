use Rattle.std.proofs.Common.{ap, refl}
use Rattle.lt_core.specs.Marks.{mark_of, matrix_rows}
use Rattle.lt_merge.proofs.turns.is_cross.Goals as goal

pub returns-in-Cross : goal.returns-in-Cross
returns-in-Cross c = (λ _. (c.in-Cross.target, matrix_rows c.in-Cross.matrix, ap mark_of c.in-Cross.is), λ _. refl)
