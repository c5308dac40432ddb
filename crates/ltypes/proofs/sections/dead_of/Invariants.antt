use Rattle.std.proofs.Common.{◌≡◌, ◌≤◌, take}
use Rattle.ltypes.specs.Sections.{dead}
use Rattle.ltypes.proofs.sections.dead_of.Given as goal

abbrev pub invariant-loop-row : goal.invariant-loop-row
invariant-loop-row l = record { count : l.dead ≡ dead (take l.row-index l.rows); few : l.dead ≤ l.row-index }
