use Rattle.std.proofs.Common.{◌≡◌, ◌-◌, length, map, take}
use Rattle.std.specs.Prelude.{sum}
use Rattle.lt_core.specs.Marks.{marks_of}
use Rattle.lt_core.proofs.beginnings.places_before.Given as goal

abbrev pub invariant-loop-row : goal.invariant-loop-row
invariant-loop-row l = l.left ≡ l.fn.places - sum (map length (marks_of (take l.row-index l.rows)))
