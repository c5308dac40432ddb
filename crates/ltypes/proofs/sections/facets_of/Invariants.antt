use Rattle.std.proofs.Common.{◌≡◌, ◌≤◌, take}
use Rattle.ltypes.specs.Sections.{facets}
use Rattle.ltypes.proofs.sections.facets_of.Given as goal

abbrev pub invariant-loop-row : goal.invariant-loop-row
invariant-loop-row l = record { count : l.facets ≡ facets (take l.row-index l.rows); few : l.facets ≤ l.row-index }
