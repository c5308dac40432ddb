use Rattle.std.proofs.Common.{◌≡◌, take, length, ◌-◌}
use Rattle.std.specs.List.{All}
use Rattle.lt_triang.specs.Flat.{IsFlat}
use Rattle.lt_flip.specs.Cells.{points_of}
use Rattle.lt_flip.proofs.cell_list.cells.Given as goal

abbrev pub invariant-loop-i : goal.invariant-loop-i
invariant-loop-i l = record {
  points : points_of l.cells.items ≡ take l.i l.all.items;
  dependencies : All (λ c. IsFlat (length c.points - 2) c.points c.terms) l.cells.items;
}
