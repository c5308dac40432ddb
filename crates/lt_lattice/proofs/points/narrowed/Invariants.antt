use Rattle.std.proofs.Common.{◌≡◌, take, ◌^◌}
use Rattle.std.specs.List.{All}
use Rattle.lt_lattice.specs.Ranges.{IsWithin}
use Rattle.lt_lattice.specs.Points.{filled}
use Rattle.lt_lattice.proofs.points.narrowed.Given as goal

abbrev pub invariant-loop-i : goal.invariant-loop-i
invariant-loop-i l = record {
  same : l.places ≡ filled 6 (take l.i l.numbers);
  within : All (IsWithin (2 ^ 20)) (take l.i l.numbers);
}
