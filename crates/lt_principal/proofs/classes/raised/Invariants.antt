use Rattle.std.proofs.Common.{◌≡◌, take, length, ◌^◌}
use Rattle.std.specs.List.{All}
use Rattle.lt_lattice.specs.Ranges.{IsWithin}
use Rattle.lt_model.specs.Vectors.{plus, unit}
use Rattle.lt_principal.proofs.classes.raised.Given as goal

abbrev pub invariant-loop-i : goal.invariant-loop-i
invariant-loop-i l = record {
  so_far : l.coords.items ≡ take l.i (plus l.x (unit (length l.x) l.k));
  within : All (IsWithin (2 ^ 20)) l.coords.items;
}
