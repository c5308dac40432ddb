use Rattle.std.proofs.Common.{◌≡◌, ◌^◌, map, take}
use Rattle.std.specs.List.{All}
use Rattle.lt_model.specs.Vectors.{dot}
use Rattle.lt_lattice.specs.Ranges.{IsBelow}
use Rattle.lt_section.proofs.restricting.values.Given as goal

abbrev pub invariant-loop-form : goal.invariant-loop-form
invariant-loop-form l = record {
  so_far : l.all.items ≡ map (dot l.normal) (take l.form-index l.forms);
  below : All (IsBelow (2 ^ 80)) l.all.items;
}
