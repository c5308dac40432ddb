use Rattle.std.proofs.Common.{rules, ◌^◌, take}
use Rattle.std.specs.Prelude.{IsTrue}
use Rattle.std.specs.List.{All}
use Rattle.lt_lattice.specs.Ranges.{IsWithin}
use Rattle.lt_lattice.proofs.Padded.{within-filled}
use Rattle.lt_lattice.proofs.points.checked.Goals as goal

pub returns-else-are_coordinates-clause-within : goal.returns-else-are_coordinates-clause-within
returns-else-are_coordinates-clause-within c = (
  (λ h. search rules),
  (λ (h : All (IsWithin (2 ^ 20)) (take c.args.dimension c.args.places)).
      let whole : All (IsWithin (2 ^ 20)) c.args.places = rw c.requires.padded (within-filled (2 ^ 20) 6 (take c.args.dimension c.args.places) h) in
      let t : IsTrue c.are_coordinates.result = c.are_coordinates.ensures.1 whole in
      search rules),
)
