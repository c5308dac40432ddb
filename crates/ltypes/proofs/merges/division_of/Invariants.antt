use Rattle.std.proofs.Common.{ℕ, ◌+◌, ◌<◌}
use Rattle.ltypes.specs.Merges.{IsEndAt}
use Rattle.ltypes.proofs.merges.division_of.Given as goal

abbrev pub invariant-loop-before : goal.invariant-loop-before
invariant-loop-before l = record { none : (p : ℕ) → p < l.before + 1 → IsEndAt l.bytes p → ⊥ }
