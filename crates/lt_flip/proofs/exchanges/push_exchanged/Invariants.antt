use Rattle.std.proofs.Common.{ℕ, ℤ, ◌<◌, ◌↔◌, ◌⊎◌, List}
use Rattle.std.specs.List.{Contains}
use Rattle.lt_geometry.specs.Exchanges.{IsMadeFrom}
use Rattle.lt_flip.proofs.exchanges.push_exchanged.Given as goal

abbrev pub invariant-loop-k : goal.invariant-loop-k
invariant-loop-k l = (r : List (List ℤ)) → Contains l.all.items r ↔ (Contains l.initial.all.items r ⊎ ((k : ℕ) × (k < l.k) × IsMadeFrom l.d l.s l.w l.e.coefficients k r))
