use Rattle.std.proofs.Common.{◌≡◌, ◌<◌, ℕ, length, get_or, []}
use Rattle.lt_triang.specs.Walled.{IsWall}
use Rattle.lt_triang.specs.declared.walls.Wall.{Wall}
use Rattle.lt_triang.proofs.carrying.row_from.Given as goal

abbrev pub invariant-loop-i : goal.invariant-loop-i
invariant-loop-i l = record {
  count : length l.facets.items ≡ l.i;
  each : (k : ℕ) (e : Wall) → k < l.i → IsWall l.d l.classes (get_or l.classes l.n []) k (get_or l.facets.items k e);
}
