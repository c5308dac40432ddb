use Rattle.std.proofs.Common.{◌≡◌, ◌<◌, ℕ, length, get_or, []}
use Rattle.std.specs.Prelude.{Option}
use Rattle.lt_triang.specs.Carried.{IsPlaceIn}
use Rattle.lt_triang.proofs.carrying.places_in.Given as goal

abbrev pub invariant-loop-class : goal.invariant-loop-class
invariant-loop-class l = record {
  count : length l.places.items ≡ l.class-index;
  each : (q : ℕ) (e : Option ℕ) → q < l.class-index → IsPlaceIn l.into (get_or l.from q []) (get_or l.places.items q e);
}
