use Rattle.std.proofs.Common.{◌≡◌, ◌-◌, ◌<◌, ◌≤◌, ℕ, [], length, get_or}
use Rattle.std.specs.declared.cmp.Ordering.TheVariants.{Less, Greater}
use Rattle.lt_model.specs.Order.{simplex_cmp}
use Rattle.lt_match.proofs.images.is_member.Given as goal

abbrev pub invariant-loop-low : goal.invariant-loop-low
invariant-loop-low l = record {
  bound : l.high ≤ length l.t;
  below : (n : ℕ) → n < l.low → simplex_cmp (get_or l.t n []) l.points ≡ Less;
  above : (n : ℕ) → l.high ≤ n → n < length l.t → simplex_cmp (get_or l.t n []) l.points ≡ Greater;
}

abbrev pub decreases-loop-low : goal.decreases-loop-low
decreases-loop-low l = l.high - l.low
