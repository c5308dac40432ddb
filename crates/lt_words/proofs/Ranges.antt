-- The limits of each dimension are within the widest range.
use Rattle.std.proofs.Common.{ℕ, ◌+◌, ◌*◌, ◌≤◌, Bool, true, false, cond, nat_le, arith}
use Rattle.lt_model.specs.Limits.{most_steps, step_limit}
use Rattle.lt_words.specs.Grammar.{most_turns}
use Rattle.lt_words.specs.Laws.{DrillsKeepTheStepLimit}

pub few_steps : (d : ℕ) → step_limit d ≤ most_steps
few_steps d = few (nat_le d 5)
  where
    few : (b : Bool) → cond b most_steps 2000 ≤ most_steps
    few true = omega arith
    few false = omega arith

pub few_turns : (d : ℕ) → most_turns d ≤ 1000
few_turns d = few (nat_le d 5)
  where
    few : (b : Bool) → cond b 1000 950 ≤ 1000
    few true = omega arith
    few false = omega arith

pub drills_within : DrillsKeepTheStepLimit
drills_within d turns few = within (nat_le d 5) few
  where
    within : (b : Bool) → turns ≤ cond b 1000 950 → 2 * turns + 100 ≤ cond b most_steps 2000
    within true h = omega (arith, h)
    within false h = omega (arith, h)
