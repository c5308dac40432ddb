use Rattle.std.proofs.Common.{◌≡◌, ◌≢◌, ◌<◌, ◌∙◌, ℕ, ℤ, pos, ◌*ℤ◌, sym, arith}
use Rattle.std.proofs.lemmas.Int.{ints, to_z-of_z}
use Rattle.lt_model.specs.Facets.{number_at}
use Rattle.lt_model.specs.Vectors.{scale, unit}
use Rattle.lt_model.proofs.Walk.{number_at-scale}
use Rattle.lt_model.proofs.Flat.{number_at-unit_same, number_at-unit_other}
use Rattle.lt_match.proofs.bases.multiple_at.Goals as goal

times_one : (m : ℤ) → m *ℤ pos 1 ≡ m
times_one m = omega (arith, ints)

times_none : (m : ℤ) → m *ℤ pos 0 ≡ pos 0
times_none m = omega (arith, ints)

same : (d i j : ℕ) (m : ℤ) → i < d → i ≡ j → number_at i (scale m (unit d j)) ≡ m
same d i j m h e = number_at-scale i m (unit d j) ∙ (rw (← e, number_at-unit_same d i h) (times_one m))

other : (d i j : ℕ) (m : ℤ) → i ≢ j → number_at i (scale m (unit d j)) ≡ pos 0
other d i j m n = number_at-scale i m (unit d j) ∙ (rw (number_at-unit_other d j i (λ e. n (sym e))) (times_none m))

pub returns-then-i-j : goal.returns-then-i-j
returns-then-i-j c = λ d h. rw (to_z-of_z _ c.args.m c.ranges.m) (sym (same d c.args.i c.args.j c.args.m h c.if-i-j.true))

pub returns-else-i-j : goal.returns-else-i-j
returns-else-i-j c = λ d h. sym (other d c.args.i c.args.j c.args.m c.if-i-j.false)
