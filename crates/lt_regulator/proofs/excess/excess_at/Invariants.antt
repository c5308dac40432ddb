use Rattle.std.proofs.Common.{◌≡◌, ◌≤◌, ◌+◌, ◌*◌, ◌^◌, ℤ, List, ◌∷◌, nat_abs}
use Rattle.lt_regulator.proofs.Numbered.{IsLeft}
use Rattle.lt_regulator.proofs.excess.excess_at.Given as goal

abbrev pub invariant-loop-m : goal.invariant-loop-m
invariant-loop-m l = record {
  left : (c : ℤ) (b : List ℤ) → l.numbers ≡ c ∷ b → IsLeft l.i l.j l.s l.w c b l.m l.sum;
  small : nat_abs l.sum ≤ (1 + l.m) * 2 ^ 103;
}
