use Rattle.std.proofs.Common.{◌≡◌, ◌<◌, ◌^◌, drop}
use Rattle.lt_core.specs.Prints.{digest_after, digest_of}
use Rattle.lt_core.proofs.prints.digest.Given as goal

abbrev pub invariant-loop-number : goal.invariant-loop-number
invariant-loop-number l = record {
  so_far : digest_after l.so_far (drop l.number-index l.numbers) ≡ digest_of l.numbers;
  small : l.so_far < 2 ^ 40;
}
