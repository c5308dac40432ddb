use Rattle.std.proofs.Common.{rules, arith, ◌≡◌, ◌∙◌, ap, ◌^◌, nat_eq, true, ℕ, FitsSigned, to_z, of_z}
use Rattle.std.specs.Int.{w128}
use Rattle.std.proofs.lemmas.Int.{to_z-of_z}
use Rattle.std.proofs.lemmas.Bool.Decides.{nat_tests}
use Rattle.lt_num.specs.Divisors.{IsGcdOf, MadePrimitive}
use Rattle.lt_lp.proofs.Checked.{no_large_divisor, primitive_by, divisor_one}
use Rattle.lt_lp.proofs.checks.is_primitive.Goals as goal

pub unreachable-requires : goal.unreachable-requires
unreachable-requires c =
    let v : c.as_mut_slice.result.now ≡ c.args.numbers.now = c.as_mut_slice.ensures.value ∙ c.copied-copy.ensures in
    let g : IsGcdOf c.args.numbers.now (2 ^ 127) = rw v at c.in-Err.ensures.0 in
    no_large_divisor c.args.numbers.now c.requires.below g

one_is : (n : ℕ) → nat_eq n 1 ≡ true → n ≡ 1
one_is n h = grind (arith, nat_tests)

is_one : (n : ℕ) → n ≡ 1 → nat_eq n 1 ≡ true
is_one n h = grind (arith, nat_tests)

pub returns : goal.returns
returns c =
    let v : c.as_mut_slice.result.now ≡ c.args.numbers.now = c.as_mut_slice.ensures.value ∙ c.copied-copy.ensures in
    let m : MadePrimitive c.args.numbers.now c.in-Ok.divisor c.primitive.new.list = rw v at c.in-Ok.ensures in
    let f : FitsSigned w128 c.in-Ok.divisor = search rules in (
      (λ h. primitive_by c.args.numbers.now c.primitive.new.list c.in-Ok.divisor m (simp to_z-of_z at (ap (to_z w128) (one_is (of_z w128 c.in-Ok.divisor) h)))),
      (λ p. is_one (of_z w128 c.in-Ok.divisor) (ap (of_z w128) (divisor_one c.args.numbers.now c.primitive.new.list c.in-Ok.divisor m p))),
    )
