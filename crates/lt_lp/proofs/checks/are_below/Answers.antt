use Rattle.std.proofs.Common.{rules, arith, ◌≡◌, pos, take, ◌^◌}
use Rattle.std.specs.List.{All}
use Rattle.std.proofs.lemmas.Int.{ints}
use Rattle.std.proofs.lemmas.List.{take_all}
use Rattle.std.proofs.lemmas.List.Elements.{All-more}
use Rattle.lt_lattice.specs.Ranges.{IsBelow}
use Rattle.lt_lp.proofs.checks.are_below.Goals as goal

pub loop-number-preserved : goal.loop-number-preserved
loop-number-preserved c =
    All-more (IsBelow (2 ^ 62)) c.args.numbers.now c.loop-number.number-index (pos 0) c.loop-number-test.true c.loop-number.invariant
    (let a = c.if-number.false in let b = c.if-number-ge-BOUND.false in omega (arith, ints, a, b))

pub returns : goal.returns
returns c =
    let whole : take c.loop-number.number-index c.args.numbers.now ≡ c.args.numbers.now = take_all _ _ c.loop-number-test.false in
    let within : All (IsBelow (2 ^ 62)) c.args.numbers.now = rw whole at c.loop-number.invariant in
    ((λ _. within), (λ _. search rules))
