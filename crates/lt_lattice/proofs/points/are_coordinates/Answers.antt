use Rattle.std.proofs.Common.{rules, arith, ◌≡◌, pos, take, length, ◌^◌}
use Rattle.std.specs.List.{All}
use Rattle.std.proofs.lemmas.Int.{ints}
use Rattle.std.proofs.lemmas.List.{take_all}
use Rattle.std.proofs.lemmas.List.Elements.{All-more}
use Rattle.lt_lattice.specs.Ranges.{IsWithin}
use Rattle.lt_lattice.proofs.points.are_coordinates.Goals as goal

pub loop-number-preserved : goal.loop-number-preserved
loop-number-preserved c =
    let l : length c.args.numbers.now ≡ 6 = search rules in
    All-more (IsWithin (2 ^ 20)) c.args.numbers.now c.loop-number.number-index (pos 0) (omega arith) c.loop-number.invariant
    (let a = c.if-number.false in let b = c.if-number-gt-GREATEST.false in omega (arith, ints, a, b))

pub returns : goal.returns
returns c =
    let l : length c.args.numbers.now ≡ 6 = search rules in
    let whole : take c.loop-number.number-index c.args.numbers.now ≡ c.args.numbers.now = take_all _ _ (omega arith) in
    let within : All (IsWithin (2 ^ 20)) c.args.numbers.now = rw whole at c.loop-number.invariant in
    ((λ _. within), (λ _. search rules))
