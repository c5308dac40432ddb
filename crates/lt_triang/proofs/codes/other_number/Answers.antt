use Rattle.std.proofs.Common.{rules, ◌∙◌, ◌+◌, pos, get_or, w64, FitsSigned, arith}
use Rattle.std.proofs.lemmas.Int.{to_z-of_z}
use Rattle.lt_triang.proofs.Coded.{number-without_below, number-without_above}
use Rattle.lt_triang.proofs.codes.other_number.Goals as goal

pub returns-then-k-i : goal.returns-then-k-i
returns-then-k-i c =
    let x : FitsSigned w64 (get_or c.args.numbers.now c.args.k (pos 0)) = search rules in
    to_z-of_z w64 _ x ∙ number-without_below c.args.i c.args.k c.args.numbers.now (omega (arith, c.if-k-i.true))

pub returns-else-k-i : goal.returns-else-k-i
returns-else-k-i c =
    let x : FitsSigned w64 (get_or c.args.numbers.now (c.args.k + 1) (pos 0)) = search rules in
    to_z-of_z w64 _ x ∙ number-without_above c.args.i c.args.k c.args.numbers.now (omega (arith, c.if-k-i.false))
