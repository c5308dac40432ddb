use Rattle.std.proofs.Common.{◌∙◌, ◌≡◌, ap}
use Rattle.std.proofs.lemmas.List.{take_all}
use Rattle.std.specs.List.{remove}
use Rattle.lt_triang.proofs.Shifts.{remove_is}
use Rattle.lt_colour.proofs.pairs.others.Goals as goal

pub returns : goal.returns
returns c =
    let e : c.loop-number.all.items ≡ c.args.numbers.now = c.loop-number.invariant ∙ take_all c.loop-number.number-index c.args.numbers.now c.loop-number-test.false in
    c.remove-removed.ensures.items ∙ ap (λ l. remove l c.args.i) e ∙ remove_is c.args.numbers.now c.args.i
