use Rattle.std.proofs.Common.{◌/◌, ◌^◌, arith}
use Rattle.std.proofs.lemmas.Nat.{mod_below}
use Rattle.ltypes.proofs.Turned.{takes, on_ok}
use Rattle.ltypes.proofs.turns.take_turn.Goals as goal

pub open_position-position-requires : goal.open_position-position-requires
open_position-position-requires c =
    let some = c.requires.some in
    let below = mod_below (c.next-number.new.self / 2 ^ 33) c.args.count (omega (arith, some)) in
    let answer = c.next-number.ensures.answer in
    let all = c.requires.count in
    omega (arith, below, answer, all)

pub returns-clause-turn : goal.returns-clause-turn
returns-clause-turn c =
    on_ok c.settle.result
    (λ settled. takes c.args.draws.now c.next-number.new.self c.args.count c.next-number.result c.open_position-position.result c.args.atlas.now c.settle.new.atlas c.next-number.ensures.state c.next-number.ensures.answer c.requires.count
    c.open_position-position.ensures settled) c.settle.ensures.ok
