use Rattle.std.proofs.Common.{ℕ, subst, arith}
use Rattle.lt_words.proofs.Ranges.{few_turns}
use Rattle.ltypes.specs.Drills.{IsDrilled}
use Rattle.ltypes.proofs.Drilled.{drilled_run, are_drilled, unrun, as_many}
use Rattle.ltypes.proofs.drill.drill.Goals.{In-Ok}
use Rattle.ltypes.proofs.drill.drill.Goals as goal

drilled_here : (c : In-Ok) → IsDrilled c.args.d c.args.seed c.args.turns c.in-Ok.start
drilled_here c = subst (λ (x : ℕ). IsDrilled c.args.d x c.args.turns c.in-Ok.start) c.new-draws.ensures c.in-Ok.ensures.drilled

pub read_again-requires-clause-run : goal.read_again-requires-clause-run
read_again-requires-clause-run c = drilled_run c.args.d c.args.seed c.args.turns c.in-Ok.start c.requires.dimension (drilled_here (goal.at.read_again-requires-clause-run c).In-Ok)

pub read_again-requires-clause-few : goal.read_again-requires-clause-few
read_again-requires-clause-few c =
    let few = c.in-Ok.ensures.few in
    let turns = c.requires.turns in
    omega (arith, few, turns, few_turns c.args.d)

pub run_alone-ended-requires-clause-unrun : goal.run_alone-ended-requires-clause-unrun
run_alone-ended-requires-clause-unrun c = unrun c.in-Ok.start c.in-Ok-read_again.again c.in-Ok-read_again.ensures.resumed

pub run_alone-ended-requires-clause-few : goal.run_alone-ended-requires-clause-few
run_alone-ended-requires-clause-few c =
    let few = c.in-Ok.ensures.few in
    let turns = c.requires.turns in
    let same = as_many c.in-Ok.start c.in-Ok-read_again.again c.in-Ok-read_again.ensures.resumed in
    omega (arith, few, turns, few_turns c.args.d, same)

pub run_alone-ended-requires-clause-steps : goal.run_alone-ended-requires-clause-steps
run_alone-ended-requires-clause-steps c =
    let turns = c.requires.turns in
    omega (arith, turns, few_turns c.args.d)

pub returns-clause-drilled : goal.returns-clause-drilled
returns-clause-drilled c =
    let ended = c.run_alone-ended in
    are_drilled c.args.d c.args.seed c.args.turns c.in-Ok.start c.in-Ok-read_again.again ended.result.atlas (drilled_here (goal.at.returns-clause-drilled c).In-Ok) c.in-Ok-read_again.ensures.short c.in-Ok-read_again.ensures.resumed ended.ensures.run ended.ensures.below
    (ended.ensures.settled c.if-ended.false) c.keeps-2.ensures.kept
