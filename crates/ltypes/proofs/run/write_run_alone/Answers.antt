use Rattle.std.proofs.Common.{arith}
use Rattle.lt_words.proofs.Ranges.{few_steps}
use Rattle.ltypes.specs.Changes.{change}
use Rattle.ltypes.specs.Runs.{IsRunHere}
use Rattle.ltypes.proofs.Started.{begins_in_dimension}
use Rattle.ltypes.proofs.Ending.{is_run, answers}
use Rattle.ltypes.proofs.run.write_run_alone.Goals as goal

pub run_alone-ended-requires-clause-steps : goal.run_alone-ended-requires-clause-steps
run_alone-ended-requires-clause-steps g c =
    let steps = c.requires.steps in
    omega (arith, steps, few_steps c.args.d)

pub returns-clause-answer : goal.returns-clause-answer
returns-clause-answer g c =
    let d = c.args.d in
    let resume = c.args.resume in
    let source = change (g.S.Source.left c.args.source.now) (g.S.Source.left c.beginning.new.source) (g.S.Source.faults c.args.source.now) (g.S.Source.faults c.beginning.new.source) in
    let out = change (g.K.Sink.held c.args.out.now) (g.K.Sink.held c.write_ended.new.out) (g.K.Sink.faults c.args.out.now) (g.K.Sink.faults c.write_ended.new.out) in
    let e = c.run_alone-ended.result in
    let s = c.in-Ok.start in
    let here : IsRunHere d 1 c.args.steps resume source e.atlas = record {
      start = s;
      beginning = c.in-Ok.ensures.begins;
      run = is_run d 1 c.args.steps s e.atlas (begins_in_dimension d resume source s c.in-Ok.ensures.begins) c.run_alone-ended.ensures.run.begins c.run_alone-ended.ensures.below c.run_alone-ended.ensures.run.settled (λ _. c.run_alone-ended.ensures.run.order) c.keeps.ensures.kept;
    } in
    answers d 1 c.args.steps resume source out e.memory e.atlas c.write_ended.result here c.keeps.ensures.low c.keeps.ensures.kept c.run_alone-ended.ensures.settled c.write_ended.ensures
