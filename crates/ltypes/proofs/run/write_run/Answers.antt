use Rattle.std.proofs.Common.{arith}
use Rattle.lt_words.proofs.Ranges.{few_steps}
use Rattle.ltypes.specs.Changes.{change}
use Rattle.ltypes.specs.Runs.{IsRunHere}
use Rattle.ltypes.proofs.Started.{begins_in_dimension}
use Rattle.ltypes.proofs.Ending.{is_run, answers}
use Rattle.ltypes.proofs.run.write_run.Goals as goal

pub enumerate-ended-requires-clause-steps : goal.enumerate-ended-requires-clause-steps
enumerate-ended-requires-clause-steps g c =
    let steps = c.requires.steps in
    omega (arith, steps, few_steps c.args.d)

pub returns-clause-answer : goal.returns-clause-answer
returns-clause-answer g c =
    let d = c.args.d in
    let resume = c.args.resume in
    let source = change (g.S.Source.left c.args.source.now) (g.S.Source.left c.beginning.new.source) (g.S.Source.faults c.args.source.now) (g.S.Source.faults c.beginning.new.source) in
    let out = change (g.K.Sink.held c.args.out.now) (g.K.Sink.held c.write_ended.new.out) (g.K.Sink.faults c.args.out.now) (g.K.Sink.faults c.write_ended.new.out) in
    let e = c.enumerate-ended.result in
    let s = c.in-Ok.start in
    let here : IsRunHere d c.args.workers c.args.steps resume source e.atlas = record {
      start = s;
      beginning = c.in-Ok.ensures.begins;
      run = is_run d c.args.workers c.args.steps s e.atlas (begins_in_dimension d resume source s c.in-Ok.ensures.begins) c.enumerate-ended.ensures.begins c.enumerate-ended.ensures.below c.enumerate-ended.ensures.events (λ one. let several = c.requires.several in absurd (omega (arith, one, several))) c.keeps.ensures.kept;
    } in
    answers d c.args.workers c.args.steps resume source out e.memory e.atlas c.write_ended.result here c.keeps.ensures.low c.keeps.ensures.kept c.enumerate-ended.ensures.settled c.write_ended.ensures
