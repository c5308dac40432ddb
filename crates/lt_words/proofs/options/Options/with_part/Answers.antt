use Rattle.lt_words.proofs.Goings.{goes_dimension, goes_resume, goes_ending, goes_named, goes_joined, stops_at_part}
use Rattle.lt_words.proofs.options.Options.with_part.Goals as goal

pub returns-then-not-allows-clause-stops : goal.returns-then-not-allows-clause-stops
returns-then-not-allows-clause-stops c = stops_at_part c.args.self c.args.part c.requires.no_number c.requires.part (λ a. let yes = c.allows.ensures.1 a in let no = c.if-not-allows.true in cc)

pub returns-in-Dimension-clause-goes : goal.returns-in-Dimension-clause-goes
returns-in-Dimension-clause-goes c = goes_dimension c.args.self c.args.part c.in-Dimension.d c.in-Dimension.is c.requires.no_number c.requires.part (c.allows.ensures.0 c.if-not-allows.false)

pub returns-in-Resume-clause-goes : goal.returns-in-Resume-clause-goes
returns-in-Resume-clause-goes c = goes_resume c.args.self c.args.part c.in-Resume.is c.requires.no_number (c.allows.ensures.0 c.if-not-allows.false)

pub returns-in-Ending-clause-goes : goal.returns-in-Ending-clause-goes
returns-in-Ending-clause-goes c = goes_ending c.args.self c.args.part c.in-Ending.is c.requires.no_number (c.allows.ensures.0 c.if-not-allows.false)

pub returns-in-Named-clause-goes : goal.returns-in-Named-clause-goes
returns-in-Named-clause-goes c = goes_named c.args.self c.args.part c.in-Named.setting c.in-Named.is c.requires.no_number

pub returns-in-Joined-clause-goes : goal.returns-in-Joined-clause-goes
returns-in-Joined-clause-goes c = goes_joined c.args.self c.with_number-next.result c.args.part c.in-Joined.setting c.in-Joined.n c.in-Joined.is c.requires.no_number c.requires.part c.with_number-next.ensures.due c.with_number-next.ensures.read
