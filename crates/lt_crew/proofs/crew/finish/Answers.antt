use Rattle.std.proofs.Common.{sym, subst, ℕ}
use Rattle.lt_model.specs.Atlases as model
use Rattle.lt_crew.specs.Runs.{AreBelow, AreSettled}
use Rattle.lt_crew.proofs.crew.finish.Goals as goal

pub returns-then-memory-clause-below : goal.returns-then-memory-clause-below
returns-then-memory-clause-below g c =
    let atlas = c.open-atlas.result.0 in
    subst (λ (a : model.Atlas). AreBelow c.args.steps a.log) (sym c.end_of.ensures.atlas) (subst (λ (n : ℕ). AreBelow n atlas.log) c.if-limit-steps.false c.open-atlas.ensures.below)

pub returns-then-memory-clause-events : goal.returns-then-memory-clause-events
returns-then-memory-clause-events g c = subst (λ (a : model.Atlas). AreSettled a) (sym c.end_of.ensures.atlas) c.open-atlas.ensures.settled
