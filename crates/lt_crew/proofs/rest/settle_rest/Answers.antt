use Rattle.std.proofs.Common.{◌<◌, ◌≤◌, ◌+◌, ◌∙◌, length, arith, sym, subst, inl, inr, ◌⊎◌}
use Rattle.lt_model.specs.Atlases as model
use Rattle.lt_crew.specs.Runs.{AreSettled, IsSettledBelow}
use Rattle.lt_crew.proofs.Events.{few_events}
use Rattle.lt_crew.proofs.Remaining.{IsRestTo, rest_goes_on, rest_steps, rest_ends}
use Rattle.lt_crew.proofs.rest.settle_rest.Goals.{then-is_open+in-Ok, else-is_open, then-loop-position-test+else-position-queued, else-loop-position-test}
use Rattle.lt_crew.proofs.rest.settle_rest.Goals as goal

pub settle-requires-clause-few : goal.settle-requires-clause-few
settle-requires-clause-few c =
    let a = c.loop-position.atlas in
    let n : length a.log ≤ c.args.steps = few_events a c.args.steps c.keeps.ensures.kept.legal c.loop-position.invariant.within.below in
    let f = c.loop-position.invariant.within.few in
    let s = c.requires.steps in
    omega (arith, n, f, s)

pub loop-position-preserved : goal.loop-position-preserved
loop-position-preserved c =
    let l = c.loop-position in
    elim c.if-is_open.branch [
      | then-is_open+in-Ok w ↦ (
          let q : l.position < length l.atlas.queue = omega (arith, c.if-position-queued.true, c.queued.ensures) in
          let o = sym c.standing.ensures ∙ c.is_open.ensures.0 w.if-is_open.true in
          subst (λ (z : model.Atlas). IsRestTo c.args.atlas z c.args.steps (l.position + 1)) (sym w.atlas-is)
          (rest_steps c.args.atlas l.atlas w.settle.new.atlas c.args.steps l.position l.invariant c.keeps.ensures.kept w.keeps-in-Ok.ensures.kept c.loop-position-test.true (record { queued = q; undecided = o }) w.in-Ok.ensures.ok)
          )
      | else-is_open w ↦ subst (λ (z : model.Atlas). IsRestTo c.args.atlas z c.args.steps (l.position + 1)) (sym w.atlas-is) (rest_goes_on c.args.atlas l.atlas c.args.steps l.position l.invariant (omega (arith, c.if-position-queued.true, c.queued.ensures)) (λ o. let h = c.is_open.ensures.1 (c.standing.ensures ∙ o) in cc))
    ]

pub returns-clause-settled : goal.returns-clause-settled
returns-clause-settled c = λ _.
    let i = c.loop-position.invariant in
    let a = c.loop-position.atlas in
    let end : (c.args.steps ≤ c.loop-position.position) ⊎ (length a.queue ≤ c.loop-position.position) = elim c.loop-position-test.branch [
      | then-loop-position-test+else-position-queued w ↦ inr (omega (arith, w.if-position-queued.false, w.queued.ensures))
      | else-loop-position-test w ↦ inl (omega (arith, w.loop-position-test.false))
    ] in
    subst (λ (z : model.Atlas). IsSettledBelow c.args.steps z) (sym c.end_of-2.ensures.atlas) (rest_ends c.args.atlas a c.args.steps c.loop-position.position i c.keeps-2.ensures.kept end)

pub returns-clause-events : goal.returns-clause-events
returns-clause-events c = subst (λ (z : model.Atlas). AreSettled z) (sym c.end_of-2.ensures.atlas) c.loop-position.invariant.events
