use Rattle.std.proofs.Common.{◌+◌, ◌∙◌, rules, ap, sym, subst}
use Rattle.std.proofs.lemmas.Int.{to_z-of_z}
use Rattle.std.specs.Prelude.{nat_abs}
use mir.Syntax.{w64}
use Rattle.lt_model.specs.Atlases.{Atlas, wide}
use Rattle.lt_crew.specs.Runs.{AreSettled}
use Rattle.lt_crew.proofs.Steps.{settled_on}
use Rattle.lt_crew.proofs.Events.{held_pushed, held_same}
use Rattle.lt_crew.proofs.Recorded.{wide_stuck, wide_settled}
use Rattle.lt_crew.proofs.desk.Desk.widen.Goals as goal

pub record_stuck-requires-clause-stuck : goal.record_stuck-requires-clause-stuck
record_stuck-requires-clause-stuck g c = λ _.
    let h = c.stands.ensures c.if-not-stands.false in
    wide_stuck c.args.self.now.atlas c.keeps.ensures.low c.keeps.ensures.kept c.args.position h.1 c.args.task.now h.2 c.args.class c.args.span c.unsigned_abs-span.result c.entries-entries.result c.requires.wide (c.unsigned_abs-span.ensures.value ∙ ap nat_abs (to_z-of_z w64 c.args.span (search rules)))

pub invariant_of-self : goal.invariant_of-self
invariant_of-self g c =
    let d = c.args.self.now in
    let b = c.record_stuck.new.self in
    let h = c.stands.ensures c.if-not-stands.false in
    let n = c.unsigned_abs-span.result in
    let x = wide_settled d.atlas c.keeps.ensures.low c.keeps.ensures.kept c.args.position h.1 c.args.task.now h.2 c.args.class c.args.span n b c.requires.wide (c.unsigned_abs-span.ensures.value ∙ ap nat_abs (to_z-of_z w64 c.args.span (search rules))) c.in-Ok.ensures.ok in
    let k = held_pushed d.atlas b c.args.position d.steps (wide c.args.class n) (record { below = d.below; few = d.few }) h.0 c.in-Ok.ensures.ok in
    record { counted = c.add.ensures.total ∙ ap (λ n. n + 1) d.counted ∙ sym k.0; all_shared = d.all_shared ∙ sym k.1; below = k.2.below; few_steps = d.few_steps; few = k.2.few; settled = settled_on d.atlas b c.args.position (record { queued = h.1; undecided = c.in-Ok.ensures.cause.0 }) d.settled x }

pub invariant_of-self-in-Err : goal.invariant_of-self-in-Err
invariant_of-self-in-Err g c =
    let d = c.args.self.now in
    let k = held_same d.atlas c.record_stuck.new.self d.steps (record { below = d.below; few = d.few }) c.in-Err.ensures.unchanged in
    record { counted = d.counted ∙ sym k.0; all_shared = d.all_shared ∙ sym k.1; below = k.2.below; few_steps = d.few_steps; few = k.2.few; settled = subst (λ (z : Atlas). AreSettled z) (sym c.in-Err.ensures.unchanged) d.settled }
