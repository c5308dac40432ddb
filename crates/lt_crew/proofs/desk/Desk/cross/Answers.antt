use Rattle.std.proofs.Common.{◌+◌, ◌∙◌, ap, sym, subst, rules}
use Rattle.lt_model.specs.Atlases.{Entry, Atlas, cross}
use Rattle.lt_core.specs.Marks.{matrix_rows}
use Rattle.lt_crew.specs.Runs.{AreSettled}
use Rattle.lt_crew.proofs.Steps.{settled_on}
use Rattle.lt_crew.proofs.Events.{held_pushed, held_same}
use Rattle.lt_crew.proofs.Recorded.{cross_legal, cross_settled}
use Rattle.lt_crew.proofs.desk.Desk.cross.Goals as goal

pub record_cross-requires-clause-legal : goal.record_cross-requires-clause-legal
record_cross-requires-clause-legal g c = λ o.
    let h = c.stands.ensures c.if-not-stands.false in
    let e = c.eq-same.ensures.same.0 c.if-not-same.false in
    cross_legal c.args.self.now.atlas c.args.position h.1 c.args.task.now h.2 c.args.image.now (matrix_rows c.args.matrix) c.requires.carried c.args.target (search rules) (sym (ap (λ (z : Entry). z.triangulation) c.entry.ensures) ∙ e) o

pub invariant_of-self-in-Ok : goal.invariant_of-self-in-Ok
invariant_of-self-in-Ok g c =
    let d = c.args.self.now in
    let h = c.stands.ensures c.if-not-stands.false in
    let b = c.record_cross.new.self in
    let e = c.eq-same.ensures.same.0 c.if-not-same.false in
    let x = cross_settled d.atlas c.keeps.ensures.kept c.args.position c.args.task.now h.2 c.args.image.now (matrix_rows c.args.matrix) c.requires.carried c.args.target (search rules) (sym (ap (λ (z : Entry). z.triangulation) c.entry.ensures) ∙ e) b c.in-Ok.ensures.ok in
    let k = held_pushed d.atlas b c.args.position d.steps (cross c.args.target (matrix_rows c.args.matrix)) (record { below = d.below; few = d.few }) h.0 c.in-Ok.ensures.ok in
    record { counted = c.add.ensures.total ∙ ap (λ n. n + 1) d.counted ∙ sym k.0; all_shared = d.all_shared ∙ sym k.1; below = k.2.below; few_steps = d.few_steps; few = k.2.few; settled = settled_on d.atlas b c.args.position (record { queued = h.1; undecided = c.in-Ok.ensures.cause }) d.settled x }

pub invariant_of-self-in-Err : goal.invariant_of-self-in-Err
invariant_of-self-in-Err g c =
    let d = c.args.self.now in
    let k = held_same d.atlas c.record_cross.new.self d.steps (record { below = d.below; few = d.few }) c.in-Err.ensures.err in
    record { counted = d.counted ∙ sym k.0; all_shared = d.all_shared ∙ sym k.1; below = k.2.below; few_steps = d.few_steps; few = k.2.few; settled = subst (λ (z : Atlas). AreSettled z) (sym c.in-Err.ensures.err) d.settled }
