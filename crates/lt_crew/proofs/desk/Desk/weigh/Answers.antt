use Rattle.std.proofs.Common.{◌+◌, ◌≤◌, ◌∙◌, ap, sym, subst, arith, length}
use Rattle.lt_model.specs.Atlases.{Atlas, heavy}
use Rattle.lt_crew.specs.Runs.{AreSettled}
use Rattle.lt_crew.proofs.Steps.{settled_on}
use Rattle.lt_crew.proofs.Events.{held_pushed, held_same}
use Rattle.lt_crew.proofs.Missed.{miss_done, miss_counted}
use Rattle.lt_model.specs.Logs.{IsUnlikeAll}
use Rattle.lt_crew.proofs.Standing.{beyond_across, beyond_narrow}
use Rattle.lt_crew.proofs.Beyond.{too_heavy, ends_heavy}
use Rattle.lt_crew.proofs.Recorded.{heavy_stuck, unlike}
use Rattle.lt_crew.proofs.desk.Desk.weigh.Goals as goal

pub record_stuck-requires-clause-stuck : goal.record_stuck-requires-clause-stuck
record_stuck-requires-clause-stuck g c = λ _.
    let h = c.stands.ensures c.if-not-stands.false in
    let k = c.knows.ensures c.if-not-knows.false in
    rw c.unsigned_abs-weight.ensures.value (heavy_stuck c.args.self.now.atlas c.keeps.ensures.low c.keeps.ensures.kept c.args.position h.1 c.args.task.now h.2 c.args.beyond.now c.requires.beyond c.args.test.now c.requires.tested k.1 k.0 c.args.weight c.requires.heavy)

pub invariant_of-self : goal.invariant_of-self
invariant_of-self g c =
    let d = c.args.self.now in
    let h = c.stands.ensures c.if-not-stands.false in
    let b = c.record_stuck.new.self in
    let t = c.knows.ensures c.if-not-knows.false in
    let o = c.in-Ok.ensures.cause in
    let r = c.args.beyond.now in
    let y = beyond_across d.atlas c.args.position c.args.task.now r h.2 c.requires.beyond in
    let n = beyond_narrow d.atlas c.args.position c.args.task.now r h.2 c.requires.beyond in
    let all : length d.atlas.entries ≤ c.args.test.now.tested = o.1 tt in
    let u : IsUnlikeAll d.atlas.dimension r d.atlas.entries = λ i l. unlike d.atlas c.keeps.ensures.low c.keeps.ensures.kept c.args.position h.1 c.args.task.now h.2 r c.requires.beyond c.args.test.now c.requires.tested t.1 i (omega (arith, l, all)) l in
    let w = too_heavy d.atlas c.args.position r b y n c.args.weight c.requires.heavy u in
    let x = ends_heavy d.atlas c.args.position r b y n w.0 c.unsigned_abs-weight.result w.1 (c.unsigned_abs-weight.ensures.value ∙ w.2) c.in-Ok.ensures.ok in
    let k = held_pushed d.atlas b c.args.position d.steps (heavy c.unsigned_abs-weight.result) (record { below = d.below; few = d.few }) h.0 c.in-Ok.ensures.ok in
    record { counted = c.add.ensures.total ∙ ap (λ n. n + 1) d.counted ∙ sym k.0; all_shared = d.all_shared ∙ sym k.1; below = k.2.below; few_steps = d.few_steps; few = k.2.few; settled = settled_on d.atlas b c.args.position (record { queued = h.1; undecided = o.0 }) d.settled x }

pub invariant_of-self-in-Err-1 : goal.invariant_of-self-in-Err-1
invariant_of-self-in-Err-1 g c =
    let d = c.args.self.now in
    let k = held_same d.atlas c.record_stuck.new.self d.steps (record { below = d.below; few = d.few }) c.in-Err.ensures.unchanged in
    record { counted = d.counted ∙ sym k.0; all_shared = d.all_shared ∙ sym k.1; below = k.2.below; few_steps = d.few_steps; few = k.2.few; settled = subst (λ (z : Atlas). AreSettled z) (sym c.in-Err.ensures.unchanged) d.settled }

pub returns-in-Err-clause-done : goal.returns-in-Err-clause-done
returns-in-Err-clause-done g c = miss_done c.of_missed.result _ _ _ c.of_missed.ensures c.in-Err.ensures.unchanged

pub returns-in-Err-clause-counted : goal.returns-in-Err-clause-counted
returns-in-Err-clause-counted g c = miss_counted c.of_missed.result _ c.of_missed.ensures
