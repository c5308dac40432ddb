use Rattle.std.proofs.Common.{◌≡◌, ◌+◌, ap, sym, ◌∙◌, arith, map, take}
use Rattle.std.specs.Prelude.{cond}
use Rattle.lt_core.specs.Beginnings.{fresh_events}
use Rattle.lt_core.specs.Marks.{event_of}
use Rattle.lt_core.proofs.Standing.{fresh_more, fresh_so_far}
use Rattle.lt_core.proofs.beginnings.fresh_count.Goals as goal
use Rattle.lt_core.proofs.beginnings.fresh_count.Goals.{then-event, else-event}

pub overflow_add-count : goal.overflow_add-count
overflow_add-count c =
    let few = fresh_so_far c.args.log.now c.loop-event.event-index c.loop-event-test.true in
    omega (arith, c.loop-event.invariant, c.loop-event-test.true, c.loop-event.auto)

pub loop-event-preserved : goal.loop-event-preserved
loop-event-preserved c =
    let so_far = fresh_events (map event_of (take c.loop-event.event-index c.args.log.now)) in
    let s = fresh_more c.args.log.now c.loop-event.event-index c.event-item.result c.loop-event-test.true c.event-item.is in
    elim c.if-event.branch [
      | then-event w ↦ w.count-is ∙ ap (λ n. n + 1) c.loop-event.invariant ∙ ap (λ b. so_far + cond b 1 0) (sym w.if-event.true) ∙ sym s
      | else-event w ↦
          let z : so_far ≡ so_far + 0 = omega arith in
          w.count-is ∙ c.loop-event.invariant ∙ z ∙ ap (λ b. so_far + cond b 1 0) (sym w.if-event.false) ∙ sym s
    ]
