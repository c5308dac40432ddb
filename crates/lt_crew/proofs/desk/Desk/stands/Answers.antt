use Rattle.std.proofs.Common.{◌≡◌, ◌<◌, ◌∙◌, ap, arith, rules, length}
use Rattle.lt_model.specs.Cones.{Row}
use Rattle.lt_core.specs.Marks.{entry_of}
use Rattle.lt_crew.specs.Tasks.{home_of}
use Rattle.lt_crew.proofs.Standing.{copies_stand}
use Rattle.lt_crew.proofs.desk.Desk.stands.Goals as goal

pub returns-then-eq : goal.returns-then-eq
returns-then-eq g c = λ same.
    let a = c.args.self.now.atlas in
    let here : c.args.position < length a.queue = omega (arith, c.if-position-queued.false, c.queued.ensures) in
    let n : c.row.inside.normal ≡ c.args.task.now.normal = c.same_normal.ensures.0 same in
    let h = c.eq.ensures.same.0 c.if-eq.true ∙ c.deref.ensures in
    (search rules, here, copies_stand a c.keeps.ensures.low c.keeps.ensures.kept c.args.position here c.place-k.result.0 c.place-k.result.1 (entry_of c.entry-entry.result.now) c.row.inside.normal c.place-k.ensures.entry c.place-k.ensures.facet c.entry-entry.ensures (ap (λ (r : Row). r.normal) c.row.view_is ∙ c.facet-row.ensures.normal) (home_of c.args.task.now) c.args.task.now.normal h n)
