use Rattle.std.proofs.Common.{◌≡◌, ◌≤◌, ◌+◌, ◌∙◌, ap, sym, subst, arith, length, List, ◌++◌, ◌∷◌, [], map}
use Rattle.std.specs.Arc.{arc_value}
use Rattle.lt_model.specs.Atlases.{Classes, Atlas}
use Rattle.lt_core.specs.Candidates.{candidate}
use Rattle.lt_crew.specs.Runs.{AreSettled}
use Rattle.lt_crew.proofs.Steps.{settled_on}
use Rattle.lt_crew.proofs.Events.{held_grown, held_same, few_events}
use Rattle.lt_crew.proofs.Recorded.{new_stands, new_settled}
use Rattle.std.proofs.lemmas.List.{map-append}
use Rattle.lt_crew.proofs.desk.Desk.grow.Goals as goal

pub record_new-requires-clause-candidate : goal.record_new-requires-clause-candidate
record_new-requires-clause-candidate g c = λ _.
    let h = c.stands.ensures c.if-not-stands.false in
    let k = c.knows.ensures c.if-not-knows.false in
    new_stands c.args.self.now.atlas c.keeps.ensures.low c.keeps.ensures.kept c.args.position h.1 c.args.task.now h.2 c.args.beyond c.requires.beyond c.args.test.now c.requires.tested k.1 k.0 c.args.cone c.requires.cone

pub record_new-requires-clause-few : goal.record_new-requires-clause-few
record_new-requires-clause-few g c =
    let d = c.args.self.now in
    let n : length d.atlas.log ≤ d.steps = few_events d.atlas d.steps c.keeps.ensures.kept.legal d.below in
    let f = d.few in
    let g = d.few_steps in
    omega (arith, n, f, g)

pub invariant_of-self-in-Ok : goal.invariant_of-self-in-Ok
invariant_of-self-in-Ok g c =
    let d = c.args.self.now in
    let h = c.stands.ensures c.if-not-stands.false in
    let b = c.record_new.new.self in
    let t = c.knows.ensures c.if-not-knows.false in
    let o = c.in-Ok.ensures.cause in
    let x = new_settled d.atlas c.keeps.ensures.low c.keeps.ensures.kept c.args.position h.1 c.args.task.now h.2 c.args.beyond c.requires.beyond c.args.test.now c.requires.tested t.1 t.0 o.1 b c.args.cone c.requires.cone c.in-Ok.ensures.ok.1 in
    let k = held_grown d.atlas b c.args.position d.steps (candidate d.atlas c.args.position c.args.beyond c.args.cone) (record { below = d.below; few = d.few }) h.0 c.in-Ok.ensures.ok.1 in
    let all : map arc_value c.push_reserved.new.self.items ≡ map arc_value d.shared.items ++ c.args.beyond ∷ [] = ap (map arc_value) (c.push_reserved.ensures.items ∙ ap (λ z. z ++ c.args.copy ∷ []) c.reserve.ensures.items) ∙ map-append arc_value d.shared.items (c.args.copy ∷ []) ∙ ap (λ (t : Classes). map arc_value d.shared.items ++ t ∷ []) c.requires.copy in
    record { counted = c.add.ensures.total ∙ ap (λ n. n + 1) d.counted ∙ sym k.0; all_shared = all ∙ ap (λ (z : List Classes). z ++ c.args.beyond ∷ []) d.all_shared ∙ sym k.1; below = k.2.below; few_steps = d.few_steps; few = k.2.few; settled = settled_on d.atlas b c.args.position (record { queued = h.1; undecided = o.0 }) d.settled x }

pub invariant_of-self-in-Err-1 : goal.invariant_of-self-in-Err-1
invariant_of-self-in-Err-1 g c =
    let d = c.args.self.now in
    let k = held_same d.atlas c.record_new.new.self d.steps (record { below = d.below; few = d.few }) c.in-Err.ensures.unchanged in
    record { counted = d.counted ∙ sym k.0; all_shared = ap (map arc_value) c.reserve.ensures.items ∙ d.all_shared ∙ sym k.1; below = k.2.below; few_steps = d.few_steps; few = k.2.few; settled = subst (λ (z : Atlas). AreSettled z) (sym c.in-Err.ensures.unchanged) d.settled }
