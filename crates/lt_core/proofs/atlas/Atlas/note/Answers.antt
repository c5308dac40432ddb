use Rattle.std.proofs.Common.{◌<◌, ◌≤◌, ◌-◌, ◌+◌, ℕ, sym, ◌∙◌, subst, ap, arith, vec_len, vec_capacity}
use Rattle.std.specs.Prelude.{false}
use Rattle.lt_model.specs.Atlases as model
use Rattle.std.proofs.lemmas.List.{length-map}
use Rattle.lt_model.specs.Atlases.{one_if_stuck}
use Rattle.lt_core.specs.Marks.{mark_of, event_of}
use Rattle.lt_core.specs.Meaning.{value_of}
use Rattle.lt_core.specs.Sound.{IsSound}
use Rattle.lt_core.proofs.Sounds.{read_place, entry_within, facet_within, some_open, sound_push, value_push, legal_inside, has_room}
use Rattle.lt_core.proofs.atlas.Atlas.note.Goals as goal

pub put-requires-clause-entry_within : goal.put-requires-clause-entry_within
put-requires-clause-entry_within c =
    let l = legal_inside c.self.inside c.args.self.now c.args.position (mark_of c.args.mark) c.self.view_is c.requires.legal in
    entry_within c.self.inside c.self.invariant.sound c.args.position c.index.result.now l.position.queued c.index.ensures

pub put-requires-clause-facet_within : goal.put-requires-clause-facet_within
put-requires-clause-facet_within c =
    let l = legal_inside c.self.inside c.args.self.now c.args.position (mark_of c.args.mark) c.self.view_is c.requires.legal in
    facet_within c.self.inside c.self.invariant.sound c.args.position c.index.result.now l.position.queued c.index.ensures

pub overflow_sub-self : goal.overflow_sub-self
overflow_sub-self c =
    let l = legal_inside c.self.inside c.args.self.now c.args.position (mark_of c.args.mark) c.self.view_is c.requires.legal in
    some_open (value_of c.self.inside) c.self.inside.undecided c.self.inside.stuck (vec_capacity c.self.inside.log) (value_of c.self.inside).entries c.args.position (mark_of c.args.mark) false c.self.invariant.sound l

pub unreachable-requires : goal.unreachable-requires
unreachable-requires c =
    let l = legal_inside c.self.inside c.args.self.now c.args.position (mark_of c.args.mark) c.self.view_is c.requires.legal in
    let some : 1 ≤ c.self.inside.undecided = some_open (value_of c.self.inside) c.self.inside.undecided c.self.inside.stuck (vec_capacity c.self.inside.log) (value_of c.self.inside).entries c.args.position (mark_of c.args.mark) false c.self.invariant.sound l in
    let room : vec_len c.self.inside.log < vec_capacity c.self.inside.log = has_room c.self.inside c.self.invariant.sound some in
    let full : vec_capacity c.self.inside.log ≤ vec_len c.self.inside.log = c.in-Err.ensures.full in
    absurd (omega arith)

pub invariant_of-self : goal.invariant_of-self
invariant_of-self c =
    let l = legal_inside c.self.inside c.args.self.now c.args.position (mark_of c.args.mark) c.self.view_is c.requires.legal in
    let place = read_place c.self.inside c.self.invariant.sound c.args.position c.index.result.now l.position.queued c.index.ensures in
    let same = value_push c.self.inside c.put.new.marks c.push.new.self (c.self.inside.undecided - 1) (c.self.inside.stuck + c.args.stuck) c.args.position c.index.result.now (mark_of c.args.mark) (record { position = c.args.position; mark = c.args.noted; fresh = false }) place c.put.ensures.value c.in-Ok.ensures.items (ap (λ m. record { position = c.args.position; mark = m; fresh = false }) c.requires.same) in
    record {
      sound =
          subst (λ (z : model.Atlas). IsSound z (c.self.inside.undecided - 1) (c.self.inside.stuck + c.args.stuck) (vec_capacity c.push.new.self)) (sym same)
          (subst (λ (n : ℕ). IsSound (model.push (value_of c.self.inside) c.args.position (mark_of c.args.mark)) (c.self.inside.undecided - 1) (c.self.inside.stuck + n) (vec_capacity c.push.new.self)) (sym c.requires.counted) (sound_push (value_of c.self.inside) c.self.inside.undecided c.self.inside.stuck (vec_capacity c.self.inside.log) (vec_capacity c.push.new.self) c.args.position (mark_of c.args.mark) c.self.invariant.sound l c.push.ensures.capacity));
      prints = c.self.invariant.prints;
    }

pub returns : goal.returns
returns c =
    let l = legal_inside c.self.inside c.args.self.now c.args.position (mark_of c.args.mark) c.self.view_is c.requires.legal in
    let place = read_place c.self.inside c.self.invariant.sound c.args.position c.index.result.now l.position.queued c.index.ensures in
    let same = value_push c.self.inside c.put.new.marks c.push.new.self (c.self.inside.undecided - 1) (c.self.inside.stuck + c.args.stuck) c.args.position c.index.result.now (mark_of c.args.mark) (record { position = c.args.position; mark = c.args.noted; fresh = false }) place c.put.ensures.value c.in-Ok.ensures.items (ap (λ m. record { position = c.args.position; mark = m; fresh = false }) c.requires.same) in
    same ∙ ap (λ (z : model.Atlas). model.push z c.args.position (mark_of c.args.mark)) c.self.view_is

stuck_once : (m : model.Mark) → one_if_stuck m ≤ 1
stuck_once model.open_mark = omega arith
stuck_once (model.cross k u) = omega arith
stuck_once (model.wide t n) = omega arith
stuck_once (model.heavy n) = omega arith

pub overflow_add-self : goal.overflow_add-self
overflow_add-self c =
    let k = c.self.invariant.sound.few_stuck in
    let l = length-map c.self.inside.log.items event_of in
    omega (arith, k, l, c.requires.counted, stuck_once (mark_of c.args.mark), c.self.inside.log.ok.0)
