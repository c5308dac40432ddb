use Rattle.std.proofs.Common.{◌≡◌, ◌≤◌, sym, ◌∙◌, ap, subst, arith, length, map, vec_capacity, []}
use Rattle.std.proofs.lemmas.List.{length-map}
use Rattle.lt_model.specs.Atlases as model
use Rattle.lt_model.specs.RightAtlases.{open_places}
use Rattle.lt_core.specs.declared.atlas.Atlas.TheInside.{Inside}
use Rattle.lt_core.specs.Marks.{mark_of, entry_of, marks_of}
use Rattle.lt_core.specs.Sound.{IsSound}
use Rattle.lt_core.proofs.Printed.{some_forms, made_prints}
use Rattle.lt_core.proofs.FewFacets.{few_marks}
use Rattle.lt_core.proofs.Sounds.{sound_fresh, value_fresh}
use Rattle.lt_core.proofs.atlas.Atlas.of.Goals as goal

pub prints_of-requires : goal.prints_of-requires
prints_of-requires c = some_forms c.args.dimension c.requires.low c.args.entries.items (marks_of c.args.marks.items) c.requires.right c.deref.result.now c.deref.ensures.value

pub open_queue-requires-clause-few_facets : goal.open_queue-requires-clause-few_facets
open_queue-requires-clause-few_facets c =
    rw (c.deref-2.ensures.value) (λ k l. few_marks c.args.dimension (map entry_of c.args.entries.items) (marks_of c.args.marks.items) c.requires.low c.requires.high c.requires.right k (let n = length-map c.args.marks.items (λ ms. map mark_of ms.items) in omega (arith, l, n)))

pub invariant_of-result : goal.invariant_of-result
invariant_of-result c =
    let i : Inside = record {
      dimension = c.args.dimension;
      entries = c.args.entries;
      marks = c.args.marks;
      prints = c.in_ok-prints.prints;
      queue = c.in_ok-queue.queue;
      log = c.reserve.new.self;
      undecided = c.len-undecided.result;
      stuck = 0;
    } in
    let hq : c.in_ok-queue.queue.items ≡ open_places 0 (marks_of c.args.marks.items) = c.in_ok-queue.ensures ∙ ap (λ l. open_places 0 (marks_of l)) c.deref-2.ensures.value in
    let hl : c.reserve.new.self.items ≡ [] = c.in_ok-reserve.ensures.items ∙ c.new-log.ensures.items in
    let few : length (map entry_of c.args.entries.items) ≤ 100001 = (let l = length-map c.args.entries.items entry_of in omega arith) in
    let long : c.len-undecided.result ≡ length (open_places 0 (marks_of c.args.marks.items)) = c.len-undecided.ensures ∙ c.in_ok-queue.queue.ok.0 ∙ ap length hq in
    let room : c.len-undecided.result ≤ vec_capacity c.reserve.new.self = omega (arith, c.in_ok-reserve.ensures.ok, c.len.ensures, c.len-undecided.ensures) in
    record {
      sound =
          subst (λ (z : model.Atlas). IsSound z c.len-undecided.result 0 (vec_capacity c.reserve.new.self)) (sym (value_fresh i hq hl))
          (sound_fresh c.args.dimension (map entry_of c.args.entries.items) (marks_of c.args.marks.items) c.len-undecided.result (vec_capacity c.reserve.new.self) (c.requires.settled) c.requires.low c.requires.high c.requires.right few long room);
      prints = made_prints c.args.dimension c.requires.low c.args.entries.items (marks_of c.args.marks.items) c.requires.right c.deref.result.now c.deref.ensures.value c.in_ok-prints.prints.items c.in_ok-prints.ensures.count c.in_ok-prints.ensures.each;
    }

pub returns : goal.returns
returns c =
    value_fresh (record {
      dimension = c.args.dimension;
      entries = c.args.entries;
      marks = c.args.marks;
      prints = c.in_ok-prints.prints;
      queue = c.in_ok-queue.queue;
      log = c.reserve.new.self;
      undecided = c.len-undecided.result;
      stuck = 0;
    })
    (c.in_ok-queue.ensures ∙ ap (λ l. open_places 0 (marks_of l)) c.deref-2.ensures.value)
    (c.in_ok-reserve.ensures.items ∙ c.new-log.ensures.items)
