use Rattle.std.proofs.Common.{◌≤◌, ℕ, sym, subst, ◌+◌, ◌-◌, ◌++◌, ◌∷◌, [], ◌∙◌, ap, length, arith, vec_capacity, refl}
use Rattle.std.specs.Prelude.{true}
use Rattle.std.proofs.lemmas.List.{length-map}
use Rattle.std.specs.declared.option.Option.TheVariants.{Some}
use Rattle.lt_model.specs.Atlases as model
use Rattle.lt_colour.specs.Signatures.{IsFingerprint}
use Rattle.lt_core.specs.declared.marks.Entry.{Entry}
use Rattle.lt_core.specs.declared.marks.Event.{Event}
use Rattle.lt_core.specs.declared.marks.Mark.TheVariants.{Cross}
use Rattle.lt_core.specs.Marks.{marks_of, entry_of, matrix_rows}
use Rattle.lt_core.specs.Candidates.{candidate}
use Rattle.lt_core.specs.Meaning.{value_of}
use Rattle.lt_core.proofs.Crossings.{across_form}
use Rattle.lt_core.proofs.Printed.{form_some, form_print, prints_extended}
use Rattle.lt_core.proofs.FewFacets.{few_new_rows}
use Rattle.lt_core.proofs.Sounds.{entry_within, facet_within, some_open_here, open_inside, value_extended, keeps_extended}
use Rattle.lt_core.proofs.atlas.Atlas.extend.Goals as goal

pub print_of-requires : goal.print_of-requires
print_of-requires c =
    let t = c.args.triangulation in
    form_some c.args.self.now.dimension t (across_form c.args.self.now.dimension _ t _ c.requires.candidate.is_across)

pub overflow_sub-self : goal.overflow_sub-self
overflow_sub-self c =
    some_open_here (value_of c.self.inside) c.self.inside.undecided c.self.inside.stuck (vec_capacity c.self.inside.log) c.args.position c.self.invariant.sound (open_inside c.self.inside c.args.self.now c.args.position c.self.view_is c.requires.here)

pub put-requires-clause-entry_within : goal.put-requires-clause-entry_within
put-requires-clause-entry_within c =
    let o = open_inside c.self.inside c.args.self.now c.args.position c.self.view_is c.requires.here in
    rw c.make_room.ensures.marks.0 (entry_within c.self.inside c.self.invariant.sound c.args.position c.index.result.now o.queued c.index.ensures)

pub put-requires-clause-facet_within : goal.put-requires-clause-facet_within
put-requires-clause-facet_within c =
    let o = open_inside c.self.inside c.args.self.now c.args.position c.self.view_is c.requires.here in
    rw c.make_room.ensures.marks.0 (facet_within c.self.inside c.self.invariant.sound c.args.position c.index.result.now o.queued c.index.ensures)

pub push_within-requires-4 : goal.push_within-requires-4
push_within-requires-4 c =
    let some = some_open_here (value_of c.self.inside) c.self.inside.undecided c.self.inside.stuck (vec_capacity c.self.inside.log) c.args.position c.self.invariant.sound (open_inside c.self.inside c.args.self.now c.args.position c.self.view_is c.requires.here) in
    omega (arith, c.in-Ok-make_room.ensures.ok, c.in-Some.ensures.1)

pub overflow_cast-facets : goal.overflow_cast-facets
overflow_cast-facets c =
    let a = c.args.self.now in
    let low : 2 ≤ a.dimension = subst (λ (z : model.Atlas). 2 ≤ z.dimension) c.self.view_is c.self.invariant.sound.low in
    let high : a.dimension ≤ 6 = subst (λ (z : model.Atlas). z.dimension ≤ 6) c.self.view_is c.self.invariant.sound.high in
    let few = few_new_rows a c.args.position (length a.entries) (candidate a c.args.position c.args.triangulation c.args.cone) low high c.requires.candidate in
    omega (arith, few, c.facets-facets.ensures.fits)

pub invariant_of-self-2 : goal.invariant_of-self-2
invariant_of-self-2 c =
    let t = c.args.triangulation in
    let form = across_form c.args.self.now.dimension _ t _ c.requires.candidate.is_across in
    let d = ap (λ (z : model.Atlas). z.dimension) c.self.view_is in
    record {
      sound =
          keeps_extended c.self.inside
          (record {
            dimension = c.self.inside.dimension;
            entries = c.push_within.new.all;
            marks = c.push_within-2.new.all;
            prints = c.push_within-3.new.all;
            queue = c.append_places.new.queue;
            log = c.push_within-4.new.all;
            undecided = c.self.inside.undecided - 1 + c.facets-facets.result;
            stuck = c.self.inside.stuck;
          })
          c.args.self.now c.args.position c.args.triangulation c.args.cone c.index.result.now c.in-Ok-opens_of.row c.identity-matrix.result c.identity-noted.result c.put.new.marks c.facets-facets.result c.len-number.result
          c.len-number.ensures c.self.view_is c.self.invariant.sound c.requires.here c.requires.candidate c.index.ensures refl c.identity-matrix.ensures c.identity-noted.ensures c.facets-facets.ensures.value
          (c.push_within.ensures.items ∙ (let e : Entry = record { triangulation = c.args.triangulation; cone = c.args.cone; origin = Some c.index.result.now } in ap (λ l. l ++ e ∷ []) c.make_room.ensures.entries.0))
          (c.put.ensures.value ∙ ap (λ l. model.set_mark (marks_of l) c.index.result.now (model.cross c.len-number.result (matrix_rows c.identity-matrix.result))) c.make_room.ensures.marks.0)
          c.push_within-2.ensures.items c.in-Ok-opens_of.ensures
          (c.append_places.ensures ∙ ap (λ l. l ++ model.places_from c.len-number.result 0 c.facets-facets.result) c.make_room.ensures.queue.0)
          (c.push_within-4.ensures.items ∙ (let e : Event = record { position = c.args.position; mark = Cross c.len-number.result c.identity-noted.result; fresh = true } in ap (λ l. l ++ e ∷ []) c.make_room.ensures.log.0))
          c.requires.few refl refl
          (let room = c.in-Ok-make_room.ensures.ok in let sum = c.in-Some.ensures.1 in let more = c.push_within-4.ensures.capacity in let len = c.make_room.ensures.log.1 in omega arith);
      prints =
          prints_extended c.self.inside.dimension c.self.inside.entries.items c.push_within.new.all.items (record { triangulation = t; cone = c.args.cone; origin = Some c.index.result.now }) c.self.inside.prints.items c.push_within-3.new.all.items c.in-Ok.print
          (c.push_within.ensures.items ∙ (let e : Entry = record { triangulation = t; cone = c.args.cone; origin = Some c.index.result.now } in ap (λ l. l ++ e ∷ []) c.make_room.ensures.entries.0))
          (c.push_within-3.ensures.items ∙ ap (λ l. l ++ c.in-Ok.print ∷ []) c.make_room.ensures.prints.0)
          c.self.invariant.prints
          (subst (λ (n : ℕ). IsFingerprint n t c.in-Ok.print) (sym d) (form_print c.args.self.now.dimension t c.in-Ok.print form c.in-Ok.ensures));
    }

pub returns-clause-ok : goal.returns-clause-ok
returns-clause-ok c =
    let entries = ap (λ (z : model.Atlas). length z.entries) c.self.view_is in
    let number = length-map c.self.inside.entries.items entry_of in (
      omega (arith, c.len-number.ensures, c.self.inside.entries.ok.0),
      value_extended c.self.inside
          (record {
            dimension = c.self.inside.dimension;
            entries = c.push_within.new.all;
            marks = c.push_within-2.new.all;
            prints = c.push_within-3.new.all;
            queue = c.append_places.new.queue;
            log = c.push_within-4.new.all;
            undecided = c.self.inside.undecided - 1 + c.facets-facets.result;
            stuck = c.self.inside.stuck;
          })
          c.args.self.now c.args.position c.args.triangulation c.args.cone c.index.result.now c.in-Ok-opens_of.row c.identity-matrix.result c.identity-noted.result c.put.new.marks c.facets-facets.result c.len-number.result
          c.len-number.ensures c.self.view_is c.self.invariant.sound c.requires.here c.requires.candidate c.index.ensures refl c.identity-matrix.ensures c.identity-noted.ensures c.facets-facets.ensures.value
          (c.push_within.ensures.items ∙ (let e : Entry = record { triangulation = c.args.triangulation; cone = c.args.cone; origin = Some c.index.result.now } in ap (λ l. l ++ e ∷ []) c.make_room.ensures.entries.0))
          (c.put.ensures.value ∙ ap (λ l. model.set_mark (marks_of l) c.index.result.now (model.cross c.len-number.result (matrix_rows c.identity-matrix.result))) c.make_room.ensures.marks.0)
          c.push_within-2.ensures.items c.in-Ok-opens_of.ensures
          (c.append_places.ensures ∙ ap (λ l. l ++ model.places_from c.len-number.result 0 c.facets-facets.result) c.make_room.ensures.queue.0)
          (c.push_within-4.ensures.items ∙ (let e : Event = record { position = c.args.position; mark = Cross c.len-number.result c.identity-noted.result; fresh = true } in ap (λ l. l ++ e ∷ []) c.make_room.ensures.log.0))
          c.requires.few refl refl
          (let room = c.in-Ok-make_room.ensures.ok in let sum = c.in-Some.ensures.1 in let more = c.push_within-4.ensures.capacity in let len = c.make_room.ensures.log.1 in omega arith),
    )
