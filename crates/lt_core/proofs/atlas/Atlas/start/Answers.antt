use Rattle.std.proofs.Common.{◌≡◌, ◌∙◌, ap, ap₂, List, [], ◌∷◌, ◌++◌, length, map}
use Rattle.std.specs.declared.option.Option.TheVariants.{None}
use Rattle.std.proofs.lemmas.Result.{IfOk-weaker}
use Rattle.lt_model.specs.Principal.{principal_numbers}
use Rattle.lt_model.specs.Atlases.{Mark, facets, opens}
use Rattle.lt_model.specs.RightAtlases.{fresh_atlas}
use Rattle.lt_principal.proofs.Narrow.{principal_narrow}
use Rattle.lt_core.specs.declared.marks.Entry.{Entry}
use Rattle.lt_core.specs.Marks.{entry_of, marks_of}
use Rattle.lt_core.specs.Starts.{first_entry}
use Rattle.lt_core.proofs.Reaching.{classes_of_form}
use Rattle.lt_core.proofs.FirstEntry.{first_right, none_stuck}
use Rattle.lt_core.proofs.atlas.Atlas.start.Goals.{In_ok-push-2}
use Rattle.lt_core.proofs.atlas.Atlas.start.Goals as goal

entries_are : (c : In_ok-push-2) → map entry_of c.push.new.self.items ≡ first_entry c.in_ok-triangulation.triangulation c.in_ok-cone.cone ∷ []
entries_are c =
    let e : Entry = record { triangulation = c.in_ok-triangulation.triangulation; cone = c.in_ok-cone.cone; origin = None } in
    ap (map entry_of) (c.in_ok-push.ensures.items ∙ ap (λ l. l ++ e ∷ []) c.new-entries.ensures.items)

marks_are : (c : In_ok-push-2) → marks_of c.push-2.new.self.items ≡ opens (length (facets (first_entry c.in_ok-triangulation.triangulation c.in_ok-cone.cone))) ∷ []
marks_are c =
    ap marks_of (c.in_ok-push-2.ensures.items ∙ ap (λ l. l ++ c.in_ok-row.row ∷ []) c.new-marks.ensures.items)
    ∙ ap (λ (r : List Mark). r ∷ []) (c.in_ok-row.ensures ∙ ap opens c.facets.ensures.value)

pub of-requires-clause-right : goal.of-requires-clause-right
of-requires-clause-right c =
    let d = c.args.d in
    let t = c.in_ok-triangulation.triangulation in
    rw (entries_are c, marks_are c) (first_right d t c.in_ok-cone.cone c.in_ok-triangulation.ensures.principal (classes_of_form d t (principal_numbers d, c.in_ok-triangulation.ensures.delaunay)) (principal_narrow d t t c.in_ok-triangulation.ensures.principal (λ s m. m)) c.in_ok-cone.ensures)

pub of-requires-clause-settled : goal.of-requires-clause-settled
of-requires-clause-settled c = rw (marks_are c) (none_stuck (length (facets (first_entry c.in_ok-triangulation.triangulation c.in_ok-cone.cone))))

pub returns : goal.returns
returns c =
    let p = (goal.at.returns c).In_ok-push-2 in
    IfOk-weaker c.of.result _ _ (λ a is. record {
      triangulation = c.in_ok-triangulation.triangulation;
      cone = c.in_ok-cone.cone;
      principal = c.in_ok-triangulation.ensures.principal;
      right = c.in_ok-cone.ensures;
      atlas = is ∙ ap₂ (fresh_atlas c.args.d) (entries_are p) (marks_are p);
    }) c.of.ensures
