use Rattle.std.proofs.Common.{◌≡◌, ◌∙◌, ap, sym, List, [], ◌∷◌, ◌++◌, length, map}
use Rattle.std.specs.declared.option.Option.TheVariants.{None}
use Rattle.lt_model.specs.Principal.{principal_numbers}
use Rattle.lt_model.specs.Atlases.{facets, opens}
use Rattle.lt_model.specs.Atlases as model
use Rattle.lt_triang.proofs.SomeForm.{some_form}
use Rattle.lt_core.specs.declared.marks.Entry.{Entry}
use Rattle.lt_core.specs.declared.marks.Mark.TheVariants.{Open}
use Rattle.lt_core.specs.Marks.{entry_of, mark_of, marks_of}
use Rattle.lt_core.specs.Starts.{first_entry}
use Rattle.lt_rows.proofs.Parts.{parts_right}
use Rattle.lt_rows.proofs.atlases.made_of_parts.Goals as goal

pub cone-requires : goal.cone-requires
cone-requires g c = some_form 2 (principal_numbers 2) c.in-Ok.triangulation c.in-Ok.ensures.delaunay

pub of-requires-clause-right : goal.of-requires-clause-right
of-requires-clause-right g c =
    let t = c.in-Ok.triangulation in
    let k = c.in-Ok-cone.cone in
    let e : Entry = record { triangulation = t; cone = k; origin = None } in
    let entries : map entry_of c.push-4.new.self.items ≡ first_entry t k ∷ [] =
    ap (map entry_of) (c.in_ok-push-4.ensures.items ∙ ap (λ l. l ++ e ∷ []) c.new-entries.ensures.items)
    in
    let one : c.push.new.self.items ≡ Open ∷ [] = c.in_ok-push.ensures.items ∙ ap (λ l. l ++ Open ∷ []) c.new-row.ensures.items in
    let two : c.push-2.new.self.items ≡ Open ∷ Open ∷ [] = c.in_ok-push-2.ensures.items ∙ ap (λ l. l ++ Open ∷ []) one in
    let row : c.push-3.new.self.items ≡ Open ∷ Open ∷ Open ∷ [] = c.in_ok-push-3.ensures.items ∙ ap (λ l. l ++ Open ∷ []) two in
    let three : 3 ≡ length (facets (first_entry t k)) = sym c.if-facets-ne3.false ∙ c.facets.ensures.value in
    let marks : marks_of c.push-5.new.self.items ≡ opens (length (facets (first_entry t k))) ∷ [] =
    ap marks_of (c.in_ok-push-5.ensures.items ∙ ap (λ l. l ++ c.push-3.new.self ∷ []) c.new-marks.ensures.items)
    ∙ ap (λ (r : List model.Mark). r ∷ []) (ap (map mark_of) row ∙ ap opens three)
    in
    parts_right t k (map entry_of c.push-4.new.self.items) (marks_of c.push-5.new.self.items) entries marks c.in-Ok.ensures.principal c.in-Ok.ensures.delaunay c.in-Ok-cone.ensures.right
