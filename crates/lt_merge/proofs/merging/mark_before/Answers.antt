use Rattle.std.proofs.Common.{arith, ap, sym, subst, ◌∙◌, IfSome, IfNone}
use Rattle.lt_model.specs.Atlases as model
use Rattle.lt_model.specs.Logs.{IsUnlikeAll, IsNoCross}
use Rattle.lt_core.specs.Marks.{matrix_rows}
use Rattle.lt_crew.specs.Settled.{IsNarrow, IsFirstKnown}
use Rattle.lt_merge.specs.Images.{IsImageOf}
use Rattle.lt_merge.proofs.Placed.{entry_narrow}
use Rattle.lt_merge.proofs.Stuck.{origin_none, named_at, present_at, within_at, placed_at, stuck_at}
use Rattle.lt_merge.proofs.merging.mark_before.Goals as goal

pub unreachable-requires : goal.unreachable-requires
unreachable-requires c =
    let a = c.args.atlas.now in
    let t = c.args.second.now in
    origin_none c.requires.merged.0 t a (omega (arith, c.requires.same, c.keeps.ensures.low)) c.requires.same c.keeps.ensures.low c.keeps.ensures.kept c.args.k c.requires.entry c.requires.merged.1 c.requires.unlike
    c.entry.result.now.origin (ap (λ (z : model.Entry). z.origin) c.entry.ensures) c.in-None.is

pub entry-requires-2 : goal.entry-requires-2
entry-requires-2 c =
    let a = c.args.atlas.now in
    let t = c.args.second.now in
    present_at c.requires.merged.0 t a (omega (arith, c.requires.same, c.keeps.ensures.low)) c.requires.same c.keeps.ensures.low c.keeps.ensures.kept c.args.k c.requires.entry c.requires.merged.1 c.requires.unlike
    c.entry.result.now.origin c.in-Some.origin (ap (λ (z : model.Entry). z.origin) c.entry.ensures) c.in-Some.is

pub first_known-requires : goal.first_known-requires
first_known-requires c =
    let a = c.args.atlas.now in
    let t = c.args.second.now in
    let present =
    present_at c.requires.merged.0 t a (omega (arith, c.requires.same, c.keeps.ensures.low)) c.requires.same c.keeps.ensures.low c.keeps.ensures.kept c.args.k c.requires.entry c.requires.merged.1 c.requires.unlike
    c.entry.result.now.origin c.in-Some.origin (ap (λ (z : model.Entry). z.origin) c.entry.ensures) c.in-Some.is
    in
    subst (λ (z : model.Entry). IsNarrow a.dimension z.triangulation) (sym c.entry-2.ensures) (entry_narrow a t c.requires.same c.keeps.ensures.low c.keeps.ensures.kept c.in-Some.origin.0 present)

pub image_in-image-requires-clause-entry : goal.image_in-image-requires-clause-entry
image_in-image-requires-clause-entry c =
    let a = c.args.atlas.now in
    let t = c.args.second.now in
    present_at c.requires.merged.0 t a (omega (arith, c.requires.same, c.keeps.ensures.low)) c.requires.same c.keeps.ensures.low c.keeps.ensures.kept c.args.k c.requires.entry c.requires.merged.1 c.requires.unlike
    c.entry.result.now.origin c.in-Some.origin (ap (λ (z : model.Entry). z.origin) c.entry.ensures) c.in-Some.is

pub image_in-image-requires-clause-facet : goal.image_in-image-requires-clause-facet
image_in-image-requires-clause-facet c =
    let a = c.args.atlas.now in
    let t = c.args.second.now in
    within_at c.requires.merged.0 t a (omega (arith, c.requires.same, c.keeps.ensures.low)) c.requires.same c.keeps.ensures.low c.keeps.ensures.kept c.args.k c.requires.entry c.requires.merged.1 c.requires.unlike
    c.entry.result.now.origin c.in-Some.origin (ap (λ (z : model.Entry). z.origin) c.entry.ensures) c.in-Some.is

pub unreachable-requires-in-None-2 : goal.unreachable-requires-in-None-2
unreachable-requires-in-None-2 c =
    let a = c.args.atlas.now in
    let t = c.args.second.now in
    let none = subst (λ r. IfNone r (IsUnlikeAll a.dimension c.entry-2.result.now.triangulation a.entries)) c.in-None-2.is c.in_ok-place.ensures.none in
    placed_at c.requires.merged.0 t a (omega (arith, c.requires.same, c.keeps.ensures.low)) c.requires.same c.keeps.ensures.low c.keeps.ensures.kept c.args.k c.requires.entry c.requires.merged.1 c.requires.unlike
    c.entry.result.now.origin c.in-Some.origin (ap (λ (z : model.Entry). z.origin) c.entry.ensures) c.in-Some.is
    (subst (λ (z : model.Entry). IsUnlikeAll a.dimension z.triangulation a.entries) c.entry-2.ensures none)

pub returns-clause-mark : goal.returns-clause-mark
returns-clause-mark c =
    let a = c.args.atlas.now in
    let t = c.args.second.now in
    let placed : IsFirstKnown a c.entry-2.result.now.triangulation c.in-Some-2.place (matrix_rows c.in-Some-2.u) =
    subst (λ r. IfSome r (λ x. IsFirstKnown a c.entry-2.result.now.triangulation x.0 (matrix_rows x.1))) c.in-Some-2.is c.in_ok-place.ensures.found
    in
    record {
      origin = c.in-Some.origin;
      named = named_at c.requires.merged.0 t a (omega (arith, c.requires.same, c.keeps.ensures.low)) c.requires.same c.keeps.ensures.low c.keeps.ensures.kept c.args.k c.requires.entry c.requires.merged.1 c.requires.unlike
          c.entry.result.now.origin c.in-Some.origin (ap (λ (z : model.Entry). z.origin) c.entry.ensures) c.in-Some.is;
      place = (c.in-Some-2.place, c.image_in-image.result);
      image = record {
        matrix = matrix_rows c.in-Some-2.u;
        placed = subst (λ (z : model.Entry). IsFirstKnown a z.triangulation c.in-Some-2.place (matrix_rows c.in-Some-2.u)) c.entry-2.ensures placed;
        image = c.image_in-image.ensures;
      };
      mark = c.copy.ensures ∙ c.mark.ensures;
    }

pub returns-clause-no_cross : goal.returns-clause-no_cross
returns-clause-no_cross c =
    let a = c.args.atlas.now in
    let t = c.args.second.now in
    let placed : IsFirstKnown a c.entry-2.result.now.triangulation c.in-Some-2.place (matrix_rows c.in-Some-2.u) =
    subst (λ r. IfSome r (λ x. IsFirstKnown a c.entry-2.result.now.triangulation x.0 (matrix_rows x.1))) c.in-Some-2.is c.in_ok-place.ensures.found
    in
    let image : IsImageOf t c.in-Some.origin a (c.in-Some-2.place, c.image_in-image.result) = record {
      matrix = matrix_rows c.in-Some-2.u;
      placed = subst (λ (z : model.Entry). IsFirstKnown a z.triangulation c.in-Some-2.place (matrix_rows c.in-Some-2.u)) c.entry-2.ensures placed;
      image = c.image_in-image.ensures;
    } in
    let stuck =
    stuck_at c.requires.merged.0 t a (omega (arith, c.requires.same, c.keeps.ensures.low)) c.requires.same c.keeps.ensures.low c.keeps.ensures.kept c.args.k c.requires.entry c.requires.merged.1 c.requires.unlike
    c.entry.result.now.origin c.in-Some.origin (ap (λ (z : model.Entry). z.origin) c.entry.ensures) c.in-Some.is (c.in-Some-2.place, c.image_in-image.result) image
    in
    subst (λ (m : model.Mark). IsNoCross m) (sym (c.copy.ensures ∙ c.mark.ensures)) stuck
