use Rattle.std.proofs.Common.{arith, rules, ap, sym, ◌∙◌, ◌≡◌, ◌<◌, ◌^◌, length, get_or, [], List, ℤ, below_more}
use Rattle.std.proofs.lemmas.Bool.Decides.{Decides-int_eq}
use Rattle.std.proofs.lemmas.List.{get_or_default}
use Rattle.std.proofs.lemmas.Slice.Eq.{slice_eq-Decides}
use Rattle.lt_model.specs.Cones.{Row}
use Rattle.lt_model.specs.Forms.{numbers_of_form}
use Rattle.lt_model.specs.Atlases.{entry_at, facets, facets_of}
use Rattle.lt_core.specs.Marks.{matrix_rows}
use Rattle.lt_merge.proofs.Onto.{normal_long, square, image_items, image_there, is_image, few_facets}
use Rattle.lt_merge.proofs.images.image_facet.Goals as goal

pub image_of-image-requires-clause-square : goal.image_of-image-requires-clause-square
image_of-image-requires-clause-square c =
    square c.args.atlas.now c.args.place c.args.u.now c.args.facet.now c.requires c.dimension-rows.result c.from.result c.dimension-rows.ensures.low c.dimension-rows.ensures.high c.dimension-rows.ensures.value (c.from.ensures ∙ c.dimension.ensures)

pub image_of-image-requires-clause-same : goal.image_of-image-requires-clause-same
image_of-image-requires-clause-same c =
    normal_long c.args.atlas.now c.keeps.ensures.kept c.args.place (matrix_rows c.args.u.now) c.args.facet.now c.requires ∙ ap numbers_of_form (sym (c.from.ensures ∙ c.dimension.ensures))

pub overflow_cast-result : goal.overflow_cast-result
overflow_cast-result c =
    let few = few_facets c.args.atlas.now c.keeps.ensures.low c.keeps.ensures.high c.keeps.ensures.kept c.args.place c.requires.present in
    let e = ap length (ap facets c.entry.ensures) in
    let k : c.loop-k.k < 2 ^ 32 = omega (arith, few, e, c.loop-k-test.true, c.facets-k-end.ensures.value) in
    search (rules, k)

pub returns-then-eq : goal.returns-then-eq
returns-then-eq c =
    let told = slice_eq-Decides Decides-int_eq c.numbers.result.now c.as_slice.result.now c.eq.result c.eq.ensures in
    let same : get_or (facets_of c.entry.result.now.cone.rows) c.loop-k.k [] ≡ c.image_of-image.result.items =
    sym (c.numbers.ensures.value ∙ ap (λ (r : Row). r.normal) c.behind-cone.view_is ∙ c.facet.ensures.normal) ∙ told.0 c.if-eq.true ∙ c.as_slice.ensures.value
    in
    let e : facets_of c.entry.result.now.cone.rows ≡ facets (entry_at c.args.atlas.now.entries c.args.place) = ap facets c.entry.ensures in
    let l = ap length e in
    is_image c.args.atlas.now c.keeps.ensures.kept c.args.place (matrix_rows c.args.u.now) c.args.facet.now c.requires c.loop-k.k (omega (arith, l, c.loop-k-test.true, c.facets-k-end.ensures.value))
    (ap (λ (z : List (List ℤ)). get_or z c.loop-k.k []) (sym e) ∙ same ∙ image_items c.args.atlas.now c.keeps.ensures.kept c.args.place c.args.u.now c.args.facet.now c.requires c.from.result c.image_of-image.result.items (c.from.ensures ∙ c.dimension.ensures) c.image_of-image.ensures)

pub loop-k-preserved : goal.loop-k-preserved
loop-k-preserved c =
    let told = slice_eq-Decides Decides-int_eq c.numbers.result.now c.as_slice.result.now c.eq.result c.eq.ensures in
    let read : c.numbers.result.now ≡ get_or (facets_of c.entry.result.now.cone.rows) c.loop-k.k [] = c.numbers.ensures.value ∙ ap (λ (r : Row). r.normal) c.behind-cone.view_is ∙ c.facet.ensures.normal in
    below_more _ _ c.loop-k.invariant (λ (same : get_or (facets_of c.entry.result.now.cone.rows) c.loop-k.k [] ≡ c.image_of-image.result.items). let t = told.1 (read ∙ same ∙ sym c.as_slice.ensures.value) in let f = c.if-eq.false in cc)

pub unreachable-requires : goal.unreachable-requires
unreachable-requires c =
    let there = image_there c.args.atlas.now c.keeps.ensures.kept c.args.place (matrix_rows c.args.u.now) c.args.facet.now c.requires in
    let e : facets_of c.entry.result.now.cone.rows ≡ facets (entry_at c.args.atlas.now.entries c.args.place) = ap facets c.entry.ensures in
    let l = ap length e in
    c.loop-k.invariant there.0 (omega (arith, l, there.1, c.loop-k-test.false, c.facets-k-end.ensures.value))
    (ap (λ (z : List (List ℤ)). get_or z there.0 []) e ∙ get_or_default (facets (entry_at c.args.atlas.now.entries c.args.place)) there.0 [] _ there.1 ∙ there.2 ∙ sym (image_items c.args.atlas.now c.keeps.ensures.kept c.args.place c.args.u.now c.args.facet.now c.requires c.from.result c.image_of-image.result.items (c.from.ensures ∙ c.dimension.ensures) c.image_of-image.ensures))
