use Rattle.std.proofs.Common.{◌∙◌, ap}
use Rattle.lt_model.specs.Cones.{Row}
use Rattle.lt_core.specs.Marks.{entry_of}
use Rattle.lt_triang.specs.Kept.{dimension_of}
use Rattle.lt_crew.proofs.Places.{stands_at, is_facet, form_here}
use Rattle.lt_crew.specs.Standing.{StandsAt}
use Rattle.lt_crew.proofs.Beyond.{facet_here, lies_across, narrow_here}
use Rattle.lt_rows.proofs.atlases.first_across.Goals as goal

pub flip-requires-clause-delaunay : goal.flip-requires-clause-delaunay
flip-requires-clause-delaunay g c =
    let a = c.args.atlas.now in
    let t = c.entry-entry.result.now.triangulation in
    let here : StandsAt a 0 (dimension_of t) t c.row.inside.normal = stands_at a c.keeps.ensures.low c.keeps.ensures.kept 0 c.requires c.place-k.result.0 c.place-k.result.1 (entry_of c.entry-entry.result.now) c.row.inside.normal c.place-k.ensures.entry c.place-k.ensures.facet c.entry-entry.ensures (ap (λ (r : Row). r.normal) c.row.view_is ∙ c.facet-row.ensures.normal) in
    form_here a c.keeps.ensures.low c.keeps.ensures.kept 0 c.requires t here.triangulation

pub flip-requires-clause-facet : goal.flip-requires-clause-facet
flip-requires-clause-facet g c =
    let a = c.args.atlas.now in
    let t = c.entry-entry.result.now.triangulation in
    let here : StandsAt a 0 (dimension_of t) t c.row.inside.normal = stands_at a c.keeps.ensures.low c.keeps.ensures.kept 0 c.requires c.place-k.result.0 c.place-k.result.1 (entry_of c.entry-entry.result.now) c.row.inside.normal c.place-k.ensures.entry c.place-k.ensures.facet c.entry-entry.ensures (ap (λ (r : Row). r.normal) c.row.view_is ∙ c.facet-row.ensures.normal) in
    facet_here a 0 (dimension_of t) t c.row.inside.normal here (is_facet a c.keeps.ensures.low c.keeps.ensures.kept 0 c.requires)

pub returns-clause-across : goal.returns-clause-across
returns-clause-across g c =
    let a = c.args.atlas.now in
    let t = c.entry-entry.result.now.triangulation in
    let here : StandsAt a 0 (dimension_of t) t c.row.inside.normal = stands_at a c.keeps.ensures.low c.keeps.ensures.kept 0 c.requires c.place-k.result.0 c.place-k.result.1 (entry_of c.entry-entry.result.now) c.row.inside.normal c.place-k.ensures.entry c.place-k.ensures.facet c.entry-entry.ensures (ap (λ (r : Row). r.normal) c.row.view_is ∙ c.facet-row.ensures.normal) in
    lies_across a 0 (dimension_of t) t c.in-Ok.across c.row.inside.normal here c.in-Ok.ensures.across

pub returns-clause-narrow : goal.returns-clause-narrow
returns-clause-narrow g c =
    let a = c.args.atlas.now in
    let t = c.entry-entry.result.now.triangulation in
    let here : StandsAt a 0 (dimension_of t) t c.row.inside.normal = stands_at a c.keeps.ensures.low c.keeps.ensures.kept 0 c.requires c.place-k.result.0 c.place-k.result.1 (entry_of c.entry-entry.result.now) c.row.inside.normal c.place-k.ensures.entry c.place-k.ensures.facet c.entry-entry.ensures (ap (λ (r : Row). r.normal) c.row.view_is ∙ c.facet-row.ensures.normal) in
    narrow_here a 0 (dimension_of t) t c.in-Ok.across c.row.inside.normal here c.in-Ok.ensures.dimension c.in-Ok.ensures.delaunay c.in-Ok.ensures.narrow
