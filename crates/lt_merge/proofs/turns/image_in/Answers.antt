use Rattle.std.proofs.Common.{◌≡◌, ap, ◌∙◌, List, ℤ, [], get_or}
use Rattle.lt_model.specs.Cones.{Row}
use Rattle.lt_model.specs.Atlases.{facets, facet_at}
use Rattle.lt_core.specs.Marks.{matrix_rows}
use Rattle.lt_merge.proofs.Placed.{entry_onto}
use Rattle.lt_merge.proofs.turns.image_in.Goals as goal

pub image_facet-requires : goal.image_facet-requires
image_facet-requires c =
    let t = c.args.second.now in
    let read : c.row.inside.normal ≡ facet_at t.entries (c.args.k, c.args.facet) = ap (λ (r : Row). r.normal) c.row.view_is ∙ c.facet-row.ensures.normal ∙ ap (λ (z : List (List ℤ)). get_or z c.args.facet []) (ap facets c.entry.ensures) in
    entry_onto c.args.atlas.now t c.requires.same c.keeps.ensures.low c.keeps.ensures.kept c.args.k c.requires.entry c.args.facet c.args.place (matrix_rows c.args.u.now) c.row.inside.normal c.requires.facet c.requires.placed read
