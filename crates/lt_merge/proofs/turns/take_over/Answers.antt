use Rattle.std.proofs.Common.{sym, ◌∙◌}
use Rattle.lt_model.specs.Atlases.{begin, entry_at}
use Rattle.lt_core.specs.Marks.{matrix_rows}
use Rattle.lt_merge.proofs.Advance.{stands_already, settled_at, placed_still}
use Rattle.lt_merge.proofs.Placed.{crossed_within}
use Rattle.lt_merge.proofs.turns.take_over.Goals as goal

pub image_in-image-requires-clause-facet : goal.image_in-image-requires-clause-facet
image_in-image-requires-clause-facet c = (crossed_within c.args.second.now c.keeps.ensures.kept (c.args.k, c.args.facet) c.requires.crossed).1

pub returns-in_ok-settle-clause-merged : goal.returns-in_ok-settle-clause-merged
returns-in_ok-settle-clause-merged c =
    let a = c.args.atlas.now in
    settled_at (begin a) c.args.second.now a c.args.k c.args.facet c.requires.merged c.keeps-2.ensures.low c.requires.same c.keeps.ensures.kept c.requires.crossed (c.args.place, c.image_in-image.result)
    (record { matrix = matrix_rows c.args.u.now; placed = c.requires.placed; image = c.image_in-image.ensures }) (sym c.mark.ensures ∙ c.is_open.ensures.0 c.if-is_open.true)
    c.position_of-position.result c.position_of-position.ensures.queued c.position_of-position.ensures.place c.settle.new.atlas c.in_ok-settle.ensures.ok c.keeps-then-is_open.ensures.kept

pub returns-in_ok-settle-clause-placed : goal.returns-in_ok-settle-clause-placed
returns-in_ok-settle-clause-placed c =
    let a = c.args.atlas.now in
    placed_still (begin a) c.args.second.now a c.args.k c.args.facet c.requires.merged c.keeps-2.ensures.low c.requires.same c.keeps.ensures.kept c.requires.crossed (c.args.place, c.image_in-image.result)
    (record { matrix = matrix_rows c.args.u.now; placed = c.requires.placed; image = c.image_in-image.ensures }) (sym c.mark.ensures ∙ c.is_open.ensures.0 c.if-is_open.true)
    c.position_of-position.result c.position_of-position.ensures.queued c.position_of-position.ensures.place c.settle.new.atlas c.in_ok-settle.ensures.ok
    (entry_at c.args.second.now.entries c.args.k).triangulation c.args.place (matrix_rows c.args.u.now) c.requires.placed

pub returns-else-is_open-clause-merged : goal.returns-else-is_open-clause-merged
returns-else-is_open-clause-merged c =
    let a = c.args.atlas.now in
    stands_already (begin a) c.args.second.now a c.args.k c.args.facet c.requires.merged (c.args.place, c.image_in-image.result) (record { matrix = matrix_rows c.args.u.now; placed = c.requires.placed; image = c.image_in-image.ensures })
    (λ o. let t = c.is_open.ensures.1 (c.mark.ensures ∙ o) in let f = c.if-is_open.false in cc)
