use Rattle.std.proofs.Common.{◌∙◌, ap}
use Rattle.lt_model.specs.Atlases as model
use Rattle.lt_core.proofs.Sounds.{in_marks, in_row, read_mark, queued_inside}
use Rattle.lt_core.proofs.atlas.Atlas.standing.Goals as goal

pub index-requires-2 : goal.index-requires-2
index-requires-2 c =
    in_marks c.self.inside c.self.invariant.sound c.args.position c.index.result.now (queued_inside c.self.inside c.args.self.now c.args.position c.self.view_is c.requires) c.index.ensures

pub index-requires-3 : goal.index-requires-3
index-requires-3 c =
    in_row c.self.inside c.self.invariant.sound c.args.position c.index.result.now (queued_inside c.self.inside c.args.self.now c.args.position c.self.view_is c.requires) c.index.ensures
    c.index-2.result.now c.index-2.ensures

pub returns : goal.returns
returns c =
    read_mark c.self.inside c.self.invariant.sound c.args.position c.index.result.now (queued_inside c.self.inside c.args.self.now c.args.position c.self.view_is c.requires) c.index.ensures
    c.index-2.result.now c.index-2.ensures c.index-3.result.now c.index-3.ensures
    ∙ ap (λ (z : model.Atlas). model.mark_at z.marks (model.place_at z.queue c.args.position)) c.self.view_is
