use Rattle.std.proofs.Common.{ap, sym, ◌∙◌, ℕ}
use Rattle.lt_model.specs.Atlases as model
use Rattle.lt_core.proofs.Sounds.{read_place, queued_inside}
use Rattle.lt_core.proofs.atlas.Atlas.place.Goals as goal

pub returns : goal.returns
returns c =
    let e = read_place c.self.inside c.self.invariant.sound c.args.position c.index.result.now (queued_inside c.self.inside c.args.self.now c.args.position c.self.view_is c.requires) c.index.ensures in
    let f = sym e ∙ ap (λ (z : model.Atlas). model.place_at z.queue c.args.position) c.self.view_is in
    record { entry = ap (λ (q : ℕ × ℕ). q.0) f; facet = ap (λ (q : ℕ × ℕ). q.1) f }
