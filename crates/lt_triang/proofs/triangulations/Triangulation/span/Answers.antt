use Rattle.std.proofs.Common.{◌≡◌, ◌∙◌}
use Rattle.lt_triang.proofs.Made.{classes_of}
use Rattle.lt_triang.proofs.triangulations.Triangulation.span.Goals as goal

pub widest_of-requires : goal.widest_of-requires
widest_of-requires c =
    let e : c.as_slice.result.now ≡ c.args.self.now = c.as_slice.ensures.value ∙ c.self.view_is in
    rw e (classes_of c.dimension-d.result c.args.self.now c.dimension-d.ensures)
