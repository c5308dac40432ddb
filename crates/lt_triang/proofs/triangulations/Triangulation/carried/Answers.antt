use Rattle.std.proofs.Common.{◌≡◌, ◌∙◌}
use Rattle.lt_triang.specs.Kept.{dimension_of}
use Rattle.lt_triang.proofs.Expressed.{dimension_is}
use Rattle.lt_triang.proofs.triangulations.Triangulation.carried.Goals as goal

pub rows_from-requires-clause-triangulation : goal.rows_from-requires-clause-triangulation
rows_from-requires-clause-triangulation c =
    let d : c.from-d.result ≡ dimension_of c.args.self.now = c.from-d.ensures ∙ dimension_is c.dimension.result c.args.self.now c.dimension.ensures in
    rw (d, c.as_slice.ensures.value) c.requires.triangulation

pub rows_from-requires-clause-one : goal.rows_from-requires-clause-one
rows_from-requires-clause-one c =
    let d : c.from-d.result ≡ dimension_of c.args.self.now = c.from-d.ensures ∙ dimension_is c.dimension.result c.args.self.now c.dimension.ensures in
    rw (d, c.as_slice.ensures.value) c.requires.one
