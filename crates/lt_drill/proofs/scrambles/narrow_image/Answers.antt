use Rattle.std.proofs.Common.{refl, ap, Err}
use Rattle.lt_triang.specs.Kept.{dimension_of}
use Rattle.lt_model.specs.Flat.{rows}
use Rattle.lt_drill.proofs.Pictures.{narrow, wide}
use Rattle.lt_drill.proofs.scrambles.narrow_image.Goals as goal

pub returns-in-Ok-clause-some : goal.returns-in-Ok-clause-some
returns-in-Ok-clause-some c =
    let n = dimension_of c.args.t.now in
    narrow c.dimension-origin.result c.dimension-dimension.result n (rows n c.args.u.now) c.args.t.now c.in-Ok.made c.dimension-origin.ensures refl c.dimension-dimension.ensures c.in-Ok.ensures.made

pub returns-in-Err-Wide-clause-none : goal.returns-in-Err-Wide-clause-none
returns-in-Err-Wide-clause-none c =
    let n = dimension_of c.args.t.now in
    wide n (rows n c.args.u.now) c.args.t.now c.in-Err-Wide.field-0-0 (c.in-Err-Wide.ensures.wide c.in-Err-Wide.field-0-0 (ap Err c.in-Err-Wide.field-0-is))
