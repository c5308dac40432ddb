use Rattle.std.proofs.Common.{◌-◌, length}
use Rattle.lt_cover.proofs.Measures.{product_is}
use Rattle.lt_cover.proofs.Sums.{cast_three}
use Rattle.lt_cover.proofs.columns.product.Goals as goal

pub returns : goal.returns
returns c =
    let s = c.args.class.now in
    let x = c.between.ensures in
    let y = c.between-2.ensures in
    let z = c.between-3.ensures in
    let e = cast_three c.between.result c.between-2.result c.between-3.result x.low x.high y.low y.high z.low z.high in
    product_is (length s - 1) c.args.q.now s c.requires.measured c.args.i c.args.j c.between.result c.between-2.result c.between-3.result _ c.requires.i c.requires.j x.value y.value z.value e
