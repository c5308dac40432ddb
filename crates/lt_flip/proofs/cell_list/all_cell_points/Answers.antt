use Rattle.std.proofs.Common.{◌≡◌, subst, arith, length}
use Rattle.lt_triang.specs.Kept.{dimension_of}
use Rattle.lt_flip.specs.Cells.{AreCellPointsBelow}
use Rattle.lt_flip.proofs.CellsBelow.{all_cells}
use Rattle.lt_flip.proofs.cell_list.all_cell_points.Goals as goal

pub returns : goal.returns
returns c =
    let t = c.args.t.now in
    let end : c.loop-class.class ≡ length t = omega (arith, c.loop-class.auto.class-end, c.loop-class-test.false, c.len-class-end.ensures) in
    all_cells (dimension_of t) t c.args.facet.now c.loop-class.all.items (subst (λ m. AreCellPointsBelow (dimension_of t) t c.args.facet.now m c.loop-class.all.items) end c.loop-class.invariant)
