use Rattle.lt_triang.specs.Kept.{dimension_of}
use Rattle.lt_flip.specs.Cells.{AreCellPointsBelow}
use Rattle.lt_flip.proofs.cell_list.all_cell_points.Given as goal

abbrev pub invariant-loop-class : goal.invariant-loop-class
invariant-loop-class l = AreCellPointsBelow (dimension_of l.t) l.t l.facet l.class l.all.items
