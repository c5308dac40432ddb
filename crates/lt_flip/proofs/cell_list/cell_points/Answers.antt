use Rattle.std.proofs.Common.{◌≡◌, ◌∷◌, sym, subst, arith, negsuc, [], get_or, ◌*◌}
use Rattle.lt_model.specs.Limits.{span_limit}
use Rattle.lt_model.specs.Vectors.{scale}
use Rattle.lt_model.specs.Simplices.{translate}
use Rattle.lt_triang.specs.Bounds.{AreNear}
use Rattle.lt_flip.specs.Ascending.{AreAscending}
use Rattle.lt_flip.specs.Cells.{IsMovedFrom}
use Rattle.lt_flip.proofs.SortedPoints.{sorted_cell}
use Rattle.lt_flip.proofs.cell_list.cell_points.Goals as goal

pub moved_back-requires-clause-some : goal.moved_back-requires-clause-some
moved_back-requires-clause-some c =
    let h = sorted_cell c.args.d c.args.s.now c.args.w.now c.sorted_with-sorted.result.items c.requires.class c.requires.dimension c.requires.near c.requires.outside c.sorted_with-sorted.ensures.permutation c.sorted_with-sorted.ensures.sorted in
    rw c.as_slice.ensures.value (omega (arith, h.count))

pub moved_back-requires-clause-dimension : goal.moved_back-requires-clause-dimension
moved_back-requires-clause-dimension c =
    let h = sorted_cell c.args.d c.args.s.now c.args.w.now c.sorted_with-sorted.result.items c.requires.class c.requires.dimension c.requires.near c.requires.outside c.sorted_with-sorted.ensures.permutation c.sorted_with-sorted.ensures.sorted in
    rw c.as_slice.ensures.value h.first_dimension

pub moved_back-requires-clause-near : goal.moved_back-requires-clause-near
moved_back-requires-clause-near c =
    let h = sorted_cell c.args.d c.args.s.now c.args.w.now c.sorted_with-sorted.result.items c.requires.class c.requires.dimension c.requires.near c.requires.outside c.sorted_with-sorted.ensures.permutation c.sorted_with-sorted.ensures.sorted in
    rw c.as_slice.ensures.value h.near

pub invariant_of-result : goal.invariant_of-result
invariant_of-result c =
    let h = sorted_cell c.args.d c.args.s.now c.args.w.now c.sorted_with-sorted.result.items c.requires.class c.requires.dimension c.requires.near c.requires.outside c.sorted_with-sorted.ensures.permutation c.sorted_with-sorted.ensures.sorted in
    let is : c.moved_back.result.items ≡ translate (scale (negsuc 0) (get_or c.sorted_with-sorted.result.items 0 [])) c.sorted_with-sorted.result.items = rw c.as_slice.ensures.value at c.moved_back.ensures in
    (c.args.d, c.requires.low, c.requires.high, subst (AreAscending c.args.d) (sym is) h.moved.shape, subst (AreNear (2 * span_limit c.args.d)) (sym is) h.moved_near)

pub returns : goal.returns
returns c =
    let h = sorted_cell c.args.d c.args.s.now c.args.w.now c.sorted_with-sorted.result.items c.requires.class c.requires.dimension c.requires.near c.requires.outside c.sorted_with-sorted.ensures.permutation c.sorted_with-sorted.ensures.sorted in
    let is : c.moved_back.result.items ≡ translate (scale (negsuc 0) (get_or c.sorted_with-sorted.result.items 0 [])) c.sorted_with-sorted.result.items = rw c.as_slice.ensures.value at c.moved_back.ensures in
    subst (IsMovedFrom c.args.d (c.args.w.now ∷ c.args.s.now)) (sym is) h.moved
