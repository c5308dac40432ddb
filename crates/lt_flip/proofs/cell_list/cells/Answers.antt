use Rattle.std.proofs.Common.{◌≡◌, ◌-◌, ◌+◌, take, ◌∙◌, sym, subst, arith, length, List, ℤ}
use Rattle.std.specs.List.{All}
use Rattle.std.proofs.lemmas.List.{take_all}
use Rattle.std.proofs.lemmas.List.Elements.{All-push}
use Rattle.lt_triang.specs.Flat.{IsFlat}
use Rattle.lt_triang.specs.Kept.{dimension_of}
use Rattle.lt_triang.proofs.Expressed.{dimension_is}
use Rattle.lt_flip.specs.Cells.{Cell, points_of}
use Rattle.lt_flip.proofs.CellsBelow.{points_more, cells_there}
use Rattle.lt_flip.proofs.cell_list.cells.Goals as goal

pub all_cell_points-requires-clause-low : goal.all_cell_points-requires-clause-low
all_cell_points-requires-clause-low c =
    let d : c.dimension-dimension.result ≡ dimension_of c.args.t.now = dimension_is c.dimension-dimension.result c.args.t.now c.dimension-dimension.ensures in
    omega (arith, d, c.dimension-dimension.ensures.low)

pub loop-i-preserved : goal.loop-i-preserved
loop-i-preserved c = record {
  points = subst (λ (l : List Cell). points_of l ≡ take (c.loop-i.i + 1) c.sorted_distinct-all.result.items) (sym c.in_ok-push.ensures.items) (points_more c.loop-i.cells.items c.cell_of.result c.sorted_distinct-all.result.items c.loop-i.i c.index.result.now (omega (arith, c.loop-i-test.true, c.len-i-end.ensures)) c.loop-i.invariant.points c.cell_of.ensures.points c.index.ensures);
  dependencies = subst (λ (l : List Cell). All (λ k. IsFlat (length k.points - 2) k.points k.terms) l) (sym c.in_ok-push.ensures.items)
      (All-push (λ k. IsFlat (length k.points - 2) k.points k.terms) c.loop-i.cells.items c.cell_of.result c.loop-i.invariant.dependencies
      (subst (λ (l : List (List ℤ)). IsFlat (length l - 2) l c.cell_of.result.terms) (sym c.cell_of.ensures.points) c.cell_of.ensures.dependency));
}

pub returns : goal.returns
returns c =
    let t = c.args.t.now in
    let all = c.sorted_distinct-all.result.items in
    let is : points_of c.loop-i.cells.items ≡ all = c.loop-i.invariant.points ∙ take_all c.loop-i.i all (omega (arith, c.loop-i-test.false, c.len-i-end.ensures)) in
    cells_there (dimension_of t) t c.args.facet.now c.loop-i.cells.items all c.in_ok-all_cell_points.field-0.items is c.sorted_distinct-all.ensures.ascending c.sorted_distinct-all.ensures.members c.in_ok-all_cell_points.ensures c.loop-i.invariant.dependencies
