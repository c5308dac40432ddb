use Rattle.std.proofs.Common.{◌<◌, ◌≤◌, ◌+ℤ◌, arith, rules, FitsSigned, to_z}
use Rattle.std.specs.Int.{w128}
use Rattle.std.proofs.lemmas.Int.{to_z-of_z}
use Rattle.lt_tableau.specs.Table.{right_of, count_of, basic_of, units_of}
use Rattle.lt_lp.proofs.Loops.{sum_more, sum_skip, sum_fits_row}
use Rattle.lt_lp.proofs.sums.objective.Goals as goal
use Rattle.lt_lp.proofs.sums.objective.Goals.{then-basic-first, else-basic-first}

pub loop-row-preserved : goal.loop-row-preserved
loop-row-preserved c =
    let t = c.args.t.now in
    let s = to_z w128 c.loop-row.sum-bits in
    let row = c.loop-row.row in
    let small = c.rows-row-end.ensures.tableau.small row (count_of t) in
    elim c.if-basic-first.branch [
      | then-basic-first w ↦
          let x : FitsSigned w128 (right_of t row) = search rules in
          let y : FitsSigned w128 (s +ℤ right_of t row) = sum_fits_row s (right_of t row) row c.loop-row.invariant.small (omega arith) small in
          let l : units_of t ≤ basic_of t row = omega arith in
          simp (w.sum-is, w.right-sum.ensures, to_z-of_z) (sum_more t (right_of t) row s small l c.loop-row.invariant)
      | else-basic-first w ↦
          let l : basic_of t row < units_of t = omega arith in
          simp w.sum-is (sum_skip t (right_of t) row s l c.loop-row.invariant)
    ]
