use Rattle.std.proofs.Common.{rules, arith, FitsSigned, to_z, ◌+ℤ◌, sym, ◌∙◌}
use Rattle.std.specs.Int.{w128}
use Rattle.std.proofs.lemmas.Int.{to_z-of_z}
use Rattle.lt_tableau.specs.Table.{right_of, count_of}
use Rattle.lt_lp.proofs.TermLoops.{value_more, value_skip}
use Rattle.lt_lp.proofs.combinations.value.Goals as goal
use Rattle.lt_lp.proofs.combinations.value.Goals.{then-basic-column, else-basic-column}

pub loop-row-preserved : goal.loop-row-preserved
loop-row-preserved c =
    let t = c.args.t.now in
    let s = to_z w128 c.loop-row.sum-bits in
    let row = c.loop-row.row in
    let small = c.rows-row-end.ensures.tableau.small row (count_of t) in
    let f = c.rows-row-end.ensures.tableau.few_rows in
    elim c.if-basic-column.branch [
      | then-basic-column w ↦
          let v = value_more t c.args.column row s (sym c.basic.ensures ∙ w.if-basic-column.true) (omega arith) small c.loop-row.invariant.value c.loop-row.invariant.small in
          let x : FitsSigned w128 (right_of t row) = search rules in
          let y : FitsSigned w128 (s +ℤ right_of t row) = v.fits in
          simp (w.sum-is, w.right-sum.ensures, to_z-of_z) record { value = v.value; small = v.small }
      | else-basic-column w ↦ simp w.sum-is (value_skip t c.args.column row s (λ e. w.if-basic-column.false (c.basic.ensures ∙ e)) c.loop-row.invariant.value c.loop-row.invariant.small)
    ]
