use Rattle.std.proofs.Common.{◌∙◌, sym}
use Rattle.lt_tableau.proofs.Sums.{lookup_is}
use Rattle.lt_lp.specs.Rule.{IsPivotOf}
use Rattle.lt_lp.proofs.Falls.{measure_falls}
use Rattle.lt_lp.proofs.Leaves.{ready_step}
use Rattle.lt_lp.proofs.rule.run.Goals as goal

pub loop-column-smaller : goal.loop-column-smaller
loop-column-smaller c =
    let e = c.pivot_by.ensures in
    let v : IsPivotOf c.loop-column.t c.pivot_by.new.self c.leaving-row.result c.in-Some.column = record { rows = e.rows; system = e.system; den = e.den; basic = e.basic; numbers = e.numbers } in
    let r = c.loop-column.invariant.ready in
    let h = c.leaving-row.ensures in
    measure_falls c.loop-column.t c.pivot_by.new.self c.leaving-row.result c.in-Some.column r.tableau e.tableau h c.in-Some.ensures.inside c.in-Some.ensures.gains (r.positive c.leaving-row.result h.row_in) v

pub loop-column-preserved : goal.loop-column-preserved
loop-column-preserved c =
    let e = c.pivot_by.ensures in
    let v : IsPivotOf c.loop-column.t c.pivot_by.new.self c.leaving-row.result c.in-Some.column = record { rows = e.rows; system = e.system; den = e.den; basic = e.basic; numbers = e.numbers } in
    record {
      ready = ready_step c.loop-column.t c.pivot_by.new.self c.leaving-row.result c.in-Some.column c.loop-column.invariant.ready e.tableau c.leaving-row.ensures v;
      system = e.system ∙ c.loop-column.invariant.system;
      rows = e.rows ∙ c.loop-column.invariant.rows;
    }

pub leaving-row-requires-clause-values : goal.leaving-row-requires-clause-values
leaving-row-requires-clause-values c = λ row h. sym (lookup_is c.column-numbers.result row) ∙ c.column-numbers.ensures row
