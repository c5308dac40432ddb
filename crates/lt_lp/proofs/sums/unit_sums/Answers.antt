use Rattle.std.proofs.Common.{◌<◌, ◌≤◌, ◌+◌, ℕ, arith}
use Rattle.lt_model.specs.Padded.{lookup}
use Rattle.lt_tableau.specs.Table.{basic_of, units_of}
use Rattle.lt_lp.specs.Rule.{unit_entry}
use Rattle.lt_lp.proofs.Loops.{sum_more, sum_skip}
use Rattle.lt_lp.proofs.WallSums.{lookup_zeros}
use Rattle.lt_lp.proofs.sums.unit_sums.Goals as goal
use Rattle.lt_lp.proofs.sums.unit_sums.Goals.{then-basic-first, else-basic-first}

pub loop-row-init : goal.loop-row-init
loop-row-init c = record {
  values = λ q l. record { is = lookup_zeros 22 q; small = rw (lookup_zeros 22 q) (omega arith) };
  small = λ q. rw (lookup_zeros 22 q) (omega arith);
}

pub loop-row-preserved : goal.loop-row-preserved
loop-row-preserved c =
    let t = c.args.t.now in
    let row = c.loop-row.row in
    let small = λ (q : ℕ). c.rows-row-end.ensures.tableau.small row (units_of t + q) in
    elim c.if-basic-first.branch [
      | then-basic-first w ↦
          let l : units_of t ≤ basic_of t row = omega arith in
          simp w.sums-is (record {
            values = λ q h. rw (w.add_row.ensures.values q h) (sum_more t (λ (r : ℕ). unit_entry t r q) row (lookup c.loop-row.sums q) (small q) l (c.loop-row.invariant.values q h));
            small = w.add_row.ensures.small;
          })
      | else-basic-first w ↦
          let l : basic_of t row < units_of t = omega arith in
          simp w.sums-is (record {
            values = λ q h. sum_skip t (λ (r : ℕ). unit_entry t r q) row (lookup c.loop-row.sums q) l (c.loop-row.invariant.values q h);
            small = λ q. let k = c.loop-row.invariant.small q in omega arith;
          })
    ]
