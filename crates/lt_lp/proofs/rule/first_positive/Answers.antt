use Rattle.std.proofs.Common.{ℕ, arith}
use Rattle.std.proofs.lemmas.Int.{ints}
use Rattle.lt_tableau.specs.Table.{entry_of}
use Rattle.lt_lp.proofs.Leaves.{none_positive}
use Rattle.lt_lp.proofs.rule.first_positive.Goals as goal

pub unreachable-requires : goal.unreachable-requires
unreachable-requires c =
    let t = c.args.t.now in
    let v = c.rows-row-end.ensures.value in
    let l = c.loop-row-test.false in
    let n = none_positive t (λ (r : ℕ). entry_of t r c.args.column) (λ r h. c.loop-row.invariant r (omega arith)) in
    let g = c.requires.gains in
    omega (arith, ints)
