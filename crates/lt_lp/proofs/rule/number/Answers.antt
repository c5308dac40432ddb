use Rattle.std.proofs.Common.{refl, ◌≡◌, arith, rules, FitsSigned, ◌-◌, ◌+◌}
use Rattle.std.specs.Int.{w128}
use Rattle.std.proofs.lemmas.Int.{to_z-of_z}
use Rattle.lt_tableau.specs.Table.{count_of, units_of}
use Rattle.lt_lp.proofs.rule.number.Goals as goal

pub returns-then-place-eq0-clause-small : goal.returns-then-place-eq0-clause-small
returns-then-place-eq0-clause-small c =
    let x : FitsSigned w128 c.right.result = search rules in
    simp to_z-of_z (rw c.right.ensures (c.rows-rows.ensures.tableau.small c.args.row (count_of c.args.t.now)))

pub returns-else-place-eq0-clause-value : goal.returns-else-place-eq0-clause-value
returns-else-place-eq0-clause-value c =
    let x : FitsSigned w128 c.unit.result = search rules in
    let w = c.rows-rows.ensures.tableau.wide in
    let v = c.rows-rows.ensures.value in
    let e : units_of c.args.t.now + (c.rows-rows.result - c.args.place) ≡ count_of c.args.t.now - c.args.place = omega arith in
    simp to_z-of_z (rw (c.unit.ensures, e) refl)

pub returns-else-place-eq0-clause-small : goal.returns-else-place-eq0-clause-small
returns-else-place-eq0-clause-small c =
    let x : FitsSigned w128 c.unit.result = search rules in
    simp to_z-of_z (rw c.unit.ensures (c.rows-rows.ensures.tableau.small c.args.row (units_of c.args.t.now + (c.rows-rows.result - c.args.place))))
