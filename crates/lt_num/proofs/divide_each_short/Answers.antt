use Rattle.std.proofs.Common.{arith, rules, get_or, pos, FitsSigned, w64}
use Rattle.std.proofs.lemmas.Int.{ints, to_z-of_z, quot_is, quot_fits}
use Rattle.lt_num.proofs.Gcds.{divides_next, divided_step, has_quotient, exact_quotient}
use Rattle.lt_num.proofs.divide_each_short.Goals as goal

pub loop-i-preserved : goal.loop-i-preserved
loop-i-preserved c =
    let x = get_or c.loop-i.list c.loop-i.i (pos 0) in
    let fx : FitsSigned w64 x = search rules in
    let fd : FitsSigned w64 c.args.divisor = c.ranges.divisor in
    let old = simp to_z-of_z at c.loop-i.invariant in
    let next = divides_next _ c.args.divisor c.args.list.now c.loop-i.list c.loop-i.i (omega arith) c.requires.divides old in
    let q = has_quotient c.args.divisor x c.requires.positive next in
    let exact = exact_quotient x c.args.divisor q.0 (λ z. absurd (omega (arith, ints, z))) q.1 in
    let is = quot_is w64 x c.args.divisor fx fd (quot_fits w64 x c.args.divisor fx c.requires.positive) in
    rw is (simp to_z-of_z (divided_step c.args.list.now c.loop-i.list c.args.divisor _ c.loop-i.i (omega arith) old exact))
