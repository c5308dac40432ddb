use Rattle.std.proofs.Common.{arith, rules, get_or, pos, FitsSigned, unsigned_abs, ◌≡◌, w64}
use Rattle.std.proofs.lemmas.Int.{to_z-of_z}
use Rattle.std.specs.Int.{IsGcd}
use Rattle.std.proofs.lemmas.Nat.Gcd.{IsGcd-swap}
use Rattle.lt_num.proofs.Gcds.{gcd_step, gcd_whole}
use Rattle.lt_num.proofs.common_of_short.Goals as goal

pub returns-then-g-eq1-clause-divisor : goal.returns-then-g-eq1-clause-divisor
returns-then-g-eq1-clause-divisor c =
    let f : FitsSigned w64 (get_or c.args.list.now c.loop-i.i (pos 0)) = search rules in
    let e : c.unsigned_abs.result ≡ unsigned_abs (get_or c.args.list.now c.loop-i.i (pos 0)) = simp to_z-of_z at c.unsigned_abs.ensures.value in
    let h : IsGcd c.loop-i.g (unsigned_abs (get_or c.args.list.now c.loop-i.i (pos 0))) c.common_short-g.result = IsGcd-swap (unsigned_abs (get_or c.args.list.now c.loop-i.i (pos 0))) c.loop-i.g c.common_short-g.result (rw e at c.common_short-g.ensures.divisor) in
    let k : IsGcd c.loop-i.g (unsigned_abs (get_or c.args.list.now c.loop-i.i (pos 0))) 1 = rw c.if-g-eq1.true at h in
    gcd_whole c.args.list.now _ (gcd_step c.args.list.now c.loop-i.i c.loop-i.g 1 (omega arith) c.loop-i.invariant.0 k)

pub loop-i-preserved : goal.loop-i-preserved
loop-i-preserved c =
    let f : FitsSigned w64 (get_or c.args.list.now c.loop-i.i (pos 0)) = search rules in
    let e : c.unsigned_abs.result ≡ unsigned_abs (get_or c.args.list.now c.loop-i.i (pos 0)) = simp to_z-of_z at c.unsigned_abs.ensures.value in
    let h : IsGcd c.loop-i.g (unsigned_abs (get_or c.args.list.now c.loop-i.i (pos 0))) c.common_short-g.result = IsGcd-swap (unsigned_abs (get_or c.args.list.now c.loop-i.i (pos 0))) c.loop-i.g c.common_short-g.result (rw e at c.common_short-g.ensures.divisor) in
    (gcd_step c.args.list.now c.loop-i.i c.loop-i.g _ (omega arith) c.loop-i.invariant.0 h, omega arith)
