use Rattle.std.proofs.Common.{◌≡◌, ◌≤◌, ◌<◌, ◌^◌, refl, arith, ℤ, pos, get_or, length, nat_abs}
use Rattle.std.proofs.lemmas.Int.{ints}
use mir.Syntax.{w128}
use mir.Val.{to_z}
use Rattle.lt_cover.proofs.Sums.{narrow, product_cast_fits, sum_cast_fits, cast_sum, summed_more}
use Rattle.lt_cover.proofs.radii.weighted.Goals as goal

record Sizes (x y v : ℤ) : Type 0 where
  pub is : y ≡ v
  pub first : nat_abs x ≤ 2 ^ 56
  pub second : nat_abs y ≤ 400

sizes : (c : goal.After-from) → Sizes (get_or c.args.nums.now c.loop-i.i (pos 0)) c.from.result (get_or c.args.values.now c.loop-i.i (pos 0))
sizes c =
    let v = get_or c.args.values.now c.loop-i.i (pos 0) in
    let l : c.loop-i.i < length c.args.values.now = omega (arith, c.requires.same, c.loop-i-test.true) in
    let w = c.requires.within c.loop-i.i (pos 0) l in
    let b = c.requires.below c.loop-i.i (pos 0) c.loop-i-test.true in
    let k = narrow v (omega (arith, w)) in
    let e : c.from.result ≡ v = omega (arith, ints, k, c.from.ensures) in
    record { is = e; first = omega (arith, b); second = rw e w }

pub overflow_mul-sum : goal.overflow_mul-sum
overflow_mul-sum c = product_cast_fits (get_or c.args.nums.now c.loop-i.i (pos 0)) c.from.result (sizes c).first (sizes c).second

few : (c : goal.After-from) → c.loop-i.i ≤ 6
few c = omega (arith, c.requires.few, c.loop-i-test.true)

pub overflow_add-sum : goal.overflow_add-sum
overflow_add-sum c = sum_cast_fits c.loop-i.i (to_z w128 c.loop-i.sum-bits) (get_or c.args.nums.now c.loop-i.i (pos 0)) c.from.result (few c) c.loop-i.invariant.small (sizes c).first (sizes c).second

pub loop-i-preserved : goal.loop-i-preserved
loop-i-preserved c =
    let s : ℤ = to_z w128 c.loop-i.sum-bits in
    let x = get_or c.args.nums.now c.loop-i.i (pos 0) in
    let e = cast_sum c.loop-i.i s x c.from.result (few c) c.loop-i.invariant.small (sizes c).first (sizes c).second in
    summed_more c.args.nums.now c.args.values.now c.loop-i.i s x c.from.result _ c.loop-i.invariant c.loop-i-test.true (omega (arith, c.requires.same, c.loop-i-test.true)) refl (sizes c).is (sizes c).first (sizes c).second e
