use Rattle.std.proofs.Common.{rules, arith, ◌≡◌, ℕ, ℤ, pos, get_or, nat_abs, ◌+ℤ◌, ◌*ℤ◌, ◌≤◌, ◌*◌, ◌+◌, ◌^◌, ap}
use Rattle.std.proofs.lemmas.Int.{ints, to_z-of_z}
use mir.Val.{SFits, to_z}
use mir.Syntax.{w32, w128}
use Rattle.lt_lattice.proofs.Dots.{inner_step}
use Rattle.lt_lattice.proofs.matrices.image_coordinate.Goals as goal

fits : (x : ℤ) → nat_abs x ≤ 2 ^ 93 → SFits w128 x
fits x h = omega (arith, ints)

sum_fits : (j : ℕ) (s x : ℤ) → j ≤ 6 → nat_abs s ≤ j * 2 ^ 93 → nat_abs x ≤ 2 ^ 93 → SFits w128 (s +ℤ x)
sum_fits j s x l h k = omega (arith, ints)

larger : (j : ℕ) (s x : ℤ) → nat_abs s ≤ j * 2 ^ 93 → nat_abs x ≤ 2 ^ 93 → nat_abs (s +ℤ x) ≤ (j + 1) * 2 ^ 93
larger j s x h k = omega (arith, ints)

pub loop-j-preserved : goal.loop-j-preserved
loop-j-preserved c =
    let j = c.loop-j.j in
    let s = to_z w128 c.loop-j.sum-bits in
    let t = c.term-sum in
    let n = get_or c.args.numbers.now j (pos 0) in
    let x = get_or c.args.x.now j (pos 0) in
    let fn : SFits w128 n = search rules in
    let fx : SFits w32 x = search rules in
    let value : t.result ≡ n *ℤ x = rw (to_z-of_z w128 n fn, to_z-of_z w32 x fx) at t.ensures.value in
    let f = sum_fits j s t.result (omega (arith, c.loop-j-test.true, c.requires.few)) c.loop-j.invariant.small t.ensures.small in
    rw (to_z-of_z w128 t.result (fits t.result t.ensures.small), to_z-of_z w128 (s +ℤ t.result) f) (record {
      so_far = inner_step c.args.numbers.now c.args.x.now j s (s +ℤ t.result) (omega arith) (omega arith) (ap (λ (z : ℤ). s +ℤ z) value) c.loop-j.invariant.so_far;
      small = larger j s t.result c.loop-j.invariant.small t.ensures.small;
    })
