use Rattle.std.proofs.Common.{rules, arith, ℤ, ◌*ℤ◌, nat_abs, ◌≤◌, ◌*◌, ◌^◌}
use Rattle.std.proofs.lemmas.Int.{ints, to_z-of_z}
use mir.Val.{SFits}
use mir.Syntax.{w32, w64, w128}
use Rattle.lt_lattice.proofs.Dots.{product_within}
use Rattle.lt_lattice.proofs.matrices.term.Goals as goal

short : (x : ℤ) → nat_abs x ≤ 2 ^ 62 → SFits w64 x
short x h = omega (arith, ints)

wide : (x : ℤ) → nat_abs x ≤ 2 ^ 62 * 2 ^ 31 → SFits w128 x
wide x h = omega (arith, ints)

in_32 : (x : ℤ) → SFits w32 x → nat_abs x ≤ 2 ^ 31
in_32 x h = omega (arith, ints, h)

in_128 : (x : ℤ) → SFits w32 x → SFits w128 x
in_128 x h = omega (arith, ints, h)

pub returns-clause-small : goal.returns-clause-small
returns-clause-small c =
    let n = c.args.number in
    let x = c.args.coordinate in
    let fn : SFits w128 n = search rules in
    let fx : SFits w32 x = search rules in
    let size : nat_abs (n *ℤ x) ≤ 2 ^ 62 * 2 ^ 31 = product_within n x (2 ^ 62) (2 ^ 31) c.requires (in_32 x fx) in
    rw (to_z-of_z w128 n fn, to_z-of_z w64 n (short n c.requires), to_z-of_z w128 n fn, to_z-of_z w32 x fx, to_z-of_z w128 x (in_128 x fx), to_z-of_z w128 (n *ℤ x) (wide (n *ℤ x) size)) (omega (arith, size))
