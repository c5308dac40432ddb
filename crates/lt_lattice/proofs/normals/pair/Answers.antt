use Rattle.std.proofs.Common.{arith, ◌*◌, ◌≤◌, ◌^◌, length}
use Rattle.lt_lattice.specs.Ranges.{size_of_dot}
use Rattle.lt_lattice.proofs.Dots.{size_within, within_below}
use Rattle.lt_lattice.proofs.normals.pair.Goals as goal

pub inner_product-requires-clause-small : goal.inner_product-requires-clause-small
inner_product-requires-clause-small c =
    let n = c.args.normal.now in
    let q = c.args.q.now in
    let size : size_of_dot n q ≤ length n * (2 ^ 56 * 2 ^ 64) = size_within (2 ^ 56) (2 ^ 64) n q (within_below _ n c.requires.normal_below) (within_below _ q c.requires.form_below) in
    rw (c.numbers.ensures.value, c.numbers-2.ensures.value) (omega (arith, size, c.numbers.ensures.few))
