use Rattle.std.proofs.Common.{arith, ◌≡◌, sym, ◌∙◌, ◌*◌, ◌≤◌, ◌^◌, length}
use Rattle.lt_model.specs.Forms.{squares}
use Rattle.lt_lattice.specs.Ranges.{size_of_dot}
use Rattle.lt_lattice.proofs.Dots.{size_within, within_below}
use Rattle.lt_lattice.proofs.Lengths.{at_most_21}
use Rattle.lt_lattice.proofs.Products.{length-squares, squares_within}
use Rattle.lt_lattice.proofs.forms.value.Goals as goal

pub inner_product-requires-clause-same : goal.inner_product-requires-clause-same
inner_product-requires-clause-same c =
    let x : c.as_slice.result.now ≡ squares c.args.x.now = cc in
    rw (c.numbers.ensures.value, x) (c.requires.same ∙ sym (length-squares c.args.x.now))

pub inner_product-requires-clause-small : goal.inner_product-requires-clause-small
inner_product-requires-clause-small c =
    let q = c.args.q.now in
    let x : c.as_slice.result.now ≡ squares c.args.x.now = cc in
    let size : size_of_dot q (squares c.args.x.now) ≤ length q * (2 ^ 80 * (2 ^ 20 * 2 ^ 20)) =
    size_within (2 ^ 80) (2 ^ 20 * 2 ^ 20) q (squares c.args.x.now) (within_below _ q c.requires.below) (squares_within (2 ^ 20) c.args.x.now c.coords.ensures.within)
    in
    let few : length q ≤ 21 = omega (arith, c.requires.same, at_most_21 (length c.args.x.now) c.coords.ensures.high) in
    rw (c.numbers.ensures.value, x) (omega (arith, size, few))
