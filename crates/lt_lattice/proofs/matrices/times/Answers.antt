use Rattle.std.proofs.Common.{◌≡◌, sym, ◌∙◌, refl}
use Rattle.std.proofs.lemmas.Bool.{false≢true}
use Rattle.lt_model.specs.Matrices.{times}
use Rattle.lt_model.specs.Flat.{rows, flat}
use Rattle.lt_lattice.proofs.Lengths.{square_length, product_at}
use Rattle.lt_lattice.proofs.matrices.times.Goals as goal

pub invariant_of-result : goal.invariant_of-result
invariant_of-result c = (
  square_length c.dimension.result _ c.dimension.ensures.low c.dimension.ensures.high c.product-numbers.ensures.count,
  rw c.as_slice.ensures.value at c.are_below.ensures.0 c.if-are_below.true,
)

pub returns-then-are_below-clause-value : goal.returns-then-are_below-clause-value
returns-then-are_below-clause-value c = λ d h.
    let value : c.product-numbers.result.items ≡ flat (times (rows c.dimension.result c.args.u.now) (rows c.dimension.result c.args.v.now)) =
    rw (c.numbers.ensures.value, c.numbers-2.ensures.value) at c.product-numbers.ensures.value in
    product_at c.dimension.result d c.args.u.now c.args.v.now _ c.dimension.ensures.value h value

pub returns-then-are_below-clause-below : goal.returns-then-are_below-clause-below
returns-then-are_below-clause-below c = λ d h.
    let value : c.product-numbers.result.items ≡ flat (times (rows c.dimension.result c.args.u.now) (rows c.dimension.result c.args.v.now)) =
    rw (c.numbers.ensures.value, c.numbers-2.ensures.value) at c.product-numbers.ensures.value in
    let same = product_at c.dimension.result d c.args.u.now c.args.v.now _ c.dimension.ensures.value h value in
    ((λ _. rw (c.as_slice.ensures.value, same) at c.are_below.ensures.0 c.if-are_below.true), (λ _. refl))

pub returns-else-are_below-clause-below : goal.returns-else-are_below-clause-below
returns-else-are_below-clause-below c = λ d h.
    let value : c.product-numbers.result.items ≡ flat (times (rows c.dimension.result c.args.u.now) (rows c.dimension.result c.args.v.now)) =
    rw (c.numbers.ensures.value, c.numbers-2.ensures.value) at c.product-numbers.ensures.value in
    let same = product_at c.dimension.result d c.args.u.now c.args.v.now _ c.dimension.ensures.value h value in
    ((λ t. absurd (false≢true t)), (λ all. sym c.if-are_below.false ∙ c.are_below.ensures.1 (rw (c.as_slice.ensures.value, same) all)))
