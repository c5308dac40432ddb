use Rattle.std.proofs.Common.{arith, ap, sym, ◌∙◌, ◌≡◌, length, get_or, [], subst, List, ℤ, ◌^◌}
use Rattle.std.specs.List.{All}
use Rattle.lt_model.specs.Flat.{rows}
use Rattle.lt_lattice.specs.Ranges.{IsBelow}
use Rattle.lt_lattice.proofs.Places.{length_row}
use Rattle.lt_geometry.proofs.Induced.{length-products}
use Rattle.lt_merge.proofs.Rows.{row_below}
use Rattle.lt_merge.proofs.images.image_number.Goals as goal
use Rattle.lt_merge.proofs.images.image_number.Goals.{After-row-2}

-- the rows have d numbers
first_long : (c : After-row-2) → length c.row.result.now ≡ c.args.d
first_long c = ap length c.row.ensures ∙ ap (λ (z : List ℤ). length (get_or (rows c.args.d z) c.args.i [])) c.numbers-numbers.ensures.value ∙ length_row c.args.d c.args.i c.args.u.now c.requires.square c.requires.row

second_long : (c : After-row-2) → length c.row-2.result.now ≡ c.args.d
second_long c = ap length c.row-2.ensures ∙ ap (λ (z : List ℤ). length (get_or (rows c.args.d z) c.args.j [])) c.numbers-numbers.ensures.value ∙ length_row c.args.d c.args.j c.args.u.now c.requires.square c.requires.column

pub product_numbers-products-requires-clause-few : goal.product_numbers-products-requires-clause-few
product_numbers-products-requires-clause-few c = omega (arith, first_long c, c.requires.few)

pub product_numbers-products-requires-clause-same : goal.product_numbers-products-requires-clause-same
product_numbers-products-requires-clause-same c = second_long c ∙ sym (first_long c)

pub product_numbers-products-requires-clause-below : goal.product_numbers-products-requires-clause-below
product_numbers-products-requires-clause-below c =
    let all : All (IsBelow (2 ^ 62)) c.numbers-numbers.result.now = subst (λ (z : List ℤ). All (IsBelow (2 ^ 62)) z) (sym c.numbers-numbers.ensures.value) c.numbers-numbers.ensures.below in
    subst (λ (z : List ℤ). All (IsBelow (2 ^ 62)) z) (sym c.row.ensures) (row_below c.args.d c.args.i c.numbers-numbers.result.now c.requires.row all)

pub product_numbers-products-requires-clause-below_too : goal.product_numbers-products-requires-clause-below_too
product_numbers-products-requires-clause-below_too c =
    let all : All (IsBelow (2 ^ 62)) c.numbers-numbers.result.now = subst (λ (z : List ℤ). All (IsBelow (2 ^ 62)) z) (sym c.numbers-numbers.ensures.value) c.numbers-numbers.ensures.below in
    subst (λ (z : List ℤ). All (IsBelow (2 ^ 62)) z) (sym c.row-2.ensures) (row_below c.args.d c.args.j c.numbers-numbers.result.now c.requires.column all)

pub wrapped_product-requires : goal.wrapped_product-requires
wrapped_product-requires c =
    let first = ap length c.row.ensures ∙ ap (λ (z : List ℤ). length (get_or (rows c.args.d z) c.args.i [])) c.numbers-numbers.ensures.value ∙ length_row c.args.d c.args.i c.args.u.now c.requires.square c.requires.row in
    let second = ap length c.row-2.ensures ∙ ap (λ (z : List ℤ). length (get_or (rows c.args.d z) c.args.j [])) c.numbers-numbers.ensures.value ∙ length_row c.args.d c.args.j c.args.u.now c.requires.square c.requires.column in
    ap length (c.as_slice.ensures.value ∙ c.product_numbers-products.ensures) ∙ length-products c.args.d c.row.result.now c.row-2.result.now first second ∙ sym (ap length c.numbers.ensures.value ∙ c.requires.same)
