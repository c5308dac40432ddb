use Rattle.std.proofs.Common.{rules, arith, sym, ◌∙◌, ◌≤◌, ◌*◌, ◌^◌, [], length, map, get_or, List, ℤ, refl}
use Rattle.std.proofs.lemmas.Int.{to_z-of_z}
use mir.Val.{SFits}
use mir.Syntax.{w128}
use Rattle.std.proofs.lemmas.List.{length-map}
use Rattle.lt_model.specs.Facets.{number_at}
use Rattle.lt_model.specs.Flat.{rows}
use Rattle.lt_model.proofs.Flat.{length-first_rows, number_at-times}
use Rattle.lt_lattice.specs.Ranges.{size_of_dot}
use Rattle.lt_lattice.proofs.Dots.{size_within}
use Rattle.lt_lattice.proofs.Places.{row_within, column_within, length_row}
use Rattle.lt_lattice.proofs.matrices.entry.Goals as goal

pub inner_product-requires-clause-same : goal.inner_product-requires-clause-same
inner_product-requires-clause-same c =
    let d = c.args.d in
    rw (c.row.ensures, c.as_slice.ensures.value, c.column.ensures)
    (length_row d c.args.i c.args.u.now c.requires.left c.requires.row
    ∙ sym (length-map (rows d c.args.v.now) (number_at c.args.j) ∙ length-first_rows d d c.args.v.now))

pub inner_product-requires-clause-small : goal.inner_product-requires-clause-small
inner_product-requires-clause-small c =
    let d = c.args.d in
    let r : List ℤ = get_or (rows d c.args.u.now) c.args.i [] in
    let s : List ℤ = map (number_at c.args.j) (rows d c.args.v.now) in
    let size : size_of_dot r s ≤ length r * (2 ^ 62 * 2 ^ 62) =
    size_within (2 ^ 62) (2 ^ 62) r s (row_within (2 ^ 62) d c.args.i c.args.u.now c.requires.left c.requires.row c.requires.left_below)
    (column_within (2 ^ 62) d c.args.j c.args.v.now c.requires.right c.requires.column c.requires.right_below) in
    let few : length r ≤ 6 = omega (arith, length_row d c.args.i c.args.u.now c.requires.left c.requires.row, c.requires.few) in
    rw (c.row.ensures, c.as_slice.ensures.value, c.column.ensures) (omega (arith, size, few))

pub returns : goal.returns
returns c =
    let d = c.args.d in
    let product = number_at-times c.args.i c.args.j (rows d c.args.u.now) (rows d c.args.v.now) (omega (arith, length-first_rows d d c.args.u.now, c.requires.row)) in
    let fits : SFits w128 c.inner_product.result = search rules in
    rw (to_z-of_z w128 _ fits, product, c.inner_product.ensures, c.row.ensures, c.as_slice.ensures.value, c.column.ensures) refl
