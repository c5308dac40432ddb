-- The product of the factor of a turn and a matrix: its numbers, and its inverse.
use Rattle.std.proofs.Common.{◌≡◌, ℕ, ℤ, neg_ℤ, ◌*◌, ◌^◌, ◌≤◌, ap, arith, sym, ◌∙◌, subst, List, length}
use Rattle.std.specs.List.{All}
use Rattle.std.proofs.lemmas.List.Elements.{All-weaker}
use Rattle.lt_model.specs.Flat.{rows, flat}
use Rattle.lt_model.specs.Matrices.{times, IsSquare}
use Rattle.lt_model.proofs.Flat.{rows_square, rows-flat, flat-rows, length-flat, times_square}
use Rattle.lt_geometry.proofs.Matrices.{undone, undone_times, inverse_from_undone}
use Rattle.lt_lattice.specs.Ranges.{IsWithin, IsBelow}
use Rattle.lt_drill.specs.Scrambles.{factor, turn_row, turn_column, turn_number, turn_factor, HasInverse}
use Rattle.lt_drill.proofs.Factors.{factor_square, undone_factor, times_small, length-factor}
use Rattle.lt_drill.proofs.Turns.{row_below, column_below, other_column, number_small}

module _ (d x : ℕ) (low : 2 ≤ d) where
  turn_square : IsSquare d (turn_factor d x)
  turn_square = factor_square d (turn_row d x) (turn_column d x) (row_below d x low) (column_below d x low) (turn_number x)

  pub length-turn : length (flat (turn_factor d x)) ≡ d * d
  length-turn = length-factor d (turn_row d x) (turn_column d x) (turn_number x) (row_below d x low) (column_below d x low)

  module _ (u : List ℤ) (square : length u ≡ d * d) where
    product_square : IsSquare d (times (turn_factor d x) (rows d u))
    product_square = times_square d (turn_factor d x) (rows d u) turn_square (rows_square d u square)

    pub length-product : length (flat (times (turn_factor d x) (rows d u))) ≡ d * d
    length-product = length-flat d (times (turn_factor d x) (rows d u)) product_square.columns ∙ ap (λ n. n * d) product_square.rows

    pub rows_product : rows d (flat (times (turn_factor d x) (rows d u))) ≡ times (turn_factor d x) (rows d u)
    rows_product = rows-flat d (times (turn_factor d x) (rows d u)) product_square

    -- as the rows of the factor's numbers give it
    pub product_value : (f : List ℤ) → f ≡ flat (turn_factor d x) → times (rows d f) (rows d u) ≡ times (turn_factor d x) (rows d u)
    product_value f e = ap (λ m. times m (rows d u)) (ap (rows d) e ∙ rows-flat d (turn_factor d x) turn_square)

    pub product_within : (m : ℕ) → All (IsWithin m) u → All (IsWithin (2 * m)) (flat (times (turn_factor d x) (rows d u)))
    product_within m h =
        times_small d (turn_row d x) (turn_column d x) (turn_number x) m (rows d u) (row_below d x low) (column_below d x low) (other_column d x low) (number_small x) (rows_square d u square)
        (subst (All (IsWithin m)) (sym (flat-rows d u square)) h)

    -- it is never too large
    pub product_below : All (IsWithin (2 ^ 60)) u → All (IsBelow (2 ^ 62)) (flat (times (turn_factor d x) (rows d u)))
    product_below h = All-weaker {X = ℤ} (IsWithin (2 * 2 ^ 60)) (IsBelow (2 ^ 62)) (λ y p. omega (arith, p)) (flat (times (turn_factor d x) (rows d u))) (product_within (2 ^ 60) h)

    pub product_inverse : (p : List ℤ) → p ≡ flat (times (turn_factor d x) (rows d u)) → HasInverse d (rows d u) → HasInverse d (rows d p)
    product_inverse p e (v, inverse) =
        let i = turn_row d x in
        let j = turn_column d x in
        let z = turn_number x in
        let back = factor d i j (neg_ℤ z) in
        let both = undone_times d (rows d u) v (turn_factor d x) back (undone d (rows d u) v (rows_square d u square) inverse) (undone_factor d i j (row_below d x low) (column_below d x low) (other_column d x low) z) in
        let at : rows d p ≡ times (turn_factor d x) (rows d u) = ap (rows d) e ∙ rows_product in
        subst (HasInverse d) (sym at) (times v back, inverse_from_undone d (times (turn_factor d x) (rows d u)) (times v back) both)
