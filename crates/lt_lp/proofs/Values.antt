-- A tableau whose objective is 0: values that are not negative, 0 in the rows of unit columns, whose combination is the right side.
use Rattle.std.proofs.Common.{subst, ◌≡◌, sym, ◌∙◌, ap, ℕ, ◌-◌, ◌≤◌, ◌<◌, ℤ, pos, ◌*ℤ◌, ◌≤ℤ◌, arith, List, map, length, get_or, cond, nat_le, Bool, true, false}
use Rattle.std.proofs.lemmas.Int.{ints}
use Rattle.lt_model.specs.Padded.{lookup}
use Rattle.lt_model.specs.Vectors.{combine}
use Rattle.lt_tableau.specs.Numbers.{sum_below}
use Rattle.lt_tableau.specs.Table.{Table, IsTableau, right_of, basic_of, count_of, units_of}
use Rattle.lt_tableau.specs.Numbers.{column_at}
use Rattle.lt_lp.specs.Rule.{at_unit, objective_of, IsReady}
use Rattle.lt_tableau.proofs.Sums.{lookup_combine, sum_same}
use Rattle.lt_tableau.proofs.Kept.{at_map}
use Rattle.std.proofs.lemmas.List.{length-map}
use Rattle.lt_lp.proofs.Loops.{nat_le_true}
use Rattle.lt_lp.proofs.Signs.{each_zero, right_not_negative}

combine_sum : (ts : List ℤ) (f : ℕ → List ℤ) (bs : List ℕ) (q : ℕ) → lookup (combine ts (map f bs)) q ≡ sum_below (length bs) (λ (r : ℕ). lookup ts r *ℤ lookup (f (get_or bs r 0)) q)
combine_sum ts f bs q =
    lookup_combine ts (map f bs) q
    ∙ ap (λ (n : ℕ). sum_below n (λ (r : ℕ). lookup ts r *ℤ lookup (column_at (map f bs) r) q)) (length-map bs f)
    ∙ sum_same (length bs) (λ (r : ℕ). lookup ts r *ℤ lookup (column_at (map f bs) r) q) (λ (r : ℕ). lookup ts r *ℤ lookup (f (get_or bs r 0)) q) (λ r h. ap (λ (x : List ℤ). lookup ts r *ℤ lookup x q) (at_map f bs r h))

-- the values of the basic columns combine them to the right side
pub value_law : (t : Table) → IsTableau t → (q : ℕ) → sum_below t.rows (λ (r : ℕ). right_of t r *ℤ lookup (column_at t.system (basic_of t r)) q) ≡ t.den *ℤ lookup (column_at t.system (count_of t)) q
value_law t w q =
    let e = combine_sum (column_at t.columns (count_of t)) (λ (j : ℕ). column_at t.system j) t.basic q in
    ap (λ (n : ℕ). sum_below n (λ (r : ℕ). right_of t r *ℤ lookup (column_at t.system (basic_of t r)) q)) (sym w.basic_count) ∙ sym e ∙ w.basis_law (count_of t) q

pub values_not_negative : (t : Table) → IsReady t → (r : ℕ) → r < t.rows → pos 0 ≤ℤ right_of t r
values_not_negative t w r l =
    let z : count_of t - 0 ≡ count_of t = omega arith in
    subst (λ (c : ℕ). pos 0 ≤ℤ lookup (column_at t.columns c) r) z (right_not_negative t r (w.positive r l))

-- the values in the rows of unit columns are 0
pub unit_values : (t : Table) → IsReady t → objective_of t ≡ pos 0 → (r : ℕ) → r < t.rows → units_of t ≤ basic_of t r → right_of t r ≡ pos 0
unit_values t w o r l h =
    let a = each_zero t.rows (λ (row : ℕ). at_unit t row (right_of t row)) (λ q k. part (nat_le (units_of t) (basic_of t q)) (right_of t q) (values_not_negative t w q k)) o r l in
    sym (ap (λ (b : Bool). cond b (right_of t r) (pos 0)) (nat_le_true (units_of t) (basic_of t r) h)) ∙ a
  where
    part : (b : Bool) (x : ℤ) → pos 0 ≤ℤ x → pos 0 ≤ℤ cond b x (pos 0)
    part true x k = k
    part false x k = omega (arith, ints)
