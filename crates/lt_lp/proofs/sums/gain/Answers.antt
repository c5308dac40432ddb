use Rattle.std.proofs.Common.{◌≡◌, ◌+◌, ◌*◌, ◌%◌, ◌^◌, ◌*ℤ◌, ◌+ℤ◌, sym, ◌∙◌, ap, ap₂, ℕ, ℤ, pos, List, get_or, arith, rules, FitsSigned, to_z}
use Rattle.std.specs.Int.{int_wrap, w64}
use Rattle.std.proofs.lemmas.Int.{int_wrap_fits, to_z-of_z, int_wrap-add_right, fits_signed_from_abs, wrapping_add-bits, wrapping_mul_is}
use mir.Val.{of_z}
use Rattle.lt_model.specs.Padded.{lookup}
use Rattle.lt_model.proofs.Integers.{zero_mul_z}
use Rattle.lt_tableau.specs.Numbers.{column_at, sum_below}
use Rattle.lt_tableau.specs.Table.{entry_of, units_of}
use Rattle.lt_lp.specs.Rule.{gain_of}
use Rattle.lt_tableau.proofs.Sums.{lookup_is, sum_same}
use Rattle.lt_tableau.proofs.Multiples.{sum_step, sum_stays, zero_wraps}
use Rattle.lt_lp.proofs.Falls.{unit_sum_small}
use Rattle.lt_lp.proofs.Signs.{gain_law}
use Rattle.lt_lp.proofs.sums.gain.Goals as goal
use Rattle.lt_lp.proofs.sums.gain.Goals.{then-sums-q-ne0, else-sums-q-ne0}

pub loop-q-init : goal.loop-q-init
loop-q-init c = sym zero_wraps

pub loop-q-preserved : goal.loop-q-preserved
loop-q-preserved c =
    let q = c.loop-q.q in
    let x = get_or c.args.sums.now q (pos 0) in
    let y = get_or c.numbers-numbers.result.now q (pos 0) in
    let fx : FitsSigned w64 x = search rules in
    let s = to_z w64 c.loop-q.sum-bits in
    let z = lookup (column_at c.args.t.now.system c.args.column) q in
    let terms = λ (i : ℕ). lookup c.args.sums.now i *ℤ lookup (column_at c.args.t.now.system c.args.column) i in
    elim c.if-sums-q-ne0.branch [
      | then-sums-q-ne0 w ↦
          let fy : FitsSigned w64 y = search rules in
          let product = wrapping_mul_is w64 x y fx fy in
          let sum = wrapping_add-bits w64 c.loop-q.sum-bits (of_z w64 x * of_z w64 y % 2 ^ 64) (search rules) (search rules) in
          let e : x *ℤ y ≡ terms q = ap₂ ◌*ℤ◌ (sym (lookup_is c.args.sums.now q)) (sym (lookup_is c.numbers-numbers.result.now q) ∙ ap (λ (z : List ℤ). lookup z q) c.numbers-numbers.ensures) in
          simp w.sum-is (sum_step terms q s _ c.loop-q.invariant (sum ∙ ap (λ z. int_wrap w64 (s +ℤ z)) product ∙ int_wrap-add_right w64 s (x *ℤ y) ∙ ap (λ z. int_wrap w64 (s +ℤ z)) e))
      | else-sums-q-ne0 w ↦
          let n : x ≡ pos 0 = simp to_z-of_z at (ap (to_z w64) w.if-sums-q-ne0.false) in
          simp w.sum-is (sum_stays terms q s (rw (lookup_is c.args.sums.now q ∙ n) (zero_mul_z z)) c.loop-q.invariant)
    ]

pub returns : goal.returns
returns c =
    let t = c.args.t.now in
    let w = c.rows-q-end.ensures.tableau in
    let j : c.loop-q.q ≡ t.rows = (let v = c.rows-q-end.ensures.value in omega arith) in
    let small = unit_sum_small t (λ (row : ℕ). entry_of t row c.args.column) (λ row. w.small row c.args.column) w.few_rows in
    c.loop-q.invariant
    ∙ ap (λ (n : ℕ). int_wrap w64 (sum_below n (λ (i : ℕ). lookup c.args.sums.now i *ℤ lookup (column_at t.system c.args.column) i))) j
    ∙ ap (int_wrap w64) (sum_same t.rows (λ (i : ℕ). lookup c.args.sums.now i *ℤ lookup (column_at t.system c.args.column) i) (λ (i : ℕ). gain_of t (units_of t + i) *ℤ lookup (column_at t.system c.args.column) i) (λ q l. ap (λ (x : ℤ). x *ℤ lookup (column_at t.system c.args.column) q) (c.requires.values q l)) ∙ sym (gain_law t w c.args.column))
    ∙ int_wrap_fits w64 (gain_of t c.args.column) (fits_signed_from_abs w64 (gain_of t c.args.column) (omega arith))
