use Rattle.std.proofs.Common.{suc, refl, rules, arith, ◌≡◌, ◌∙◌, sym, ap, subst, ◌≤◌, ◌<◌, ◌-◌, ◌*◌, ◌^◌, ℕ, ℤ, pos, ◌-ℤ◌, List, [], ◌∷◌, drop, length, nat_abs, slice_index_or, FitsSigned}
use Rattle.std.specs.Int.{w128}
use Rattle.std.proofs.lemmas.Int.{ints, to_z-of_z, fits_signed_from_abs}
use Rattle.std.proofs.lemmas.List.Elements.{All-cons}
use Rattle.lt_model.specs.Cones.{coefficients, places, AreBelow}
use Rattle.lt_model.proofs.Squares.{length-scale}
use Rattle.lt_tableau.specs.Table.{units_of}
use Rattle.lt_tableau.proofs.Turned.{taken}
use Rattle.lt_lp.specs.Terms.{value_of, terms_from, terms_of, scale_of}
use Rattle.lt_lp.specs.Reduced.{IsReduced}
use Rattle.lt_lp.proofs.Mixes.{value_small}
use Rattle.lt_lp.proofs.Terms.{terms_below}
use Rattle.lt_lp.proofs.combinations.combination.Goals as goal

small_difference : (x y : ℤ) → nat_abs x ≤ 22 * 2 ^ 56 → nat_abs y ≤ 22 * 2 ^ 56 → nat_abs (x -ℤ y) < 2 ^ 62
small_difference x y h k = omega (arith, ints)

small_fits : (x : ℤ) → nat_abs x < 2 ^ 62 → FitsSigned w128 x
small_fits x h = fits_signed_from_abs w128 x (omega arith)

split : (xs : List ℤ) → 0 < length xs → (slice_index_or xs 0 (pos 0) ∷ drop 1 xs) ≡ xs
split [] h = absurd (omega arith)
split (x ∷ xs) h = refl

pub reduce-requires-clause-below : goal.reduce-requires-clause-below
reduce-requires-clause-below c =
    let t = c.args.t.now in
    let w = c.rows.ensures.tableau in
    let k = c.args.k in
    let u = c.first_unit-first.ensures in
    let x : FitsSigned w128 c.value.result = search rules in
    let y : FitsSigned w128 c.value-2.result = search rules in
    let b : nat_abs (c.value.result -ℤ c.value-2.result) < 2 ^ 62 = small_difference c.value.result c.value-2.result c.value.ensures.small c.value-2.ensures.small in
    let f : FitsSigned w128 (c.value.result -ℤ c.value-2.result) = small_fits (c.value.result -ℤ c.value-2.result) b in
    let r : c.as_slice.result.now ≡ terms_of k t = c.as_slice.ensures.value ∙ c.terms-raw.ensures ∙ ap (λ (n : ℕ). terms_from k (value_of t) 0 (n - 2)) u in
    let n : c.as_mut_slice.result.now ≡ (c.value.result -ℤ c.value-2.result) ∷ coefficients (terms_of k t) = c.as_mut_slice.ensures.value ∙ (rw r at (simp to_z-of_z at c.with_scale-numbers.ensures)) in
    subst (AreBelow (2 ^ 62)) (sym n) (All-cons (λ z. nat_abs z < 2 ^ 62) (c.value.result -ℤ c.value-2.result) (coefficients (terms_of k t)) b (terms_below k (2 ^ 62) (value_of t) 0 (units_of t - 2) (λ i. less (value_of t i) (value_small t w i))))
  where
    less : (x : ℤ) → nat_abs x ≤ 22 * 2 ^ 56 → nat_abs x < 2 ^ 62
    less x h = omega arith

pub returns : goal.returns
returns c =
    let t = c.args.t.now in
    let k = c.args.k in
    let u = c.first_unit-first.ensures in
    let x : FitsSigned w128 c.value.result = search rules in
    let y : FitsSigned w128 c.value-2.result = search rules in
    let b : nat_abs (c.value.result -ℤ c.value-2.result) < 2 ^ 62 = small_difference c.value.result c.value-2.result c.value.ensures.small c.value-2.ensures.small in
    let f : FitsSigned w128 (c.value.result -ℤ c.value-2.result) = small_fits (c.value.result -ℤ c.value-2.result) b in
    let raw : c.terms-raw.result.items ≡ terms_of k t = c.terms-raw.ensures ∙ ap (λ (n : ℕ). terms_from k (value_of t) 0 (n - 2)) u in
    let r : c.as_slice.result.now ≡ terms_of k t = c.as_slice.ensures.value ∙ raw in
    let s : c.value.result -ℤ c.value-2.result ≡ scale_of t = rw (c.value.ensures.value, c.value-2.ensures.value, u) refl in
    let n : c.as_mut_slice.result.now ≡ scale_of t ∷ coefficients (terms_of k t) = c.as_mut_slice.ensures.value ∙ (rw (r, s) at (simp to_z-of_z at c.with_scale-numbers.ensures)) in
    let d : IsReduced (scale_of t ∷ coefficients (terms_of k t)) c.reduce.new.numbers = rw n at c.reduce.ensures.reduced in
    let l : length c.reduce.new.numbers ≡ suc (length (coefficients (terms_of k t))) = sym (length-scale (pos d.factor) c.reduce.new.numbers) ∙ ap (length {A = ℤ}) (sym d.times) in
    let m : length c.with_scale-numbers.result.items ≡ suc (length (coefficients (terms_of k t))) = ap (length {A = ℤ}) (sym c.as_mut_slice.ensures.value ∙ n) in
    let g = taken (length c.with_scale-numbers.result.items) c.reduce.new.numbers (drop (length c.reduce.new.numbers) c.with_scale-numbers.result.items) (l ∙ sym m) in
    let e : c.as_slice-2.result.now ≡ c.reduce.new.numbers = c.as_slice-2.ensures.value ∙ g in
    let e4 : c.as_slice-4.result.now ≡ c.reduce.new.numbers = c.as_slice-4.ensures.value ∙ g in
    let z : FitsSigned w128 (slice_index_or c.as_slice-2.result.now 0 (pos 0)) = search rules in
    let q : coefficients c.with_numbers.result.items ≡ drop 1 c.reduce.new.numbers = c.with_numbers.ensures.coefficients ∙ ap (drop 1) e4 in
    let p : places c.with_numbers.result.items ≡ places (terms_of k t) = c.with_numbers.ensures.places ∙ ap places (c.as_slice-3.ensures.value ∙ raw) in
    let h : (slice_index_or c.reduce.new.numbers 0 (pos 0) ∷ drop 1 c.reduce.new.numbers) ≡ c.reduce.new.numbers = split c.reduce.new.numbers (omega arith) in
    (p, simp to_z-of_z (rw (e, q, h) d))
