use Rattle.std.proofs.Common.{rules, arith, ◌≡◌, ◌<◌, ◌≤◌, ◌+◌, ◌*◌, ◌^◌, ◌∙◌, ap, sym, ℕ, ℤ, [], pos, ◌*ℤ◌, ◌+ℤ◌, get_or, nat_abs, map, drop}
use Rattle.std.proofs.lemmas.Int.{ints, to_z-of_z}
use Rattle.std.proofs.lemmas.List.{get_or_read}
use mir.Val.{SFits, to_z}
use mir.Syntax.{w64, w128}
use Rattle.lt_model.specs.Facets.{number_at}
use Rattle.lt_model.specs.Limits.{span_limit}
use Rattle.lt_lattice.proofs.Dots.{inner_step, cast_step}
use Rattle.lt_match.proofs.Weighed.{coordinate_at, count_coordinates, term_within, sums_fit}
use Rattle.lt_match.proofs.bases.sum_at.Goals as goal

-- the coordinate that is read
read : (c : goal.After-from) → c.from.result ≡ number_at c.args.k (get_or c.args.targets.now (c.loop-i.i + 1) [])
read c =
    let f : SFits w64 c.coord.result = search rules in
    let there : c.index-targets-i.result ≡ get_or c.args.targets.now (c.loop-i.i + 1) [] = get_or_read c.args.targets.now (c.loop-i.i + 1) _ (omega (arith, c.requires.count, c.loop-i-test.true)) c.index-targets-i.is [] in
    c.from.ensures ∙ to_z-of_z w64 c.coord.result f ∙ c.coord.ensures.value ∙ ap (number_at c.args.k) there

term : (c : goal.After-from) → nat_abs (get_or c.args.terms.now c.loop-i.i (pos 0) *ℤ c.from.result) ≤ 2 ^ 56 * span_limit c.args.d
term c =
    rw (read c) (term_within c.args.d c.args.terms.now c.args.targets.now c.args.k c.loop-i.i c.requires.below c.requires.near c.requires.dimension c.requires.place (omega (arith, c.requires.terms, c.loop-i-test.true)) (omega (arith, c.requires.count, c.loop-i-test.true)))

fits_term : (d i s : ℕ) (p : ℤ) → s + nat_abs p < 2 ^ 80 → SFits w128 p
fits_term d i s p h = omega (arith, ints)

pub overflow_mul-sum : goal.overflow_mul-sum
overflow_mul-sum c =
    let x = get_or c.args.terms.now c.loop-i.i (pos 0) in
    let fx : SFits w128 x = search rules in
    let fy : SFits w128 c.from.result = search rules in
    let small = sums_fit c.args.d c.loop-i.i 0 (nat_abs (x *ℤ c.from.result)) c.requires.few c.loop-i-test.true (omega arith) (term c) in
    rw (to_z-of_z w128 x fx, to_z-of_z w128 c.from.result fy) (fits_term c.args.d c.loop-i.i 0 (x *ℤ c.from.result) small)

fits_sum : (s p : ℤ) → nat_abs s + nat_abs p < 2 ^ 80 → SFits w128 (s +ℤ p)
fits_sum s p h = omega (arith, ints)

pub overflow_add-sum : goal.overflow_add-sum
overflow_add-sum c =
    let x = get_or c.args.terms.now c.loop-i.i (pos 0) in
    let fx : SFits w128 x = search rules in
    let fy : SFits w128 c.from.result = search rules in
    let before : nat_abs (to_z w128 c.loop-i.sum-bits) ≤ c.loop-i.i * (2 ^ 56 * span_limit c.args.d) = c.loop-i.invariant.small in
    let small = sums_fit c.args.d c.loop-i.i (nat_abs (to_z w128 c.loop-i.sum-bits)) (nat_abs (x *ℤ c.from.result)) c.requires.few c.loop-i-test.true before (term c) in
    let small0 = sums_fit c.args.d c.loop-i.i 0 (nat_abs (x *ℤ c.from.result)) c.requires.few c.loop-i-test.true (omega arith) (term c) in
    let fp : SFits w128 (x *ℤ c.from.result) = fits_term c.args.d c.loop-i.i 0 (x *ℤ c.from.result) small0 in
    rw (to_z-of_z w128 x fx, to_z-of_z w128 c.from.result fy, to_z-of_z w128 (x *ℤ c.from.result) fp) (fits_sum (to_z w128 c.loop-i.sum-bits) (x *ℤ c.from.result) small)

wide : (n : ℕ) → n < 2 ^ 80 → n < 2 ^ 127
wide n h = omega (arith, h)

small_more : (a b : ℤ) (t : ℤ) (i w : ℕ) → t ≡ a +ℤ b → nat_abs a ≤ i * w → nat_abs b ≤ w → nat_abs t ≤ (i + 1) * w
small_more a b t i w e h k = let m : (i + 1) * w ≡ i * w + w = omega arith in omega (arith, ints, m)

pub loop-i-preserved : goal.loop-i-preserved
loop-i-preserved c =
    let x = get_or c.args.terms.now c.loop-i.i (pos 0) in
    let y = c.from.result in
    let s = to_z w128 c.loop-i.sum-bits in
    let fx : SFits w128 x = search rules in
    let fy : SFits w128 y = search rules in
    let before : nat_abs s ≤ c.loop-i.i * (2 ^ 56 * span_limit c.args.d) = c.loop-i.invariant.small in
    let small = sums_fit c.args.d c.loop-i.i (nat_abs s) (nat_abs (x *ℤ y)) c.requires.few c.loop-i-test.true before (term c) in
    let e = cast_step s x y fx fy (wide (nat_abs s + nat_abs (x *ℤ y)) small) in
    let here : y ≡ get_or (map (number_at c.args.k) (drop 1 c.args.targets.now)) c.loop-i.i (pos 0) = read c ∙ sym (coordinate_at c.args.targets.now c.args.k c.loop-i.i (omega (arith, c.requires.count, c.loop-i-test.true))) in
    record {
      so_far = inner_step c.args.terms.now _ c.loop-i.i s _ (omega (arith, c.requires.terms, c.loop-i-test.true)) (omega (arith, count_coordinates c.args.targets.now c.args.k c.args.d c.requires.count, c.loop-i-test.true)) (e ∙ ap (λ z. s +ℤ x *ℤ z) here) c.loop-i.invariant.so_far;
      small = small_more s (x *ℤ y) _ c.loop-i.i (2 ^ 56 * span_limit c.args.d) e before (term c);
    }
