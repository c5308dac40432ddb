use Rattle.std.proofs.Common.{arith, ◌≡◌, ◌≤◌, ◌<◌, ◌^◌, ◌-ℤ◌, ℤ, List, length, pos, get_or, nat_abs, ap₂, sym, subst}
use Rattle.std.proofs.lemmas.Int.{ints, to_z-of_z}
use mir.Val.{SFits, to_z}
use mir.Syntax.{w64}
use Rattle.lt_model.specs.Facets.{without}
use Rattle.lt_triang.proofs.Coded.{point_step, next_point, last_point, number_within, numbers_left}
use Rattle.lt_triang.proofs.codes.facet_code.Goals as goal

fits : (x : ℤ) → nat_abs x ≤ 2 ^ 45 → SFits w64 x
fits x h = omega (arith, ints)

difference : (x y : ℤ) → nat_abs x ≤ 2 ^ 45 → nat_abs y ≤ 2 ^ 45 → nat_abs (x -ℤ y) ≤ 2 ^ 46
difference x y h k = omega (arith, ints)

pub overflow_mul-code : goal.overflow_mul-code
overflow_mul-code c =
    let s = point_step (to_z w64 c.loop-k.code-bits) (pos 0) c.loop-k.k (omega (arith, c.requires.high, c.loop-k-test.true)) c.loop-k.invariant.small (omega (arith, ints)) in
    s.multiple

difference_fits : (x y : ℤ) → nat_abs x ≤ 2 ^ 45 → nat_abs y ≤ 2 ^ 45 → SFits w64 (x -ℤ y)
difference_fits x y h k = omega (arith, ints)

pub overflow_sub-code : goal.overflow_sub-code
overflow_sub-code c =
    let p = c.other_number.result in
    let f = c.other_number-first.result in
    let hp : nat_abs p ≤ 2 ^ 45 = subst (λ (x : ℤ). nat_abs x ≤ 2 ^ 45) (sym c.other_number.ensures) (number_within (2 ^ 45) c.args.i c.loop-k.k c.args.codes.now c.requires.small (omega (arith, c.requires.count, c.loop-k-test.true))) in
    let hf : nat_abs f ≤ 2 ^ 45 = subst (λ (x : ℤ). nat_abs x ≤ 2 ^ 45) (sym c.other_number-first.ensures) (number_within (2 ^ 45) c.args.i 0 c.args.codes.now c.requires.small (omega (arith, c.requires.count, c.requires.low))) in
    rw (to_z-of_z w64 p (fits p hp), to_z-of_z w64 f (fits f hf)) (difference_fits p f hp hf)

pub overflow_add-code : goal.overflow_add-code
overflow_add-code c =
    let p = c.other_number.result in
    let f = c.other_number-first.result in
    let hp : nat_abs p ≤ 2 ^ 45 = subst (λ (x : ℤ). nat_abs x ≤ 2 ^ 45) (sym c.other_number.ensures) (number_within (2 ^ 45) c.args.i c.loop-k.k c.args.codes.now c.requires.small (omega (arith, c.requires.count, c.loop-k-test.true))) in
    let hf : nat_abs f ≤ 2 ^ 45 = subst (λ (x : ℤ). nat_abs x ≤ 2 ^ 45) (sym c.other_number-first.ensures) (number_within (2 ^ 45) c.args.i 0 c.args.codes.now c.requires.small (omega (arith, c.requires.count, c.requires.low))) in
    let s = point_step (to_z w64 c.loop-k.code-bits) (p -ℤ f) c.loop-k.k (omega (arith, c.requires.high, c.loop-k-test.true)) c.loop-k.invariant.small (difference p f hp hf) in
    rw (to_z-of_z w64 p (fits p hp), to_z-of_z w64 f (fits f hf), to_z-of_z w64 _ s.multiple, to_z-of_z w64 _ s.addend) s.sum

pub loop-k-preserved : goal.loop-k-preserved
loop-k-preserved c =
    let xs : List ℤ = without c.args.i c.args.codes.now in
    let p = c.other_number.result in
    let f = c.other_number-first.result in
    let hp : nat_abs p ≤ 2 ^ 45 = subst (λ (x : ℤ). nat_abs x ≤ 2 ^ 45) (sym c.other_number.ensures) (number_within (2 ^ 45) c.args.i c.loop-k.k c.args.codes.now c.requires.small (omega (arith, c.requires.count, c.loop-k-test.true))) in
    let hf : nat_abs f ≤ 2 ^ 45 = subst (λ (x : ℤ). nat_abs x ≤ 2 ^ 45) (sym c.other_number-first.ensures) (number_within (2 ^ 45) c.args.i 0 c.args.codes.now c.requires.small (omega (arith, c.requires.count, c.requires.low))) in
    let s = point_step (to_z w64 c.loop-k.code-bits) (p -ℤ f) c.loop-k.k (omega (arith, c.requires.high, c.loop-k-test.true)) c.loop-k.invariant.small (difference p f hp hf) in
    let e : p -ℤ f ≡ get_or xs c.loop-k.k (pos 0) -ℤ get_or xs 0 (pos 0) = ap₂ (λ x y. x -ℤ y) c.other_number.ensures c.other_number-first.ensures in
    let l : c.loop-k.k < length xs = omega (arith, c.loop-k-test.true, c.requires.count, numbers_left c.args.i c.args.codes.now (omega (arith, c.requires.count, c.requires.place))) in
    rw (to_z-of_z w64 p (fits p hp), to_z-of_z w64 f (fits f hf), to_z-of_z w64 _ s.multiple, to_z-of_z w64 _ s.addend, to_z-of_z w64 _ s.sum)
    (record { so_far = next_point (to_z w64 c.loop-k.code-bits) (p -ℤ f) _ xs c.loop-k.k l e c.loop-k.invariant.so_far; small = s.small })

pub returns : goal.returns
returns c =
    let xs : List ℤ = without c.args.i c.args.codes.now in
    last_point (to_z w64 c.loop-k.code-bits) _ xs c.loop-k.k (omega (arith, c.loop-k-test.false, c.requires.count, numbers_left c.args.i c.args.codes.now (omega (arith, c.requires.count, c.requires.place)))) c.loop-k.invariant.so_far
