use Rattle.std.proofs.Common.{arith, ◌≡◌, ◌≤◌, ◌^◌, ℤ, pos, get_or, nat_abs, ◌∙◌, sym, subst}
use Rattle.std.proofs.lemmas.Int.{ints, to_z-of_z}
use mir.Val.{SFits, to_z}
use mir.Syntax.{w32, w64}
use Rattle.lt_triang.proofs.Coded.{coordinate_step, coordinates_fit, next_coordinate}
use Rattle.lt_triang.proofs.codes.point_code.Goals as goal

fits : (x : ℤ) → nat_abs x ≤ 2 ^ 20 → SFits w32 x
fits x h = omega (arith, ints)

pub overflow_mul-code : goal.overflow_mul-code
overflow_mul-code c =
    let f = coordinates_fit c.loop-k.k (omega (arith, c.requires.few)) in
    omega (arith, ints, c.loop-k.invariant.small)

pub overflow_add-code : goal.overflow_add-code
overflow_add-code c =
    let y = get_or c.args.x.now c.loop-k.k (pos 0) in
    let hy = c.requires.small c.loop-k.k (pos 0) (omega arith) in
    let e : c.from.result ≡ y = c.from.ensures ∙ to_z-of_z w32 y (fits y hy) in
    let hx : nat_abs c.from.result ≤ 2 ^ 20 = subst (λ (n : ℤ). nat_abs n ≤ 2 ^ 20) (sym e) hy in
    let s = coordinate_step (to_z w64 c.loop-k.code-bits) c.from.result c.loop-k.k (omega (arith, c.requires.few)) c.loop-k.invariant.small hx in
    rw (to_z-of_z w64 _ s.multiple, to_z-of_z w64 _ s.addend) s.sum

pub loop-k-preserved : goal.loop-k-preserved
loop-k-preserved c =
    let y = get_or c.args.x.now c.loop-k.k (pos 0) in
    let hy = c.requires.small c.loop-k.k (pos 0) (omega arith) in
    let e : c.from.result ≡ y = c.from.ensures ∙ to_z-of_z w32 y (fits y hy) in
    let hx : nat_abs c.from.result ≤ 2 ^ 20 = subst (λ (n : ℤ). nat_abs n ≤ 2 ^ 20) (sym e) hy in
    let s = coordinate_step (to_z w64 c.loop-k.code-bits) c.from.result c.loop-k.k (omega (arith, c.requires.few)) c.loop-k.invariant.small hx in
    rw (to_z-of_z w64 _ s.multiple, to_z-of_z w64 _ s.addend, to_z-of_z w64 _ s.sum)
    (record { so_far = next_coordinate (to_z w64 c.loop-k.code-bits) c.from.result _ c.args.x.now c.loop-k.k (omega arith) e c.loop-k.invariant.so_far; small = s.small })

pub returns-clause-small : goal.returns-clause-small
returns-clause-small c =
    let f = coordinates_fit c.loop-k.k (omega (arith, c.requires.few)) in
    omega (arith, c.loop-k.invariant.small)
