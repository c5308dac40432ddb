use Rattle.std.proofs.Common.{◌≡◌, ◌<◌, ◌≤◌, ℕ, pos, get_or, arith, ◌*ℤ◌, rules, FitsSigned}
use Rattle.std.proofs.lemmas.Int.{to_z-of_z}
use Rattle.std.specs.Int.{w128}
use Rattle.lt_model.specs.Forms.{numbers_of_form}
use Rattle.lt_lattice.proofs.Lengths.{at_most_21}
use Rattle.lt_regulator.specs.Signed.{excess_at}
use Rattle.lt_regulator.proofs.Numbered.{place_below, place_more, no_multiple}
use Rattle.lt_regulator.proofs.excess.signs_agree.Goals as goal

room : (d k : ℕ) → d ≤ 6 → k < numbers_of_form d → k < 21
room d k h p = let e : numbers_of_form d ≤ 21 = at_most_21 d h in omega (arith, e, p)

pub offset_bounds-normal-k : goal.offset_bounds-normal-k
offset_bounds-normal-k c =
    let p : c.loop-j.j < c.args.d = c.loop-j-test.true in
    let k = room c.args.d c.loop-j.k c.requires.high (place_below c.args.d c.loop-i.i c.loop-j.j c.loop-j.k c.loop-j.invariant p) in
    omega (arith, k)

pub bounds-normal-k : goal.bounds-normal-k
bounds-normal-k c =
    let k = place_below c.args.d c.loop-i.i c.loop-j.j c.loop-j.k c.loop-j.invariant c.loop-j-test.true in
    omega (arith, k, c.requires.normal)

pub returns-then-not-same_sign : goal.returns-then-not-same_sign
returns-then-not-same_sign c = λ _ scale b is.
    let n = get_or c.args.normal.now c.loop-j.k (pos 0) in
    let x : FitsSigned w128 n = search rules in
    let y : FitsSigned w128 c.excess_at.result = search rules in
    let g : (factor : ℕ) → 0 < factor → excess_at c.loop-i.i c.loop-j.j c.args.s.now c.args.w.now scale b ≡ pos factor *ℤ n → ⊥ =
    rw (to_z-of_z w128 c.excess_at.result y, to_z-of_z w128 n x, c.excess_at.ensures scale b is) at c.same_sign.ensures c.if-not-same_sign.true
    in
    no_multiple c.args.d c.loop-i.i c.loop-j.j c.loop-j.k c.loop-j.invariant c.loop-j-test.true c.args.s.now c.args.w.now scale b c.args.normal.now c.requires.points c.requires.dimension g

pub overflow_add-k : goal.overflow_add-k
overflow_add-k c =
    let k = room c.args.d c.loop-j.k c.requires.high (place_below c.args.d c.loop-i.i c.loop-j.j c.loop-j.k c.loop-j.invariant c.loop-j-test.true) in
    omega (arith, k)

pub loop-j-preserved : goal.loop-j-preserved
loop-j-preserved c = place_more c.args.d c.loop-i.i c.loop-j.j c.loop-j.k c.loop-j.invariant c.loop-j-test.true
