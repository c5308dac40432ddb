use Rattle.std.proofs.Common.{◌≡◌, ◌≤◌, ◌+◌, ◌*◌, ◌^◌, ◌-ℤ◌, ◌*ℤ◌, ℕ, ℤ, pos, List, ◌∷◌, nat_abs, length, get_or, [], arith, ap, ◌∙◌, refl, add-one, rules, FitsSigned}
use Rattle.std.proofs.lemmas.Int.{ints, to_z-of_z}
use mir.Syntax.{w64, w128}
use mir.Val.{SFits, to_z}
use Rattle.lt_regulator.specs.Signed.{product_at}
use Rattle.lt_regulator.proofs.Excesses.{any_default}
use Rattle.lt_regulator.proofs.Numbered.{left_more}
use Rattle.lt_regulator.proofs.excess.excess_at.Goals as goal

fits_64 : (x : ℤ) → nat_abs x ≤ 2 ^ 40 → SFits w64 x
fits_64 x h = omega (arith, ints)

fits : (x : ℤ) → nat_abs x ≤ 2 ^ 103 → SFits w128 x
fits x h = omega (arith, ints)

sum_fits : (m : ℕ) (x y : ℤ) → m ≤ 7 → nat_abs x ≤ (1 + m) * 2 ^ 103 → nat_abs y ≤ 2 ^ 103 → SFits w128 (x -ℤ y)
sum_fits m x y l h k = omega (arith, ints)

larger : (m : ℕ) (x y : ℤ) → nat_abs x ≤ (1 + m) * 2 ^ 103 → nat_abs y ≤ 2 ^ 103 → nat_abs (x -ℤ y) ≤ (1 + (m + 1)) * 2 ^ 103
larger m x y h k = omega (arith, ints)

-- the number behind the scale
behind : (numbers : List ℤ) (c : ℤ) (b : List ℤ) (m : ℕ) → numbers ≡ c ∷ b → get_or numbers (m + 1) (pos 0) ≡ get_or b m (pos 0)
behind numbers c b m e = ap (λ (l : List ℤ). get_or l (m + 1) (pos 0)) e ∙ rw (add-one m) refl

pub overflow_sub-sum : goal.overflow_sub-sum
overflow_sub-sum c =
    let t = c.term-sum-in-loop-m in
    let i : c.loop-m.m ≤ 7 = omega (arith, c.loop-m-test.true, c.requires.few) in
    rw (to_z-of_z w128 t.result (fits t.result t.ensures.small)) (sum_fits c.loop-m.m (to_z w128 c.loop-m.sum-bits) t.result i c.loop-m.invariant.small t.ensures.small)

pub loop-m-preserved : goal.loop-m-preserved
loop-m-preserved c =
    let t = c.term-sum-in-loop-m in
    let m = c.loop-m.m in
    let i : m ≤ 7 = omega (arith, c.loop-m-test.true, c.requires.few) in
    let s = c.args.s.now in
    let sum = to_z w128 c.loop-m.sum-bits in
    let v : c.index-s-m.result ≡ get_or s m [] = any_default s m c.index-s-m.result c.loop-m-test.true c.index-s-m.is in
    let p = c.product_at-in-loop-m in
    let n = get_or c.args.numbers.now (m + 1) (pos 0) in
    let own : FitsSigned w64 n = search rules in
    let f = sum_fits m sum t.result i c.loop-m.invariant.small t.ensures.small in
    let value : t.result ≡ get_or c.args.numbers.now (m + 1) (pos 0) *ℤ product_at c.args.i c.args.j (get_or s m []) =
    (rw (to_z-of_z w64 n own, to_z-of_z w64 p.result (fits_64 p.result p.ensures.small)) at t.ensures.value) ∙ ap (λ (z : ℤ). get_or c.args.numbers.now (m + 1) (pos 0) *ℤ z) (p.ensures.value ∙ ap (product_at c.args.i c.args.j) v) in
    rw (to_z-of_z w128 t.result (fits t.result t.ensures.small), to_z-of_z w128 (sum -ℤ t.result) f) (record {
      left = λ x b e.
          let count : length b ≡ length s = omega (arith, ap length e, c.requires.numbers) in
          left_more c.args.i c.args.j m s c.args.w.now x b sum t.result (c.loop-m.invariant.left x b e) c.loop-m-test.true count (value ∙ ap (λ (z : ℤ). z *ℤ product_at c.args.i c.args.j (get_or s m [])) (behind c.args.numbers.now x b m e));
      small = larger m sum t.result c.loop-m.invariant.small t.ensures.small;
    })
