use Rattle.std.proofs.Common.{arith, ◌≡◌, ◌≤◌, ◌^◌, ◌-ℤ◌, ℤ, get_or, nat_abs, ap, ◌∙◌, sym, pos, refl}
use Rattle.std.proofs.lemmas.Bool.{false≢true}
use Rattle.std.proofs.lemmas.Int.{ints, to_z-of_z}
use Rattle.std.proofs.lemmas.List.{take_more_same, take_all}
use mir.Val.{SFits, of_z, to_z}
use mir.Syntax.{w32}
use Rattle.lt_model.specs.Vectors.{minus}
use Rattle.lt_lattice.proofs.Coordinates.{cast_difference}
use Rattle.lt_lattice.proofs.Padded.{length-minus, get_or-minus}
use Rattle.lt_triang.proofs.neighbours.same_differences.Goals as goal

-- the difference that the code makes before it is cut to its width
plain : (x y : ℤ) → nat_abs x ≤ 2 ^ 20 → nat_abs y ≤ 2 ^ 20 → to_z w32 (of_z w32 x) -ℤ to_z w32 (of_z w32 y) ≡ x -ℤ y
plain x y hx hy = rw (to_z-of_z w32 x (fits x hx), to_z-of_z w32 y (fits y hy)) refl
  where
    fits : (x : ℤ) → nat_abs x ≤ 2 ^ 20 → SFits w32 x
    fits x h = omega (arith, ints)

pub loop-k-preserved : goal.loop-k-preserved
loop-k-preserved c =
    let a = c.args.a.now in
    let b = c.args.b.now in
    let p = c.args.c.now in
    let q = c.args.e.now in
    let k = c.loop-k.k in
    let lb = c.requires.same in
    let lp = c.requires.same_too in
    let lq = c.requires.same_three in
    let one = cast_difference (get_or a k (pos 0)) (get_or b k (pos 0)) (c.requires.first k (pos 0) (omega arith)) (c.requires.second k (pos 0) (omega (arith, lb))) in
    let other = cast_difference (get_or p k (pos 0)) (get_or q k (pos 0)) (c.requires.third k (pos 0) (omega (arith, lp))) (c.requires.fourth k (pos 0) (omega (arith, lq))) in
    let here : get_or a k (pos 0) -ℤ get_or b k (pos 0) ≡ get_or p k (pos 0) -ℤ get_or q k (pos 0) = sym one ∙ ap (to_z w32) c.if-a-k.false ∙ other in
    take_more_same (minus a b) (minus p q) k (pos 0) (omega (arith, length-minus a b (sym lb), c.loop-k-test.true)) (omega (arith, length-minus p q (lp ∙ sym lq), lp, c.loop-k-test.true))
    c.loop-k.invariant (get_or-minus k a b (sym lb) c.loop-k-test.true ∙ here ∙ sym (get_or-minus k p q (lp ∙ sym lq) (omega (arith, lp, c.loop-k-test.true))))

pub returns-then-a-k : goal.returns-then-a-k
returns-then-a-k c =
    let a = c.args.a.now in
    let b = c.args.b.now in
    let p = c.args.c.now in
    let q = c.args.e.now in
    let k = c.loop-k.k in
    let lb = c.requires.same in
    let lp = c.requires.same_too in
    let lq = c.requires.same_three in
    let one = plain (get_or a k (pos 0)) (get_or b k (pos 0)) (c.requires.first k (pos 0) (omega arith)) (c.requires.second k (pos 0) (omega (arith, lb))) in
    let other = plain (get_or p k (pos 0)) (get_or q k (pos 0)) (c.requires.third k (pos 0) (omega (arith, lp))) (c.requires.fourth k (pos 0) (omega (arith, lq))) in (
      (λ t. absurd (false≢true t)),
      (λ e.
          let here : get_or a k (pos 0) -ℤ get_or b k (pos 0) ≡ get_or p k (pos 0) -ℤ get_or q k (pos 0) =
          sym (get_or-minus k a b (sym lb) c.loop-k-test.true) ∙ ap (λ l. get_or l k (pos 0)) e ∙ get_or-minus k p q (lp ∙ sym lq) (omega (arith, lp, c.loop-k-test.true)) in
          absurd (c.if-a-k.true (ap (of_z w32) (one ∙ here ∙ sym other)))),
    )

pub returns : goal.returns
returns c =
    let a = c.args.a.now in
    let n = c.loop-k.k in
    let left = take_all n (minus a c.args.b.now) (omega (arith, length-minus a c.args.b.now (sym c.requires.same), c.loop-k-test.false)) in
    let right = take_all n (minus c.args.c.now c.args.e.now)
    (omega (arith, length-minus c.args.c.now c.args.e.now (c.requires.same_too ∙ sym c.requires.same_three), c.requires.same_too, c.loop-k-test.false)) in
    ((λ _. sym left ∙ c.loop-k.invariant ∙ right), (λ _. refl))
