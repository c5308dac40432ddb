use Rattle.std.proofs.Common.{rules, arith, ◌≡◌, ◌∙◌, ◌+◌, ◌<◌, ◌^◌, ◌+ℤ◌, ◌*ℤ◌, ℤ, pos, [], length, get_or, drop, nat_abs, FitsSigned, to_z}
use Rattle.std.specs.Int.{w128}
use Rattle.std.proofs.lemmas.Int.{ints, to_z-of_z}
use Rattle.lt_tableau.proofs.Sums.{lookup_is}
use Rattle.lt_tableau.proofs.Turned.{get_or_any}
use Rattle.lt_lp.specs.Checks.{term_sum}
use Rattle.lt_lp.proofs.Checked.{term_at, sum_step, sum_sizes}
use Rattle.lt_lp.proofs.checks.sum_at.Goals as goal

pub offset_bounds-normals-place : goal.offset_bounds-normals-place
offset_bounds-normals-place c =
    let b = (term_at 0 (length c.args.normals.now) c.args.k c.args.terms.now c.requires.terms c.loop-i.i (0, pos 0) c.loop-i-test.true).inside in
    search rules

pub offset_bounds-numbers-j : goal.offset_bounds-numbers-j
offset_bounds-numbers-j c =
    let t = term_at 0 (length c.args.normals.now) c.args.k c.args.terms.now c.requires.terms c.loop-i.i (0, pos 0) c.loop-i-test.true in
    let p = (get_or c.args.terms.now c.loop-i.i (0, pos 0)).0 in
    let e : c.numbers.result.now ≡ get_or c.args.normals.now p [] = c.numbers.ensures.value ∙ c.index-normals-place.is ∙ get_or_any c.args.normals.now p _ [] t.inside in
    let b : c.args.j < length c.numbers.result.now = rw e (c.requires.inside p t.inside) in
    search rules

pub bounds-normals-place : goal.bounds-normals-place
bounds-normals-place c = (term_at 0 (length c.args.normals.now) c.args.k c.args.terms.now c.requires.terms c.loop-i.i (0, pos 0) c.loop-i-test.true).inside

pub bounds-numbers-j : goal.bounds-numbers-j
bounds-numbers-j c =
    let t = term_at 0 (length c.args.normals.now) c.args.k c.args.terms.now c.requires.terms c.loop-i.i (0, pos 0) c.loop-i-test.true in
    let p = (get_or c.args.terms.now c.loop-i.i (0, pos 0)).0 in
    let e : c.numbers.result.now ≡ get_or c.args.normals.now p [] = c.numbers.ensures.value ∙ c.index-normals-place.is ∙ get_or_any c.args.normals.now p _ [] t.inside in
    rw e (c.requires.inside p t.inside)

pub overflow_mul-sum : goal.overflow_mul-sum
overflow_mul-sum c =
    let t = term_at 0 (length c.args.normals.now) c.args.k c.args.terms.now c.requires.terms c.loop-i.i (0, pos 0) c.loop-i-test.true in
    let p = (get_or c.args.terms.now c.loop-i.i (0, pos 0)).0 in
    let y = (get_or c.args.terms.now c.loop-i.i (0, pos 0)).1 in
    let e : c.numbers.result.now ≡ get_or c.args.normals.now p [] = c.numbers.ensures.value ∙ c.index-normals-place.is ∙ get_or_any c.args.normals.now p _ [] t.inside in
    let x = get_or (get_or c.args.normals.now p []) c.args.j (pos 0) in
    let b : nat_abs x < 2 ^ 56 = c.requires.small p [] t.inside c.args.j (pos 0) (c.requires.inside p t.inside) in
    let fx : FitsSigned w128 (get_or c.numbers.result.now c.args.j (pos 0)) = search rules in
    let fy : FitsSigned w128 y = search rules in
    let z = sum_sizes (to_z w128 c.loop-i.sum-bits) x y c.loop-i.i (omega (arith, c.requires.few)) c.loop-i.invariant.small b t.small in
    simp to_z-of_z (rw e z.product)

pub overflow_add-sum : goal.overflow_add-sum
overflow_add-sum c =
    let t = term_at 0 (length c.args.normals.now) c.args.k c.args.terms.now c.requires.terms c.loop-i.i (0, pos 0) c.loop-i-test.true in
    let p = (get_or c.args.terms.now c.loop-i.i (0, pos 0)).0 in
    let y = (get_or c.args.terms.now c.loop-i.i (0, pos 0)).1 in
    let e : c.numbers.result.now ≡ get_or c.args.normals.now p [] = c.numbers.ensures.value ∙ c.index-normals-place.is ∙ get_or_any c.args.normals.now p _ [] t.inside in
    let x = get_or (get_or c.args.normals.now p []) c.args.j (pos 0) in
    let b : nat_abs x < 2 ^ 56 = c.requires.small p [] t.inside c.args.j (pos 0) (c.requires.inside p t.inside) in
    let fx : FitsSigned w128 (get_or c.numbers.result.now c.args.j (pos 0)) = search rules in
    let fy : FitsSigned w128 y = search rules in
    let z = sum_sizes (to_z w128 c.loop-i.sum-bits) x y c.loop-i.i (omega (arith, c.requires.few)) c.loop-i.invariant.small b t.small in
    let q : FitsSigned w128 (get_or c.numbers.result.now c.args.j (pos 0) *ℤ y) = rw e z.product in
    simp to_z-of_z (rw e z.sum)

pub loop-i-preserved : goal.loop-i-preserved
loop-i-preserved c =
    let t = term_at 0 (length c.args.normals.now) c.args.k c.args.terms.now c.requires.terms c.loop-i.i (0, pos 0) c.loop-i-test.true in
    let p = (get_or c.args.terms.now c.loop-i.i (0, pos 0)).0 in
    let y = (get_or c.args.terms.now c.loop-i.i (0, pos 0)).1 in
    let s = to_z w128 c.loop-i.sum-bits in
    let e : c.numbers.result.now ≡ get_or c.args.normals.now p [] = c.numbers.ensures.value ∙ c.index-normals-place.is ∙ get_or_any c.args.normals.now p _ [] t.inside in
    let x = get_or (get_or c.args.normals.now p []) c.args.j (pos 0) in
    let b : nat_abs x < 2 ^ 56 = c.requires.small p [] t.inside c.args.j (pos 0) (c.requires.inside p t.inside) in
    let fx : FitsSigned w128 (get_or c.numbers.result.now c.args.j (pos 0)) = search rules in
    let fy : FitsSigned w128 y = search rules in
    let z = sum_sizes s x y c.loop-i.i (omega (arith, c.requires.few)) c.loop-i.invariant.small b t.small in
    let q : FitsSigned w128 (get_or c.numbers.result.now c.args.j (pos 0) *ℤ y) = rw e z.product in
    let r : FitsSigned w128 (s +ℤ get_or c.numbers.result.now c.args.j (pos 0) *ℤ y) = rw e z.sum in
    let u = sum_step c.args.normals.now c.args.j c.args.terms.now c.loop-i.i (0, pos 0) c.loop-i-test.true in
    let v = c.loop-i.invariant.value in
    record {
      value = simp to_z-of_z (rw e (moved s (x *ℤ y) (term_sum c.args.normals.now c.args.j (drop (c.loop-i.i + 1) c.args.terms.now)) (term_sum c.args.normals.now c.args.j c.args.terms.now) (rw (u, lookup_is (get_or c.args.normals.now p []) c.args.j) at v)));
      small = simp to_z-of_z (rw e z.small);
    }
  where
    moved : (s a r w : ℤ) → s +ℤ (a +ℤ r) ≡ w → (s +ℤ a) +ℤ r ≡ w
    moved s a r w e = omega (arith, ints)
