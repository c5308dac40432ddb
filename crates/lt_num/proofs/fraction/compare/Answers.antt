use Rattle.std.proofs.Common.{rules, ◌≡◌, ◌<ℤ◌, ◌≤ℤ◌, ◌∙◌, sym, ap, ◌*ℤ◌, FitsSigned, pos, to_z, of_z, inl, inr, ◌⊎◌}
use Rattle.std.specs.Int.{w128, int_div_euclid, int_rem_euclid}
use Rattle.std.proofs.lemmas.Int.{to_z-of_z}
use Rattle.std.proofs.lemmas.Cmp.{int_ranked}
use Rattle.lt_num.proofs.Sums.{euclid_split, order_by_parts, same_parts, order_at_end, same_order}
use Rattle.lt_num.proofs.fraction.compare.Goals as goal
use Rattle.lt_num.proofs.fraction.compare.Goals.{then-loop-b-test+else-e-ne0, else-loop-b-test}

pub returns-then-first-second : goal.returns-then-first-second
returns-then-first-second c =
    let fa : FitsSigned w128 c.args.a = c.ranges.a in
    let fb : FitsSigned w128 c.args.b = c.ranges.b in
    let fc : FitsSigned w128 c.args.c = c.ranges.c in
    let fe : FitsSigned w128 c.args.e = c.ranges.e in
    let a = to_z w128 c.loop-b.a-bits in
    let b = to_z w128 c.loop-b.b-bits in
    let k = to_z w128 c.loop-b.c-bits in
    let e = to_z w128 c.loop-b.e-bits in
    let p : FitsSigned w128 c.div_euclid-first.result = search rules in
    let q : FitsSigned w128 c.div_euclid-second.result = search rules in
    let lb : pos 0 ≤ℤ b = c.loop-b.invariant.low_first in
    let le : pos 0 ≤ℤ e = c.loop-b.invariant.low_second in
    let hb : pos 0 <ℤ b = search rules in
    let he : pos 0 <ℤ e = search rules in
    let same = simp to_z-of_z at c.loop-b.invariant.same in
    let order = int_ranked c.div_euclid-first.result c.div_euclid-second.result c.cmp.result (simp to_z-of_z at c.cmp.ensures) in
    same_order c.cmp.result (a *ℤ e) (k *ℤ b) (c.args.a *ℤ c.args.e) (c.args.c *ℤ c.args.b) same
    (order_by_parts c.cmp.result a b k e (int_div_euclid a b) (int_div_euclid k e) (int_rem_euclid a b) (int_rem_euclid k e) hb he (euclid_split a b hb) (euclid_split k e he)
    (λ z. c.if-first-second.true (ap (of_z w128) (c.div_euclid-first.ensures ∙ z ∙ sym c.div_euclid-second.ensures)))
    (rw (← c.div_euclid-first.ensures, ← c.div_euclid-second.ensures) order))

pub loop-b-preserved : goal.loop-b-preserved
loop-b-preserved c =
    let fa : FitsSigned w128 c.args.a = c.ranges.a in
    let fb : FitsSigned w128 c.args.b = c.ranges.b in
    let fc : FitsSigned w128 c.args.c = c.ranges.c in
    let fe : FitsSigned w128 c.args.e = c.ranges.e in
    let a = to_z w128 c.loop-b.a-bits in
    let b = to_z w128 c.loop-b.b-bits in
    let k = to_z w128 c.loop-b.c-bits in
    let e = to_z w128 c.loop-b.e-bits in
    let p : FitsSigned w128 c.div_euclid-first.result = search rules in
    let q : FitsSigned w128 c.div_euclid-second.result = search rules in
    let r : FitsSigned w128 c.rem_euclid-first_rest.result = search rules in
    let s : FitsSigned w128 c.rem_euclid-second_rest.result = search rules in
    let lb : pos 0 ≤ℤ b = c.loop-b.invariant.low_first in
    let le : pos 0 ≤ℤ e = c.loop-b.invariant.low_second in
    let hb : pos 0 <ℤ b = search rules in
    let he : pos 0 <ℤ e = search rules in
    let same = simp to_z-of_z at c.loop-b.invariant.same in
    let first = euclid_split a b hb in
    let second = euclid_split k e he in
    let parts : int_div_euclid a b ≡ int_div_euclid k e = sym c.div_euclid-first.ensures ∙ sym (to_z-of_z w128 c.div_euclid-first.result p) ∙ ap (to_z w128) c.if-first-second.false ∙ to_z-of_z w128 c.div_euclid-second.result q ∙ c.div_euclid-second.ensures in
    simp to_z-of_z (rw (c.rem_euclid-first_rest.ensures.value, c.rem_euclid-second_rest.ensures.value) (record {
      same = same_parts a b k e (int_div_euclid a b) (int_div_euclid k e) (int_rem_euclid a b) (int_rem_euclid k e) first second parts ∙ same;
      low_first = second.low;
      low_second = first.low;
      finite = inr (he, hb);
    }))

pub returns : goal.returns
returns c =
    let fa : FitsSigned w128 c.args.a = c.ranges.a in
    let fb : FitsSigned w128 c.args.b = c.ranges.b in
    let fc : FitsSigned w128 c.args.c = c.ranges.c in
    let fe : FitsSigned w128 c.args.e = c.ranges.e in
    let a = to_z w128 c.loop-b.a-bits in
    let b = to_z w128 c.loop-b.b-bits in
    let k = to_z w128 c.loop-b.c-bits in
    let e = to_z w128 c.loop-b.e-bits in
    let same = simp to_z-of_z at c.loop-b.invariant.same in
    let ends : (b ≡ pos 0) ⊎ (e ≡ pos 0) = elim c.loop-b-test.branch [ then-loop-b-test+else-e-ne0 w ↦ inr (search rules) | else-loop-b-test w ↦ inl (search rules) ] in
    same_order c.cmp-2.result (a *ℤ e) (k *ℤ b) (c.args.a *ℤ c.args.e) (c.args.c *ℤ c.args.b) same
    (order_at_end c.cmp-2.result a b k e c.loop-b.invariant.low_first c.loop-b.invariant.low_second ends c.loop-b.invariant.finite (int_ranked e b c.cmp-2.result c.cmp-2.ensures))
