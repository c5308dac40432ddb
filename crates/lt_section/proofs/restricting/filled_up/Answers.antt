use Rattle.std.proofs.Common.{◌≡◌, ℕ, ◌∙◌, ◌^◌, ◌≤◌, ◌-◌, arith, sym, subst, ℤ, List, ◌++◌, length, ap}
use Rattle.std.specs.List.{All}
use Rattle.std.proofs.lemmas.List.{length-take-le}
use Rattle.lt_model.specs.Vectors.{zeros}
use Rattle.lt_model.specs.Forms.{numbers_of_form}
use Rattle.lt_lattice.specs.Ranges.{IsBelow}
use Rattle.lt_lattice.proofs.Lengths.{at_most_21}
use Rattle.lt_section.specs.Filled.{filled}
use Rattle.lt_section.proofs.Filling.{length-filled, filled_below, zero_more, zeros_room}
use Rattle.lt_section.proofs.restricting.filled_up.Goals.{After-as_slice}
use Rattle.lt_section.proofs.restricting.filled_up.Goals as goal

few : (d count : ℕ) → d ≤ 6 → count ≡ numbers_of_form d → count ≤ 21
few d count h e = let a = at_most_21 d h in omega (arith, a, e)

pub push-requires : goal.push-requires
push-requires c =
    let e : length c.loop-number.all.items ≡ c.loop-number.number-index = ap length c.loop-number.invariant ∙ length-take-le c.loop-number.number-index c.args.numbers.now c.loop-number.auto.number-index-end in
    let m = few c.args.d c.args.count c.requires.high c.requires.count in
    (omega arith, omega (arith, e, m, c.requires.few, c.loop-number-test.true))

pub push-requires-in-loop : goal.push-requires-in-loop
push-requires-in-loop c = (omega arith, zeros_room c.args.numbers.now c.loop.all.items c.loop.counter c.args.count c.loop.auto.counter c.loop-test.true (few c.args.d c.args.count c.requires.high c.requires.count) c.loop.invariant)

pub loop-preserved : goal.loop-preserved
loop-preserved c = zero_more c.args.numbers.now c.loop.all.items c.push-in-loop.new.self.items c.loop.counter c.loop.auto.counter c.loop.invariant c.push-in-loop.ensures.items

whole : (c : After-as_slice) → c.as_slice.result.now ≡ filled c.args.count c.args.numbers.now
whole c =
    let e : c.loop.counter ≡ c.args.count = omega (arith, c.loop-test.false, c.loop.auto.counter-end, c.requires.few) in
    c.as_slice.ensures.value ∙ c.loop.invariant ∙ ap (λ (n : ℕ). c.args.numbers.now ++ zeros (n - length c.args.numbers.now)) e

pub of-requires-clause-count : goal.of-requires-clause-count
of-requires-clause-count c = ap length (whole c) ∙ length-filled c.args.count c.args.numbers.now c.requires.few ∙ c.requires.count

pub of-requires-clause-below : goal.of-requires-clause-below
of-requires-clause-below c = subst (λ (x : List ℤ). All (IsBelow (2 ^ 80)) x) (sym (whole c)) (filled_below c.args.count c.args.numbers.now c.requires.below)
