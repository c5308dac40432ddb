use Rattle.std.proofs.Common.{◌≡◌, sym, ◌*ℤ◌, ◌<ℤ◌, pos, get_or, arith, rules, FitsSigned}
use Rattle.std.specs.Int.{w64, w128}
use Rattle.std.proofs.lemmas.Int.{ints, to_z-of_z}
use Rattle.lt_lp.proofs.Loops.{tied_more}
use Rattle.lt_lp.proofs.Leaves.{no_tie}
use Rattle.lt_lp.proofs.rule.is_before.Goals as goal

pub unreachable-requires : goal.unreachable-requires
unreachable-requires c =
    no_tie c.args.t.now c.args.column c.args.a c.args.b c.rows-rows.ensures.tableau c.requires.a_in c.requires.b_in c.requires.different c.requires.positive_b
    (λ m l. (let v = c.rows-rows.ensures.value in let o = c.loop-place-test.false in c.loop-place.invariant m (omega arith)))

pub returns-then-left-right-clause-yes : goal.returns-then-left-right-clause-yes
returns-then-left-right-clause-yes c = λ _.
    let x : FitsSigned w128 c.number.result = search rules in
    let y : FitsSigned w64 (get_or c.args.numbers.now c.args.b (pos 0)) = search rules in
    let z : FitsSigned w128 c.number-in-loop-place.result = search rules in
    let w : FitsSigned w64 (get_or c.args.numbers.now c.args.a (pos 0)) = search rules in
    let u : FitsSigned w128 c.product-left.result = search rules in
    let r : FitsSigned w128 c.product-right.result = search rules in
    let p : c.product-left.result ≡ c.number.result *ℤ get_or c.args.numbers.now c.args.b (pos 0) = simp to_z-of_z at c.product-left.ensures in
    let q : c.product-right.result ≡ c.number-in-loop-place.result *ℤ get_or c.args.numbers.now c.args.a (pos 0) = simp to_z-of_z at c.product-right.ensures in
    let k = simp to_z-of_z at c.if-left-right.true in
    let l : (c.number.result *ℤ get_or c.args.numbers.now c.args.b (pos 0)) <ℤ (c.number-in-loop-place.result *ℤ get_or c.args.numbers.now c.args.a (pos 0)) = omega (arith, ints) in
    let o = c.loop-place-test.true in
    let v = c.rows-rows.ensures.value in
    record {
      at = c.loop-place.place;
      at_in = omega arith;
      less = rw (c.number.ensures.value, c.requires.values c.args.b c.requires.b_in, c.number-in-loop-place.ensures.value, c.requires.values c.args.a c.requires.a_in) at l;
      before = c.loop-place.invariant;
    }

pub returns-then-right-left-clause-no : goal.returns-then-right-left-clause-no
returns-then-right-left-clause-no c = λ _.
    let x : FitsSigned w128 c.number.result = search rules in
    let y : FitsSigned w64 (get_or c.args.numbers.now c.args.b (pos 0)) = search rules in
    let z : FitsSigned w128 c.number-in-loop-place.result = search rules in
    let w : FitsSigned w64 (get_or c.args.numbers.now c.args.a (pos 0)) = search rules in
    let u : FitsSigned w128 c.product-left.result = search rules in
    let r : FitsSigned w128 c.product-right.result = search rules in
    let p : c.product-left.result ≡ c.number.result *ℤ get_or c.args.numbers.now c.args.b (pos 0) = simp to_z-of_z at c.product-left.ensures in
    let q : c.product-right.result ≡ c.number-in-loop-place.result *ℤ get_or c.args.numbers.now c.args.a (pos 0) = simp to_z-of_z at c.product-right.ensures in
    let k = simp to_z-of_z at c.if-right-left.true in
    let l : (c.number-in-loop-place.result *ℤ get_or c.args.numbers.now c.args.a (pos 0)) <ℤ (c.number.result *ℤ get_or c.args.numbers.now c.args.b (pos 0)) = omega (arith, ints) in
    let o = c.loop-place-test.true in
    let v = c.rows-rows.ensures.value in
    record {
      at = c.loop-place.place;
      at_in = omega arith;
      less = rw (c.number-in-loop-place.ensures.value, c.requires.values c.args.a c.requires.a_in, c.number.ensures.value, c.requires.values c.args.b c.requires.b_in) at l;
      before = λ m h. sym (c.loop-place.invariant m h);
    }

pub loop-place-preserved : goal.loop-place-preserved
loop-place-preserved c =
    let x : FitsSigned w128 c.number.result = search rules in
    let y : FitsSigned w64 (get_or c.args.numbers.now c.args.b (pos 0)) = search rules in
    let z : FitsSigned w128 c.number-in-loop-place.result = search rules in
    let w : FitsSigned w64 (get_or c.args.numbers.now c.args.a (pos 0)) = search rules in
    let u : FitsSigned w128 c.product-left.result = search rules in
    let r : FitsSigned w128 c.product-right.result = search rules in
    let p : c.product-left.result ≡ c.number.result *ℤ get_or c.args.numbers.now c.args.b (pos 0) = simp to_z-of_z at c.product-left.ensures in
    let q : c.product-right.result ≡ c.number-in-loop-place.result *ℤ get_or c.args.numbers.now c.args.a (pos 0) = simp to_z-of_z at c.product-right.ensures in
    let k = simp to_z-of_z at c.if-right-left.false in
    let j = simp to_z-of_z at c.if-left-right.false in
    let l : c.number.result *ℤ get_or c.args.numbers.now c.args.b (pos 0) ≡ c.number-in-loop-place.result *ℤ get_or c.args.numbers.now c.args.a (pos 0) = omega (arith, ints) in
    tied_more c.args.t.now c.args.column c.args.a c.args.b c.loop-place.place c.loop-place.invariant (rw (c.number.ensures.value, c.requires.values c.args.b c.requires.b_in, c.number-in-loop-place.ensures.value, c.requires.values c.args.a c.requires.a_in) at l)
