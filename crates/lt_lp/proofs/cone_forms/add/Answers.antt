use Rattle.std.proofs.Common.{rules, arith, ◌≡◌, refl, ◌*◌, ◌^◌, ◌≤◌, ◌<◌, ◌+ℤ◌, pos, nat_abs, slice_index_or, FitsSigned}
use Rattle.std.specs.Int.{w128}
use Rattle.std.proofs.lemmas.Int.{to_z-of_z}
use native.Mathlib.Decide.{dec_le}
use Rattle.lt_model.specs.Padded.{lookup}
use Rattle.lt_tableau.proofs.Sums.{lookup_is}
use Rattle.lt_tableau.proofs.Starts.{lookup_past}
use Rattle.lt_lp.proofs.WallSums.{add_step, sum_size, small_at}
use Rattle.lt_lp.proofs.cone_forms.add.Goals as goal

pub overflow_add-sums : goal.overflow_add-sums
overflow_add-sums c =
    let i = c.loop-i.i in
    let x = slice_index_or c.loop-i.sums i (pos 0) in
    let y = slice_index_or c.args.numbers.now i (pos 0) in
    let fx : FitsSigned w128 x = search rules in
    let fy : FitsSigned w128 y = search rules in
    let a : nat_abs x ≤ c.args.count * 2 ^ 62 = rw (← lookup_is c.loop-i.sums i, c.loop-i.invariant.rest i (omega arith)) (c.requires.small i) in
    let b : nat_abs y < 2 ^ 62 = rw (← lookup_is c.args.numbers.now i) (small_at c.args.numbers.now c.requires.below i) in
    simp to_z-of_z (sum_size x y c.args.count c.requires.few a b).fits

pub loop-i-preserved : goal.loop-i-preserved
loop-i-preserved c =
    let i = c.loop-i.i in
    let x = slice_index_or c.loop-i.sums i (pos 0) in
    let y = slice_index_or c.args.numbers.now i (pos 0) in
    let fx : FitsSigned w128 x = search rules in
    let fy : FitsSigned w128 y = search rules in
    let e : lookup c.loop-i.sums i ≡ x = lookup_is c.loop-i.sums i in
    let r : lookup c.loop-i.sums i ≡ lookup c.args.sums.now i = c.loop-i.invariant.rest i (omega arith) in
    let n : lookup c.args.numbers.now i ≡ y = lookup_is c.args.numbers.now i in
    let a : nat_abs x ≤ c.args.count * 2 ^ 62 = rw (← e, r) (c.requires.small i) in
    let b : nat_abs y < 2 ^ 62 = rw (← n) (small_at c.args.numbers.now c.requires.below i) in
    let fits = (sum_size x y c.args.count c.requires.few a b).fits in
    simp to_z-of_z (add_step c.args.sums.now c.loop-i.sums (lookup c.args.numbers.now) i (x +ℤ y) (omega arith) c.loop-i.invariant.size c.loop-i.invariant.done c.loop-i.invariant.rest (rw (← r, e, n) refl))

pub returns-clause-sums : goal.returns-clause-sums
returns-clause-sums c q = pick (dec_le c.loop-i.i q)
  where
    pick : Dec (c.loop-i.i ≤ q) → lookup c.loop-i.sums q ≡ lookup c.args.sums.now q +ℤ lookup c.args.numbers.now q
    pick (no l) = c.loop-i.invariant.done q (omega arith)
    pick (yes l) =
        let s = c.loop-i.invariant.size in
        let t = c.requires.same in
        let f = c.loop-i-test.false in
        rw (lookup_past c.loop-i.sums q (omega arith), lookup_past c.args.sums.now q (omega arith), lookup_past c.args.numbers.now q (omega arith)) refl

pub returns-clause-small : goal.returns-clause-small
returns-clause-small c q =
    let s = returns-clause-sums c q in
    rw (s) (sum_size (lookup c.args.sums.now q) (lookup c.args.numbers.now q) c.args.count c.requires.few (c.requires.small q) (small_at c.args.numbers.now c.requires.below q)).small
