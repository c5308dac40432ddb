use Rattle.std.proofs.Common.{arith, ◌≡◌, refl, ◌∙◌, sym, ap, ◌+◌, ◌*◌, ◌^◌, ◌≤◌, ◌<◌, ◌+ℤ◌, ℕ, ℤ, pos, List, length, nat_abs, drop, get_or}
use Rattle.std.proofs.lemmas.Int.{ints}
use Rattle.lt_model.specs.Padded.{lookup}
use Rattle.lt_model.proofs.Opposite.{length-zeros}
use Rattle.lt_model.specs.Cones.{Row, wall, combination, sum_of_walls}
use Rattle.lt_lp.specs.Verdicts.{verdict_of}
use Rattle.lt_tableau.proofs.Turned.{taken}
use Rattle.lt_lp.proofs.Combined.{same_lists}
use Rattle.lt_lp.proofs.RowSums.{walls_long}
use Rattle.lt_lp.proofs.WallSums.{lookup_zeros, wall_step, none_step, no_more, below_from}
use Rattle.lt_lp.proofs.cone_forms.sum_of.Goals.{in-Wall, in-Combination}
use Rattle.lt_lp.proofs.cone_forms.sum_of.Goals as goal

pub loop-k-init : goal.loop-k-init
loop-k-init c = record {
  size = ap (length {A = ℤ}) c.zeros_of-sums.ensures ∙ length-zeros c.args.count;
  sums = λ q. rw (zero_at q) (plus_zero (lookup (sum_of_walls c.args.count c.args.rows.now) q));
  small = λ q. rw (zero_at q) (omega arith);
}
  where
    zero_at : (q : ℕ) → lookup c.zeros_of-sums.result.items q ≡ pos 0
    zero_at q = rw (c.zeros_of-sums.ensures) (lookup_zeros c.args.count q)

    plus_zero : (x : ℤ) → pos 0 +ℤ x ≡ x
    plus_zero x = omega (arith, ints)

pub loop-k-preserved : goal.loop-k-preserved
loop-k-preserved c =
    let rows = c.args.rows.now in
    let k = c.loop-k.k in
    let old = c.loop-k.sums.items in
    let new = c.match-row.sums.items in
    let v : (get_or rows k c.index-rows-k.result).verdict ≡ verdict_of c.row.inside.verdict = ap (λ (r : Row). r.verdict) (sym c.index-rows-k.is ∙ sym c.row.view_is) in
    elim c.match-row.branch [
      | in-Wall w ↦
          let e : new ≡ w.add.new.sums = ap (λ x. x.items) w.sums-is ∙ taken (length old) w.add.new.sums (drop (length w.add.new.sums) old) (w.add.ensures.length ∙ ap (length {A = ℤ}) w.as_mut_slice.ensures.value) in
          let f : (get_or rows k c.index-rows-k.result).verdict ≡ wall w.in-Wall.form = v ∙ ap verdict_of w.in-Wall.is in
          let s : (q : ℕ) → lookup new q ≡ lookup old q +ℤ lookup w.in-Wall.form q = λ q. ap (λ (xs : List ℤ). lookup xs q) e ∙ w.add.ensures.sums q ∙ rw (w.as_mut_slice.ensures.value, w.numbers.ensures.value) refl in
          record {
            size = ap (length {A = ℤ}) e ∙ w.add.ensures.length ∙ ap (length {A = ℤ}) w.as_mut_slice.ensures.value ∙ c.loop-k.invariant.size;
            sums = wall_step c.args.count rows k c.index-rows-k.result w.in-Wall.form (lookup old) (lookup new) c.loop-k-test.true f c.loop-k.invariant.sums s;
            small = λ q. rw e (w.add.ensures.small q);
          }
      | in-Combination w ↦
          let e : new ≡ old = ap (λ x. x.items) w.sums-is in
          let f : (get_or rows k c.index-rows-k.result).verdict ≡ combination w.in-Combination.scale w.in-Combination.terms.items = v ∙ ap verdict_of w.in-Combination.is in
          let s = none_step c.args.count rows k c.index-rows-k.result w.in-Combination.scale w.in-Combination.terms.items c.loop-k-test.true f in
          record {
            size = ap (length {A = ℤ}) e ∙ c.loop-k.invariant.size;
            sums = λ q. rw (e, ← s) (c.loop-k.invariant.sums q);
            small = λ q. rw e (more (nat_abs (lookup old q)) k (c.loop-k.invariant.small q));
          }
    ]
  where
    more : (n k : ℕ) → n ≤ k * 2 ^ 62 → n ≤ (k + 1) * 2 ^ 62
    more n k h = omega arith

pub returns-clause-value : goal.returns-clause-value
returns-clause-value c = same_lists c.loop-k.sums.items (sum_of_walls c.args.count c.args.rows.now) (c.loop-k.invariant.size ∙ sym (walls_long c.args.d c.args.count c.args.rows.now c.requires.count c.requires.walls)) (λ q l. minus_none (lookup c.loop-k.sums.items q) (lookup (sum_of_walls c.args.count (drop c.loop-k.k c.args.rows.now)) q) (lookup (sum_of_walls c.args.count c.args.rows.now) q) (no_more c.args.count c.args.rows.now c.loop-k.k q c.loop-k-test.false) (c.loop-k.invariant.sums q))
  where
    minus_none : (x y z : ℤ) → y ≡ pos 0 → x +ℤ y ≡ z → x ≡ z
    minus_none x y z h k = omega (arith, ints)

pub returns-clause-below : goal.returns-clause-below
returns-clause-below c = below_from (2 ^ 92) c.loop-k.sums.items (λ q. small (nat_abs (lookup c.loop-k.sums.items q)) c.loop-k.k (c.loop-k.invariant.small q) (omega arith))
  where
    small : (n k : ℕ) → n ≤ k * 2 ^ 62 → k ≤ 2 ^ 29 → n < 2 ^ 92
    small n k h l = omega arith
