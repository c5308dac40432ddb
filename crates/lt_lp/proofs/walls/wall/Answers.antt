use Rattle.std.proofs.Common.{arith, ◌≡◌, ◌∙◌, sym, ap, ◌+◌, ◌-◌, ℕ, ℤ, List, pos, neg_ℤ, length, drop}
use Rattle.std.proofs.lemmas.Int.{ints}
use Rattle.lt_model.specs.Padded.{lookup}
use Rattle.lt_model.proofs.Squares.{length-scale}
use Rattle.lt_tableau.specs.Table.{units_of}
use Rattle.lt_lp.specs.Rule.{gain_of, turned_gains}
use Rattle.lt_lp.proofs.Turned.{lookup-listed, length-listed}
use Rattle.lt_tableau.proofs.Turned.{taken}
use Rattle.lt_lp.proofs.walls.wall.Goals as goal

pub reduce-requires-clause-some : goal.reduce-requires-clause-some
reduce-requires-clause-some c =
    let t = c.args.t.now in
    let q = c.requires.some.0 in
    let xs = c.as_mut_slice.result.now in
    let v : xs ≡ turned_gains (t.rows - 1) t = c.as_mut_slice.ensures.value ∙ c.turned-numbers.ensures.value in
    let a : lookup xs q ≡ neg_ℤ (gain_of t (units_of t + q)) = ap (λ (ys : List ℤ). lookup ys q) v ∙ lookup-listed (t.rows - 1) (λ (q : ℕ). neg_ℤ (gain_of t (units_of t + q))) q c.requires.some.1 in
    (q, λ z. c.requires.some.2 (opposite (gain_of t (units_of t + q)) (sym a ∙ z)))
  where
    opposite : (x : ℤ) → neg_ℤ x ≡ pos 0 → x ≡ pos 0
    opposite x e = omega (arith, ints)

pub of-requires-clause-count : goal.of-requires-clause-count
of-requires-clause-count c =
    let t = c.args.t.now in
    let r = c.reduce.ensures.reduced in
    let v : c.as_mut_slice.result.now ≡ turned_gains (t.rows - 1) t = c.as_mut_slice.ensures.value ∙ c.turned-numbers.ensures.value in
    let l : length c.as_mut_slice.result.now ≡ t.rows - 1 = ap (length {A = ℤ}) v ∙ length-listed (t.rows - 1) (λ (q : ℕ). neg_ℤ (gain_of t (units_of t + q))) in
    let n : length c.reduce.new.numbers ≡ length c.as_mut_slice.result.now = sym (length-scale (pos r.factor) c.reduce.new.numbers) ∙ ap (length {A = ℤ}) (sym r.times) in
    let a : length c.as_mut_slice.result.now ≡ length c.turned-numbers.result.items = ap (length {A = ℤ}) c.as_mut_slice.ensures.value in
    let f = taken (length c.turned-numbers.result.items) c.reduce.new.numbers (drop (length c.reduce.new.numbers) c.turned-numbers.result.items) (n ∙ a) in
    let e : length c.as_slice.result.now ≡ length c.reduce.new.numbers = ap (length {A = ℤ}) (c.as_slice.ensures.value ∙ f) in
    let k = c.requires.rows in
    omega arith
