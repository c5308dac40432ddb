use Rattle.std.proofs.Common.{◌≡◌, refl, ◌∙◌, sym, ap, subst, ◌^◌, ℤ, List, pos, length, drop}
use Rattle.lt_model.proofs.Squares.{length-scale}
use Rattle.lt_model.specs.Forms.{numbers_of_form}
use Rattle.lt_model.specs.Cones.{AreBelow, sum_of_walls}
use Rattle.lt_lp.specs.Reduced.{IsReduced}
use Rattle.lt_lp.proofs.RowSums.{walls_long}
use Rattle.lt_tableau.proofs.Turned.{taken}
use Rattle.lt_lp.proofs.cone_forms.form_of.Goals as goal

pub reduce-requires-clause-some : goal.reduce-requires-clause-some
reduce-requires-clause-some c =
    let v : c.as_mut_slice.result.now ≡ sum_of_walls (numbers_of_form c.args.d) c.args.rows.now = c.as_mut_slice.ensures.value ∙ c.sum_of-sums.ensures.value ∙ ap (λ n. sum_of_walls n c.args.rows.now) c.numbers_of.ensures.value in
    (c.requires.some.0, rw (v) c.requires.some.1)

same_length : (xs ys : List ℤ) → IsReduced xs ys → length ys ≡ length xs
same_length xs ys r = sym (length-scale (pos r.factor) ys) ∙ ap (length {A = ℤ}) (sym r.times)

pub of-requires-clause-count : goal.of-requires-clause-count
of-requires-clause-count c =
    let old = c.sum_of-sums.result.items in
    let new = c.reduce.new.numbers in
    let n : length new ≡ length old = same_length c.as_mut_slice.result.now new c.reduce.ensures.reduced ∙ ap (length {A = ℤ}) c.as_mut_slice.ensures.value in
    let f = taken (length old) new (drop (length new) old) n in
    ap (length {A = ℤ}) (c.as_slice.ensures.value ∙ f) ∙ n ∙ ap (length {A = ℤ}) c.sum_of-sums.ensures.value ∙ ap (λ n. length (sum_of_walls n c.args.rows.now)) c.numbers_of.ensures.value ∙ walls_long c.args.d (numbers_of_form c.args.d) c.args.rows.now refl c.requires.walls

pub of-requires-clause-below : goal.of-requires-clause-below
of-requires-clause-below c =
    let old = c.sum_of-sums.result.items in
    let new = c.reduce.new.numbers in
    let n : length new ≡ length old = same_length c.as_mut_slice.result.now new c.reduce.ensures.reduced ∙ ap (length {A = ℤ}) c.as_mut_slice.ensures.value in
    let f = taken (length old) new (drop (length new) old) n in
    subst (AreBelow (2 ^ 92)) (sym (c.as_slice.ensures.value ∙ f)) c.reduce.ensures.below

pub returns : goal.returns
returns c =
    let old = c.sum_of-sums.result.items in
    let new = c.reduce.new.numbers in
    let n : length new ≡ length old = same_length c.as_mut_slice.result.now new c.reduce.ensures.reduced ∙ ap (length {A = ℤ}) c.as_mut_slice.ensures.value in
    let f = taken (length old) new (drop (length new) old) n in
    let v : c.as_mut_slice.result.now ≡ sum_of_walls (numbers_of_form c.args.d) c.args.rows.now = c.as_mut_slice.ensures.value ∙ c.sum_of-sums.ensures.value ∙ ap (λ n. sum_of_walls n c.args.rows.now) c.numbers_of.ensures.value in
    subst (λ (xs : List ℤ). IsReduced xs c.of.result) v (subst (IsReduced c.as_mut_slice.result.now) (sym (c.of.ensures ∙ c.as_slice.ensures.value ∙ f)) c.reduce.ensures.reduced)
