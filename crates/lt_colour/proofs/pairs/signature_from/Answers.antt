use Rattle.std.proofs.Common.{◌++◌, [], pos, sym, rules, get_or, add-one, FitsSigned, to_z, of_z, w64, arith, ◌≡◌, ◌∷◌, ◌∙◌, ap, length, take, drop, ℤ, List}
use Rattle.std.proofs.Math.Seq.{take-suc}
use Rattle.std.proofs.lemmas.Int.{to_z-of_z}
use Rattle.std.proofs.lemmas.List.{take_all, take_at, length-take-le}
use Rattle.std.proofs.lemmas.List.Sorted.{length_permutation}
use Rattle.std.specs.List.{refill}
use Rattle.std.specs.List.Sorted.{IsPermutation}
use Rattle.lt_model.specs.Facets.{number_at}
use Rattle.lt_colour.proofs.Numbers.{length-others}
use Rattle.lt_colour.proofs.pairs.signature_from.Goals as goal

-- what is left of the rest's vector once its slice is sorted
rest_is : (old new : List ℤ) → IsPermutation old new → refill (length old) old new ≡ new
rest_is old new p = take_at new (drop (length new) old) (length old) (length_permutation old new p)

pub push-requires-in-loop-number : goal.push-requires-in-loop-number
push-requires-in-loop-number c =
    let k = c.loop-number.number-index in
    let all = c.as_slice-number-items.result.now in
    let old = c.others-rest.result.items in
    let new = c.sort.new.numbers in
    let p : IsPermutation old new = rw c.as_mut_slice.ensures.value at c.sort.ensures.permutation in
    let l = length-others c.args.coefficients.now new old c.args.facet c.requires.place c.others-rest.ensures p in
    let e : length all ≡ length new = ap length (c.as_slice-number-items.ensures.value ∙ rest_is old new p) in
    let made = ap length c.loop-number.invariant in
    let some = length-take-le k all in
    (omega arith, omega (arith, l, e, made, some, c.loop-number-test.true, c.requires.few))

pub returns : goal.returns
returns c =
    let b = c.args.coefficients.now in
    let all = c.as_slice-number-items.result.now in
    let old = c.others-rest.result.items in
    let new = c.sort.new.numbers in
    let p : IsPermutation old new = rw c.as_mut_slice.ensures.value at c.sort.ensures.permutation in
    let e : take c.loop-number.number-index all ≡ new = take_all c.loop-number.number-index all c.loop-number-test.false ∙ c.as_slice-number-items.ensures.value ∙ rest_is old new p in
    record {
      others = new;
      in_order = record { permutation = rw c.others-rest.ensures at p; ascending = c.sort.ensures.ascending };
      is = (rw (to_z-of_z _ c.args.scale c.ranges.scale) at c.loop-number.invariant) ∙ ap (λ (l : List ℤ). c.args.scale ∷ number_at c.args.facet b ∷ l) e;
    }

pub loop-number-preserved : goal.loop-number-preserved
loop-number-preserved c =
    let k = c.loop-number.number-index in
    let all = c.as_slice-number-items.result.now in
    let x : FitsSigned w64 (get_or all k (pos 0)) = search rules in
    let h : c.push-in-loop-number.new.self.items ≡ c.loop-number.numbers.items ++ get_or all k (pos 0) ∷ [] = simp to_z-of_z at c.push-in-loop-number.ensures.items in
    h ∙ ap (λ (l : List ℤ). l ++ get_or all k (pos 0) ∷ []) c.loop-number.invariant ∙ ap (λ (l : List ℤ). to_z w64 (of_z w64 c.args.scale) ∷ number_at c.args.facet c.args.coefficients.now ∷ l) (sym (take-suc all k (pos 0) c.loop-number-test.true) ∙ ap (λ n. take n all) (sym (add-one k)))
