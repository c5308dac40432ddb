use Rattle.std.proofs.Common.{rules, ◌≡◌, ◌∙◌, ◌++◌, ◌∷◌, [], ap, sym, add-one, take, pos, get_or, FitsSigned, ℤ, ℕ, List}
use Rattle.std.specs.Int.{w128}
use Rattle.std.proofs.Math.Seq.{take-suc}
use Rattle.std.proofs.lemmas.Int.{to_z-of_z}
use Rattle.lt_core.proofs.prints.Print.of.Goals as goal

pub loop-number-preserved : goal.loop-number-preserved
loop-number-preserved c =
    let k = c.loop-number.number-index in
    let all = c.args.numbers.now in
    let x : FitsSigned w128 (get_or all k (pos 0)) = search rules in
    let h : c.push_number.new.narrow.items ++ c.push_number.new.wide.items ≡ (c.loop-number.narrow.items ++ c.loop-number.wide.items) ++ get_or all k (pos 0) ∷ [] = simp to_z-of_z at c.in_ok-push_number.ensures in
    h ∙ ap (λ (l : List ℤ). l ++ get_or all k (pos 0) ∷ []) c.loop-number.invariant ∙ sym (take-suc all k (pos 0) c.loop-number-test.true) ∙ ap (λ (n : ℕ). take n all) (sym (add-one k))
