use Rattle.std.proofs.Common.{rules, ◌≡◌, ◌∙◌, ◌∷◌, ◌-◌, [], ℤ, List, arith, subst, length, get_or, take, drop, pos, w64, FitsSigned}
use Rattle.std.proofs.lemmas.Int.{to_z-of_z}
use Rattle.std.proofs.lemmas.List.{take_all}
use Rattle.lt_model.specs.Simplices.{IsExpression}
use Rattle.lt_colour.specs.Signatures.{AreNumbersFrom}
use Rattle.lt_colour.proofs.pairs.short_signature.Goals as goal

-- what is behind the first number
behind : (c : ℤ) (b : List ℤ) → take (length (c ∷ b) - 1) (drop 1 (c ∷ b)) ≡ b
behind c b = take_all (length (c ∷ b) - 1) b (omega arith)

pub returns : goal.returns
returns c =
    let n = c.outer_numbers-numbers.ensures in
    let o = n.outer in
    let all = c.as_slice-all.result.now in
    let e : all ≡ n.scale ∷ n.coefficients = c.as_slice-all.ensures.value ∙ n.is in
    let x : FitsSigned w64 (get_or all 0 (pos 0)) = search rules in
    let f = rw (to_z-of_z w64 (get_or all 0 (pos 0)) x) at c.signature_from.ensures in
    let m : AreNumbersFrom c.args.facet n.scale (take (length (n.scale ∷ n.coefficients) - 1) (drop 1 (n.scale ∷ n.coefficients))) c.signature_from.result = rw e at f in
    record {
      next = o.next;
      shift = o.shift;
      outer = o.outer;
      neighbour = o.neighbour;
      c = n.scale;
      b = n.coefficients;
      expression = subst (λ (v : List ℤ). IsExpression (get_or c.args.t.now c.args.class []) v n.scale n.coefficients) o.vertex n.expression;
      primitive = n.primitive;
      numbers = subst (λ (l : List ℤ). AreNumbersFrom c.args.facet n.scale l c.signature_from.result) (behind n.scale n.coefficients) m;
    }
