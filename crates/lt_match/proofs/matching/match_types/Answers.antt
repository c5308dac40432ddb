use Rattle.std.proofs.Common.{◌∙◌, ℕ, sym, subst}
use Rattle.lt_model.specs.Matrices.{AreEquivalent}
use Rattle.lt_triang.specs.Kept.{IsTriangulation}
use Rattle.lt_match.proofs.Tested.{dimension_is, same_dimension, tested_count}
use Rattle.lt_match.proofs.Firsts.{size_told, first_told}
use Rattle.lt_match.proofs.matching.match_types.Goals as goal

pub returns-then-len-clause-first : goal.returns-then-len-clause-first
returns-then-len-clause-first c =
    let d = c.dimension-d.result in
    let from = c.args.from.now in
    let to = c.args.to.now in
    let h : IsTriangulation d from = c.dimension-d.ensures in
    let k : IsTriangulation d to = same_dimension d c.dimension-same.result from to h c.dimension-same.ensures c.requires.same in
    let none : AreEquivalent d from to → ⊥ = λ (u, g). c.if-len.true (c.len.ensures ∙ tested_count d u from to h k g ∙ sym c.len-2.ensures) in
    subst (λ (n : ℕ). AreEquivalent n from to → ⊥) (sym (dimension_is d from h)) none

pub first_match-requires-clause-target : goal.first_match-requires-clause-target
first_match-requires-clause-target c = same_dimension c.dimension-d.result c.dimension-same.result c.args.from.now c.args.to.now c.dimension-d.ensures c.dimension-same.ensures c.requires.same

pub returns-clause-size : goal.returns-clause-size
returns-clause-size c = size_told c.dimension-d.result c.args.from.now c.first_match.result _ _ c.dimension-d.ensures c.first_match.ensures

pub returns-clause-first : goal.returns-clause-first
returns-clause-first c = first_told c.dimension-d.result c.args.from.now c.args.to.now c.first_match.result c.dimension-d.ensures c.first_match.ensures
