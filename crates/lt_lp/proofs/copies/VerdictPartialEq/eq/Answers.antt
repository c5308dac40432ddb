use Rattle.std.proofs.Common.{◌≡◌, ◌∙◌, ap, sym, rules, to_z, SFits}
use Rattle.std.specs.Int.{w128}
use Rattle.std.specs.Cmp.{signed_Decides}
use Rattle.std.specs.Cmp.Lexicographic.{pointwise}
use Rattle.std.specs.Ordering.{int_eq}
use Rattle.std.proofs.lemmas.Int.{to_z-of_z}
use Rattle.lt_model.specs.Cones.{wall, combination}
use Rattle.lt_lp.specs.Same.{same_term, verdict_decides, second_decides}
use Rattle.lt_lp.proofs.copies.VerdictPartialEq.eq.Goals as goal

pub returns-in-Wall-other-clause-same : goal.returns-in-Wall-other-clause-same
returns-in-Wall-other-clause-same c =
    let d = verdict_decides (wall c.in-Wall.form) (wall c.in-Wall-other.theirs) in
    rw (c.in-Wall.is, c.in-Wall-other.is, c.eq.ensures) d

pub returns-then-scale-theirs-clause-same : goal.returns-then-scale-theirs-clause-same
returns-then-scale-theirs-clause-same c =
    let a = c.in-Combination.scale in
    let b = c.in-Combination-other-2.theirs in
    let ss = c.in-Combination.terms.items in
    let ts = c.in-Combination-other-2.others.items in
    let fits : SFits w128 a = search rules in
    let fits_too : SFits w128 b = search rules in
    let same : a ≡ b = sym (to_z-of_z w128 a fits) ∙ ap (to_z w128) c.if-scale-theirs.true ∙ to_z-of_z w128 b fits_too in
    let d = second_decides (int_eq a b) (pointwise same_term ss ts) (verdict_decides (combination a ss) (combination b ts)) (int_eq a b) c.eq-then-scale-theirs.result (λ i. int_eq a b) ((signed_Decides a b).1 same) c.eq-then-scale-theirs.ensures in
    rw (c.in-Combination.is, c.in-Combination-other-2.is) d
