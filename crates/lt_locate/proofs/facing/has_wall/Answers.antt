use Rattle.std.proofs.Common.{refl, false, subst}
use Rattle.lt_model.specs.Forms.{numbers_of_form}
use Rattle.lt_lp.specs.Alternatives.{HasWallForm, IsNoWall}
use Rattle.lt_lp.specs.declared.verdicts.Verdict.{Verdict}
use Rattle.lt_lp.specs.Verdicts.{verdict_of}
use Rattle.lt_locate.proofs.Walls.{untrue}
use Rattle.lt_locate.proofs.facing.has_wall.Goals as goal

pub returns-in-Ok-Combination : goal.returns-in-Ok-Combination
returns-in-Ok-Combination c = λ d a. (
  λ f. untrue false refl f,
  λ w.
      let none : HasWallForm (numbers_of_form d) c.args.normals.now c.args.k → ⊥ =
      subst (λ (v : Verdict). IsNoWall d c.args.normals.now c.args.k (verdict_of v)) c.in-Ok-Combination.field-0-is (c.in-Ok-Combination.ensures.alone d a)
      in
      absurd (none w),
)
