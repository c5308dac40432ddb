-- Excesses under translation and proportional expressions, as the laws state them.
use Rattle.std.proofs.Common.{sym, ◌∙◌, subst}
use Rattle.lt_model.specs.Simplices.{AllOfDimension}
use Rattle.lt_model.proofs.Excess.{excess-moved}
use Rattle.lt_model.proofs.Expressions.{one_expression}
use Rattle.lt_geometry.specs.FirstLaws.{ExcessesMoveAlong, ExpressionsAreProportional}
use Rattle.std.specs.Prelude.{ℕ, pos}
use Rattle.lt_model.proofs.Points.{weighted}

pub excess_moved_along : ExcessesMoveAlong
excess_moved_along d q vs x t c b all lx lt e =
    excess-moved q b vs x t c (subst (λ (n : ℕ). AllOfDimension n vs) (sym lt) all) (lx ∙ sym lt) e

pub proportional : ExpressionsAreProportional
proportional d vs x c c' b b' s h k = one_expression d vs (pos 1) x b b' c c' s (weighted vs x c b h) (weighted vs x c' b' k)
