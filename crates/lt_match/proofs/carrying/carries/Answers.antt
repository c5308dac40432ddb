use Rattle.std.proofs.Common.{sym, subst, ◌∙◌, ℕ}
use Rattle.std.specs.Prelude.{IsTrue, ◌↔◌}
use Rattle.lt_model.specs.Flat.{rows}
use Rattle.lt_model.specs.Matrices.{Carries}
use Rattle.lt_match.proofs.Tested.{square_at, dimension_is}
use Rattle.lt_match.proofs.carrying.carries.Goals as goal

pub carries_classes-requires-clause-square : goal.carries_classes-requires-clause-square
carries_classes-requires-clause-square c = square_at c.dimension-d.result c.args.u.now c.args.from.now c.dimension-d.ensures c.requires.square

pub carries_classes-requires-clause-target : goal.carries_classes-requires-clause-target
carries_classes-requires-clause-target c = c.requires.same ∙ dimension_is c.dimension-d.result c.args.from.now c.dimension-d.ensures

pub returns : goal.returns
returns c =
    let d = c.dimension-d.result in
    let from = c.args.from.now in
    let told : IsTrue c.carries_classes.result ↔ Carries d (rows d c.args.u.now) from c.args.to.now = rw c.classes.ensures at c.carries_classes.ensures in
    subst (λ (n : ℕ). IsTrue c.carries_classes.result ↔ Carries n (rows n c.args.u.now) from c.args.to.now) (sym (dimension_is d from c.dimension-d.ensures)) told
