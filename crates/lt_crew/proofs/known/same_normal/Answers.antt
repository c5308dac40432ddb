use Rattle.std.proofs.Common.{◌∙◌, sym}
use Rattle.lt_lp.specs.Same.{numbers_decide}
use Rattle.lt_crew.proofs.known.same_normal.Goals as goal

pub returns : goal.returns
returns c = let d = numbers_decide c.args.normal.now c.args.other.now in ((λ h. d.0 (sym c.eq.ensures ∙ h)), (λ h. c.eq.ensures ∙ d.1 h))
