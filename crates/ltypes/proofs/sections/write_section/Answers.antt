use Rattle.std.proofs.Common.{ℤ, List, [], subst, ◌∙◌}
use Rattle.std.proofs.lemmas.List.{get_or_default}
use Rattle.ltypes.specs.Changes.{change}
use Rattle.ltypes.specs.Forms.{AnswersForm}
use Rattle.ltypes.specs.Sections.{IsSectionText, IsTooHeavy}
use Rattle.ltypes.proofs.sections.write_section.Goals as goal

pub returns : goal.returns
returns g c =
    let fs = c.args.forms.now in
    subst (λ (q : List ℤ). AnswersForm (IsSectionText fs) (IsTooHeavy fs) c.args.steps q (change (g.K.Sink.held c.args.out.now) (g.K.Sink.held c.write_cut.new.out) (g.K.Sink.faults c.args.out.now) (g.K.Sink.faults c.write_cut.new.out)) c.write_cut.result)
    (c.index-forms-0.is ∙ get_or_default {X = List ℤ} fs 0 c.index-forms-0.result [] c.requires.some) c.write_cut.ensures
