use Rattle.std.proofs.Common.{List, inl, refl, subst}
use Rattle.lt_io.specs.Bytes.{AppendsFront}
use Rattle.lt_section.specs.declared.answers.SectionRow.{SectionRow}
use Rattle.lt_triang.specs.Kept.{dimension_of}
use Rattle.ltypes.specs.Sections.{IsSectionText, IsTooHeavy, section_text}
use Rattle.ltypes.proofs.Located.{refused_answer}
use Rattle.ltypes.proofs.sections.write_cut.Goals as goal

pub returns-in-Err-cut : goal.returns-in-Err-cut
returns-in-Err-cut g c =
    let l = c.in-Ok.located in
    let fs = c.args.forms.now in
    refused_answer (IsSectionText fs) (IsTooHeavy fs) c.args.steps c.args.first.now (g.K.Sink.held c.args.out.now) (g.K.Sink.faults c.args.out.now) (dimension_of l.triangulation) l.crossed l.triangulation c.in-Err-cut.cause
    c.in-Ok.ensures.found c.in-Err-cut.ensures.why

pub returns : goal.returns
returns g c =
    let l = c.in-Ok.located in
    let rows = c.in-Ok-cut.section.rows.items in
    let e = c.in-Err-write_lines.ensures in
    let front = subst (λ (z : List SectionRow). AppendsFront (g.K.Sink.held c.args.out.now) (g.K.Sink.held c.write_lines.new.out) (section_text l.crossed z)) c.deref.ensures.value e.bytes.front in
    inl (e.cause.failed, (section_text l.crossed rows, (dimension_of l.triangulation, l.crossed, l.triangulation, c.in-Ok.ensures.found, (rows, c.in-Ok-cut.ensures.cut, refl)), front))
