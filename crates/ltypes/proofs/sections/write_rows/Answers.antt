use Rattle.std.proofs.Common.{subst}
use Rattle.std.proofs.lemmas.Result.{err_from_is_err_and}
use Rattle.lt_io.specs.Bytes.{AppendsFront}
use Rattle.lt_io.proofs.Compose.{wrote_front}
use Rattle.lt_lines.proofs.Parts.{front_of_pieces}
use Rattle.lt_section.specs.declared.answers.SectionRow.{SectionRow}
use Rattle.ltypes.specs.Sections.{section_row_line}
use Rattle.ltypes.proofs.sections.write_rows.Goals as goal

pub returns-in_err-write_row-clause-bytes : goal.returns-in_err-write_row-clause-bytes
returns-in_err-write_row-clause-bytes g c =
    let p = err_from_is_err_and c.from_residual.result c.from_residual.ensures.1 in
    let here = subst (λ (z : SectionRow). AppendsFront (g.K.Sink.held c.loop-row.out) (g.K.Sink.held c.write_row.new.out) (section_row_line z)) c.row-item.is c.in_err-write_row.ensures.bytes.front in
    wrote_front _ _ _ _ _ p.1 (front_of_pieces {X = SectionRow} section_row_line _ _ _ c.args.rows.now c.loop-row.row-index c.row-item.result c.loop-row-test.true c.loop-row.invariant.so_far here)
