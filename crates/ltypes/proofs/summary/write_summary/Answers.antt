use Rattle.std.proofs.Common.{length, ◌++◌}
use Rattle.std.specs.Prelude.{codes}
use Rattle.std.proofs.lemmas.Result.{err_from_is_err_and}
use Rattle.lt_io.proofs.Compose.{wrote_front, wrote_then, front_of_more, appended_then, appended_then_front}
use Rattle.ltypes.specs.Summaries.{header, entry_summaries, totals}
use Rattle.ltypes.proofs.summary.write_summary.Goals as goal

pub returns-in_err-write_line-clause-bytes : goal.returns-in_err-write_line-clause-bytes
returns-in_err-write_line-clause-bytes g c =
    let a = c.args.atlas.now in
    let lines = entry_summaries a (length a.entries) in
    let p = err_from_is_err_and c.from_residual.result c.from_residual.ensures.1 in
    wrote_front _ _ _ _ _ p.1 (front_of_more _ _ (header ++ lines) (totals (codes "types") a) (front_of_more _ _ header lines c.in_err-write_line.ensures.bytes.front))

pub returns-in_err-write_entries-clause-bytes : goal.returns-in_err-write_entries-clause-bytes
returns-in_err-write_entries-clause-bytes g c =
    let a = c.args.atlas.now in
    let lines = entry_summaries a (length a.entries) in
    let p = err_from_is_err_and c.from_residual-in_err-write_entries.result c.from_residual-in_err-write_entries.ensures.1 in
    wrote_front _ _ _ _ _ p.1 (front_of_more _ _ (header ++ lines) (totals (codes "types") a) (appended_then_front _ _ _ header lines c.in_ok-write_line.ensures.bytes.whole c.in_err-write_entries.ensures.bytes.front))

pub returns-clause-bytes : goal.returns-clause-bytes
returns-clause-bytes g c =
    let a = c.args.atlas.now in
    let lines = entry_summaries a (length a.entries) in
    wrote_then _ _ _ _ (header ++ lines) (totals (codes "types") a) (appended_then _ _ _ header lines c.in_ok-write_line.ensures.bytes.whole c.in_ok-write_entries.ensures.bytes.whole) c.write_totals.ensures.bytes
