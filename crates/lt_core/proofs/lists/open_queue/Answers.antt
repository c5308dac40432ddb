use Rattle.std.proofs.Common.{ap, ◌∙◌, sym, ◌++◌, arith, length, map, take}
use Rattle.lt_model.specs.RightAtlases.{open_in, open_places}
use Rattle.lt_core.specs.Marks.{mark_of, marks_of}
use Rattle.lt_core.proofs.Writes.{rows_more, row_few}
use Rattle.lt_core.proofs.lists.open_queue.Goals as goal

pub append_open-requires : goal.append_open-requires
append_open-requires c =
    let few = c.requires.few_facets c.loop-entry.entry c.loop-entry-test.true in
    let same = row_few c.args.marks.now c.loop-entry.entry c.index-marks-entry.result c.loop-entry-test.true c.index-marks-entry.is in
    let it = ap length c.deref.ensures.value in
    omega arith

pub loop-entry-preserved : goal.loop-entry-preserved
loop-entry-preserved c =
    c.in_ok-append_open.ensures
    ∙ ap (λ q. q ++ open_in c.loop-entry.entry 0 (map mark_of c.deref.result.now)) c.loop-entry.invariant
    ∙ ap (λ r. open_places 0 (marks_of (take c.loop-entry.entry c.args.marks.now)) ++ open_in c.loop-entry.entry 0 (map mark_of r)) c.deref.ensures.value
    ∙ sym (rows_more c.args.marks.now c.loop-entry.entry c.index-marks-entry.result c.loop-entry-test.true c.index-marks-entry.is)
