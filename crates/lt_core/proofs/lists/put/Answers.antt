use Rattle.std.proofs.Common.{◌<◌, length}
use Rattle.std.proofs.lemmas.List.{length-map}
use Rattle.lt_core.proofs.Writes.{put_marks}
use Rattle.lt_core.proofs.lists.put.Goals as goal

pub returns-clause-value : goal.returns-clause-value
returns-clause-value c =
    let h : c.args.entry < length c.args.marks.now.items = simp length-map at c.requires.entry_within in
    put_marks c.args.marks.now.items c.args.entry c.index_mut-row.result.now c.args.facet c.args.mark h c.index_mut-row.ensures.value
