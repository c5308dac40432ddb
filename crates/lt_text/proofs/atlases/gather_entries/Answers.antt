use Rattle.std.proofs.Common.{◌<◌, length, arith, map}
use Rattle.std.proofs.lemmas.Result.{err_from_is_err_and}
use Rattle.lt_model.specs.Atlases.{no_entry}
use Rattle.lt_core.specs.Marks.{mark_of, entry_of}
use Rattle.lt_text.proofs.Composed.{gathered_front}
use Rattle.lt_text.proofs.EachEntry.{front_in_entries, one_entry_more}
use Rattle.lt_text.proofs.atlases.gather_entries.Goals as goal

pub returns-in_err-gather_entry-clause-bytes : goal.returns-in_err-gather_entry-clause-bytes
returns-in_err-gather_entry-clause-bytes g c =
    let p = err_from_is_err_and c.from_residual.result c.from_residual.ensures.1 in
    let lt : c.loop-k.k < length c.args.atlas.now.entries = omega arith in
    gathered_front _ _ _ _ _ _ _ p.1 (front_in_entries c.args.atlas.now.marks _ _ _ _ _ c.args.atlas.now.entries c.loop-k.k no_entry (entry_of c.entry.result.now) (map mark_of c.marks.result.now) lt c.entry.ensures c.marks.ensures c.loop-k.invariant.so_far c.in_err-gather_entry.ensures.bytes.front)

pub loop-k-preserved : goal.loop-k-preserved
loop-k-preserved g c =
    let lt : c.loop-k.k < length c.args.atlas.now.entries = omega arith in
    record {
      so_far = one_entry_more c.args.atlas.now.marks _ _ _ _ _ _ c.args.atlas.now.entries c.loop-k.k no_entry (entry_of c.entry.result.now) (map mark_of c.marks.result.now) lt c.entry.ensures c.marks.ensures c.loop-k.invariant.so_far c.in_ok-gather_entry.ensures.bytes.whole;
      later = omega (arith, c.loop-k.invariant.later, c.in_ok-gather_entry.ensures.cause.later);
    }
