use Rattle.std.proofs.Common.{arith, add-one}
use Rattle.lt_model.specs.Atlases.{one_if_open}
use Rattle.lt_core.specs.Marks.{mark_of}
use Rattle.ltypes.proofs.Counts.{count_in_more}
use Rattle.ltypes.proofs.totals.undecided_in.Goals as goal

pub loop-mark-preserved : goal.loop-mark-preserved
loop-mark-preserved c =
    let i = c.loop-mark.mark-index in
    let more = count_in_more mark_of one_if_open c.args.marks.now i c.mark-item.result c.loop-mark-test.true c.mark-item.is in
    let one = c.openings-undecided.ensures.value in
    let so_far = c.loop-mark.invariant.value in
    let few = c.openings-undecided.ensures.within in
    let within = c.loop-mark.invariant.within in
    record {
      value = rw (add-one i) (omega (arith, more, one, so_far));
      within = omega (arith, few, within);
    }
