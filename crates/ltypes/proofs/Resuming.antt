-- Where runs end, and that what they wrote can be resumed.
use Rattle.std.proofs.Common.{ℕ, ◌≤◌, length, sym, ap, ◌∙◌, subst}
use Rattle.lt_model.specs.Atlases.{Atlas, stuck}
use Rattle.lt_model.specs.Limits.{input_limit}
use Rattle.lt_model.specs.Logs.{IsKept}
use Rattle.lt_model.specs.Walls.{IsAcross}
use Rattle.lt_crew.proofs.Complete.{run_is_closed}
use Rattle.lt_read.specs.Laws.{IsOfRun}
use Rattle.lt_read.proofs.Resumed.{written_resumed}
use Rattle.lt_text.specs.Texts.{atlas_text}
use Rattle.ltypes.specs.Laws.{NarrowRunsFinish, RunsAreResumed}
use Rattle.ltypes.proofs.Started.{all_free, begins_free}

pub narrow_runs : NarrowRunsFinish
narrow_runs d workers steps resume source a here settled few meets =
    let run = here.run in
    let kept = subst (λ (z : ℕ). IsKept (IsAcross z) a) (sym run.dimension) run.kept in
    run_is_closed here.start a steps kept run.begins (all_free here.start.marks (begins_free d resume source here.start here.beginning)) settled few meets

pub resumed_runs : RunsAreResumed
resumed_runs d workers steps resume source a (low, high) here few short =
    let run = here.run in
    let same = sym run.dimension in
    let of_run : IsOfRun a = record {
      low = subst (λ (z : ℕ). 2 ≤ z) same low;
      high = subst (λ (z : ℕ). z ≤ 6) same high;
      kept = subst (λ (z : ℕ). IsKept (IsAcross z) a) same run.kept;
      began = ap (λ (z : Atlas). stuck z.marks) run.begins ∙ begins_free d resume source here.start here.beginning;
    } in
    written_resumed a of_run few (subst (λ (z : ℕ). length (atlas_text a) ≤ input_limit z) same short)
