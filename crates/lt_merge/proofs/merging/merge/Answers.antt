use Rattle.std.proofs.Common.{arith, sym, subst, ◌≡◌, ◌<◌, ℕ, length, IfNone}
use Rattle.lt_model.specs.Atlases as model
use Rattle.lt_model.specs.Logs.{IsUnlikeAll}
use Rattle.lt_crew.specs.Settled.{IsNarrow}
use Rattle.lt_merge.specs.Merged.{IsMergedTo}
use Rattle.lt_merge.proofs.Advance.{merging_starts}
use Rattle.lt_merge.proofs.Covered.{still_same}
use Rattle.lt_merge.proofs.Placed.{entry_narrow}
use Rattle.lt_merge.proofs.merging.merge.Goals as goal

pub loop-k-init : goal.loop-k-init
loop-k-init c = merging_starts c.args.first c.args.second.now c.keeps.ensures.kept c.requires.unrun

pub first_known-requires : goal.first_known-requires
first_known-requires c =
    let a = c.loop-k.atlas in
    let t = c.args.second.now in
    let same = still_same c.args.first a t c.loop-k.invariant.begins c.requires.same in
    let here : c.loop-k.k < length t.entries = omega (arith, c.loop-k-test.true, c.entries-k-end.ensures) in
    subst (λ (z : model.Entry). IsNarrow a.dimension z.triangulation) (sym c.entry.ensures) (entry_narrow a t same c.keeps-2.ensures.low c.keeps-2.ensures.kept c.loop-k.k here)

pub take_over_entry-requires-clause-same : goal.take_over_entry-requires-clause-same
take_over_entry-requires-clause-same c = still_same c.args.first c.loop-k.atlas c.args.second.now c.loop-k.invariant.begins c.requires.same

pub mark_before-requires-clause-same : goal.mark_before-requires-clause-same
mark_before-requires-clause-same c = still_same c.args.first c.loop-k.atlas c.args.second.now c.loop-k.invariant.begins c.requires.same

pub mark_before-requires-clause-unlike : goal.mark_before-requires-clause-unlike
mark_before-requires-clause-unlike c =
    let a = c.loop-k.atlas in
    let none = subst (λ r. IfNone r (IsUnlikeAll a.dimension c.entry.result.now.triangulation a.entries)) c.in-None.is c.in_ok-place.ensures.none in
    subst (λ (z : model.Entry). IsUnlikeAll a.dimension z.triangulation a.entries) c.entry.ensures none

pub returns-in-None-clause-refused : goal.returns-in-None-clause-refused
returns-in-None-clause-refused c =
    let a = c.loop-k.atlas in
    let none = subst (λ r. IfNone r (IsUnlikeAll a.dimension c.entry.result.now.triangulation a.entries)) c.in-None.is c.in_ok-place.ensures.none in
    record {
      present = omega (arith, c.loop-k-test.true, c.entries-k-end.ensures);
      merged = c.loop-k.invariant;
      unlike = subst (λ (z : model.Entry). IsUnlikeAll a.dimension z.triangulation a.entries) c.entry.ensures none;
      mark = c.in_ok-mark-in-None.ensures.mark;
      no_cross = c.in_ok-mark-in-None.ensures.no_cross;
    }

pub returns-clause-merged : goal.returns-clause-merged
returns-clause-merged c =
    let whole : c.loop-k.k ≡ length c.args.second.now.entries = omega (arith, c.loop-k-test.false, c.loop-k.auto.k-end, c.entries-k-end.ensures) in
    subst (λ (n : ℕ). IsMergedTo c.args.first c.args.second.now (n, 0) c.loop-k.atlas) whole c.loop-k.invariant
