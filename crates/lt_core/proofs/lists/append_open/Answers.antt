use Rattle.std.proofs.Common.{ap, ◌∙◌}
use Rattle.lt_core.proofs.Writes.{open_pushed, open_passed}
use Rattle.lt_core.proofs.lists.append_open.Goals as goal
use Rattle.lt_core.proofs.lists.append_open.Goals.{then-is_open+in_ok-push, else-is_open}

pub loop-facet-preserved : goal.loop-facet-preserved
loop-facet-preserved c =
    elim c.if-is_open.branch [
      | then-is_open+in_ok-push w ↦ open_pushed _ _ _ _ _ _ c.index-row-facet.result c.loop-facet-test.true c.index-row-facet.is c.loop-facet.invariant (c.is_open.ensures.0 w.if-is_open.true) (ap (λ v. v.items) w.queue-is ∙ w.in_ok-push.ensures.items)
      | else-is_open w ↦ ap (λ v. v.items) w.queue-is ∙ open_passed _ _ _ _ _ c.index-row-facet.result c.loop-facet-test.true c.index-row-facet.is c.loop-facet.invariant (λ e. let t = c.is_open.ensures.1 e in let f = w.if-is_open.false in cc (t, f))
    ]
