use Rattle.std.proofs.Common.{◌<◌, ◌∙◌, ap, arith, length}
use Rattle.lt_model.specs.Atlases.{Entry}
use Rattle.lt_crew.proofs.Standing.{next_shared}
use Rattle.lt_crew.proofs.crew.shared_copies.Goals as goal

pub loop-k-preserved : goal.loop-k-preserved
loop-k-preserved c =
    let es = c.args.atlas.now.entries in
    let l : c.loop-k.k < length es = omega (arith, c.loop-k-test.true, c.entries-k-end.ensures) in
    next_shared c.loop-k.all.items c.push.new.self.items es c.loop-k.k c.in_ok-shared.shared c.loop-k.invariant c.in_ok-push.ensures.items l (c.in_ok-shared.ensures ∙ ap (λ (z : Entry). z.triangulation) c.entry.ensures)
