use Rattle.std.proofs.Common.{arith, ◌∙◌}
use Rattle.std.proofs.lemmas.List.{get_or_default}
use Rattle.lt_merge.proofs.OpenPlaces.{open_queued}
use Rattle.lt_merge.proofs.places.position_of.Goals as goal

pub unreachable-requires : goal.unreachable-requires
unreachable-requires c =
    let there = open_queued c.args.atlas.now c.keeps.ensures.kept.right.queue (c.args.entry, c.args.facet) c.requires in
    c.loop-position.invariant there.0 (omega (arith, there.1, c.loop-position-test.false, c.queued-position-end.ensures)) (get_or_default c.args.atlas.now.queue there.0 (0, 0) (c.args.entry, c.args.facet) there.1 ∙ there.2)
