use Rattle.std.proofs.Common.{◌∙◌, ap}
use Rattle.std.specs.List.{remove}
use Rattle.lt_triang.proofs.Shifts.{remove_is}
use Rattle.lt_triang.proofs.vertices.others.Goals as goal

pub returns : goal.returns
returns c = c.remove-removed.ensures.items ∙ ap (λ l. remove l c.args.i) c.copies-all.ensures ∙ remove_is c.args.points.now c.args.i
