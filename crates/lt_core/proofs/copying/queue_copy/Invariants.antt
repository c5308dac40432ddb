use Rattle.std.proofs.Common.{◌≡◌, take}
use Rattle.lt_core.proofs.copying.queue_copy.Given as goal

abbrev pub invariant-loop-place : goal.invariant-loop-place
invariant-loop-place l = l.all.items ≡ take l.place-index l.queue
