use Rattle.lt_core.proofs.Undo.{cut_push, cut_grow}
use Rattle.lt_core.proofs.recordings_keep_the_past.Goals as goal

pub returns : goal.returns
returns c = λ a p i o l. (λ m. cut_push a p m i o l, λ e. cut_grow a p e i o l)
