use Rattle.lt_read.proofs.Resumed.{start_free, read_free, atlases_resumed}
use Rattle.lt_read.proofs.laws.atlases_are_resumed.Goals as goal

pub returns : goal.returns
returns c = record { start = start_free; read = read_free; resumed = atlases_resumed }
