use Rattle.lt_geometry.proofs.ExchangeLaws.{exchanged_members}
use Rattle.lt_geometry.proofs.exchanged_are_members.Goals as goal

pub returns : goal.returns
returns c = exchanged_members
