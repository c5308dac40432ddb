use Rattle.lt_geometry.proofs.ExchangeLaws.{made, all_made}
use Rattle.lt_geometry.proofs.made_from_exchanged.Goals as goal

pub returns : goal.returns
returns c = (made, all_made)
