use Rattle.lt_laws.proofs.Listing as lists
use Rattle.lt_laws.proofs.principal_count.Goals as goal

pub returns : goal.returns
returns c = lists.principal_count
