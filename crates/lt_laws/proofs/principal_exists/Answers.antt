use Rattle.lt_laws.proofs.Listing as lists
use Rattle.lt_laws.proofs.principal_exists.Goals as goal

pub returns : goal.returns
returns c = lists.principal_exists
