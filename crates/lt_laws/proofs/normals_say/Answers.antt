use Rattle.lt_laws.proofs.Listing as lists
use Rattle.lt_laws.proofs.normals_say.Goals as goal

pub returns : goal.returns
returns c = lists.normals_say
