use Rattle.lt_laws.proofs.CarriedNormals.{regulators_carried, facets_carried}
use Rattle.lt_laws.proofs.normals_are_carried.Goals as goal

pub returns : goal.returns
returns c = record { regulators = regulators_carried; facets = facets_carried }
