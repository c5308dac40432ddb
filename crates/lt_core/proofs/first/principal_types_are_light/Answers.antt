use Rattle.lt_core.proofs.Light.{principal_is_light}
use Rattle.lt_core.proofs.first.principal_types_are_light.Goals as goal

pub returns : goal.returns
returns c = principal_is_light
