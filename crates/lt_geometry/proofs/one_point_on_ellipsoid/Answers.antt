use Rattle.lt_geometry.proofs.LocalToGlobal.{one_on_ellipsoid}
use Rattle.lt_geometry.proofs.one_point_on_ellipsoid.Goals as goal

pub returns : goal.returns
returns c = one_on_ellipsoid
