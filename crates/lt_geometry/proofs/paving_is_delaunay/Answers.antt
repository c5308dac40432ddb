use Rattle.lt_geometry.proofs.LocalWalk.{delaunay_from_paving}
use Rattle.lt_geometry.proofs.paving_is_delaunay.Goals as goal

pub returns : goal.returns
returns c = delaunay_from_paving
