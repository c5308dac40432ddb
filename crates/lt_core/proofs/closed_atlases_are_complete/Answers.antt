use Rattle.lt_model.specs.Walls.{IsAcross}
use Rattle.lt_core.proofs.Crossings.{across_laws}
use Rattle.lt_core.proofs.Reaching.{closed_atlas, right_atlas_reached}
use Rattle.lt_core.proofs.closed_atlases_are_complete.Goals as goal

pub returns : goal.returns
returns c = record {
  reached = λ a low right. right_atlas_reached (IsAcross a.dimension) a (across_laws a.dimension low) right;
  one = λ a low right. closed_atlas (IsAcross a.dimension) a (across_laws a.dimension low) right;
}
