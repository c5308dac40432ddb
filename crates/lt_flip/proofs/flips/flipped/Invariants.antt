use Rattle.lt_triang.specs.Kept.{dimension_of}
use Rattle.lt_flip.specs.Flipped.{AreParts}
use Rattle.lt_flip.proofs.flips.flipped.Given as goal

abbrev pub invariant-loop-class : goal.invariant-loop-class
invariant-loop-class l = AreParts (dimension_of l.t) l.t l.facet l.class l.kept.items l.made.items
