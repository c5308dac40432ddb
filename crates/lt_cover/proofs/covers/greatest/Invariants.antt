use Rattle.lt_num.specs.Fractions.{IsReduced}
use Rattle.lt_triang.specs.Kept.{dimension_of}
use Rattle.lt_cover.proofs.Best.{IsBest}
use Rattle.lt_cover.proofs.covers.greatest.Given as goal

abbrev pub invariant-loop-class : goal.invariant-loop-class
invariant-loop-class l = record { best : IsBest (dimension_of l.t) l.q l.t l.class l.best.radius l.best.class; lowest : IsReduced l.best.radius }
