use Rattle.std.proofs.Common.{◌≡◌, ◌∷◌, take}
use Rattle.lt_model.specs.Cones.{coefficients}
use Rattle.lt_lp.proofs.combinations.with_scale.Given as goal

abbrev pub invariant-loop-i : goal.invariant-loop-i
invariant-loop-i l = l.numbers.items ≡ l.scale ∷ coefficients (take l.i l.terms)
