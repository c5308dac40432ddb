use Rattle.std.proofs.Common.{◌≡◌, take, drop}
use Rattle.lt_model.specs.Cones.{coefficients, places}
use Rattle.lt_lp.proofs.combinations.with_numbers.Given as goal

abbrev pub invariant-loop-i : goal.invariant-loop-i
invariant-loop-i l = record {
  places : places l.all.items ≡ places (take l.i l.terms);
  coefficients : coefficients l.all.items ≡ take l.i (drop 1 l.numbers);
}
