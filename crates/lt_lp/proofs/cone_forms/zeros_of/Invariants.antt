use Rattle.std.proofs.Common.{◌≡◌}
use Rattle.lt_model.specs.Vectors.{zeros}
use Rattle.lt_lp.proofs.cone_forms.zeros_of.Given as goal

abbrev pub invariant-loop : goal.invariant-loop
invariant-loop l = l.all.items ≡ zeros l.counter
