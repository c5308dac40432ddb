use Rattle.std.proofs.Common.{◌≡◌, ◌∷◌, take}
use Rattle.lt_model.specs.Facets.{number_at}
use Rattle.lt_colour.proofs.pairs.signature_from.Given as goal

abbrev pub invariant-loop-number : goal.invariant-loop-number
invariant-loop-number l = l.numbers.items ≡ l.scale ∷ number_at l.facet l.coefficients ∷ take l.number-index l.number-items
