use Rattle.std.proofs.Common.{◌≡◌, ◌-◌, ◌++◌}
use Rattle.lt_lp.specs.Terms.{value_of, terms_from}
use Rattle.lt_lp.proofs.combinations.terms.Given as goal

abbrev pub invariant-loop-column : goal.invariant-loop-column
invariant-loop-column l = l.all.items ++ terms_from l.k (value_of l.t) l.column (l.columns - l.column) ≡ terms_from l.k (value_of l.t) 0 l.columns
