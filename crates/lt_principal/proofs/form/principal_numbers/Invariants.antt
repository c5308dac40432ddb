use Rattle.std.proofs.Common.{◌≡◌, ◌++◌, ◌-◌, ◌+◌}
use Rattle.lt_model.specs.Principal.{principal_rows}
use Rattle.lt_principal.proofs.Rows.{twos}
use Rattle.lt_principal.proofs.form.principal_numbers.Given as goal

abbrev pub invariant-loop-i : goal.invariant-loop-i
invariant-loop-i l = l.all.items ++ principal_rows l.d (l.d - l.i) ≡ principal_rows l.d l.d

abbrev pub invariant-loop-j : goal.invariant-loop-j
invariant-loop-j l = l.all.items ++ (twos (l.d - l._j) ++ principal_rows l.d (l.d - (l.i + 1))) ≡ principal_rows l.d l.d
