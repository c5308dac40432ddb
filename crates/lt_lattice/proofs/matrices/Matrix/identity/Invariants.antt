use Rattle.std.proofs.Common.{◌≡◌, drop, ◌++◌, ◌+◌, get_or, []}
use Rattle.lt_model.specs.Matrices.{identity}
use Rattle.lt_model.specs.Flat.{flat}
use Rattle.lt_lattice.proofs.matrices.Matrix.identity.Given as goal

abbrev pub invariant-loop-i : goal.invariant-loop-i
invariant-loop-i l = l.numbers.items ++ flat (drop l.i (identity l.d)) ≡ flat (identity l.d)

abbrev pub invariant-loop-j : goal.invariant-loop-j
invariant-loop-j l =
    l.numbers.items ++ (drop l.j (get_or (identity l.d) l.i []) ++ flat (drop (l.i + 1) (identity l.d))) ≡ flat (identity l.d)
