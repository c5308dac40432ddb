use Rattle.std.proofs.Common.{◌≡◌, drop, ◌++◌, ◌+◌, get_or, []}
use Rattle.lt_model.specs.Matrices.{times}
use Rattle.lt_model.specs.Flat.{rows, flat}
use Rattle.lt_lattice.proofs.matrices.product.Given as goal

abbrev pub invariant-loop-i : goal.invariant-loop-i
invariant-loop-i l =
    l.all.items ++ flat (drop l.i (times (rows l.d l.u) (rows l.d l.v))) ≡ flat (times (rows l.d l.u) (rows l.d l.v))

abbrev pub invariant-loop-j : goal.invariant-loop-j
invariant-loop-j l =
    l.all.items ++ (drop l.j (get_or (times (rows l.d l.u) (rows l.d l.v)) l.i []) ++ flat (drop (l.i + 1) (times (rows l.d l.u) (rows l.d l.v))))
    ≡ flat (times (rows l.d l.u) (rows l.d l.v))
