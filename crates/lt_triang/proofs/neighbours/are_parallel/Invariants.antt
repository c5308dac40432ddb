use Rattle.std.proofs.Common.{◌≡◌, ◌<◌, ℕ, get_or, []}
use Rattle.lt_model.specs.Vectors.{minus}
use Rattle.lt_model.specs.Facets.{without}
use Rattle.lt_triang.proofs.neighbours.are_parallel.Given as goal

abbrev pub invariant-loop-k : goal.invariant-loop-k
invariant-loop-k l =
    (m : ℕ) → m < l.k →
    minus (get_or (without l.i l.s) m []) (get_or (without l.i l.s) 0 []) ≡ minus (get_or (without l.j l.next) m []) (get_or (without l.j l.next) 0 [])
