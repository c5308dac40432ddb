use Rattle.std.proofs.Common.{◌≡◌}
use Rattle.std.specs.Prelude.{IsTrue, ◌↔◌}
use Rattle.std.proofs.lemmas.Bool.Decides.{Decides-int_eq}
use Rattle.std.proofs.lemmas.Slice.Eq.{slice_eq-Decides}
use Rattle.lt_lattice.proofs.points.PointPartialEq.eq.Goals as goal

pub returns-clause-same : goal.returns-clause-same
returns-clause-same c =
    let same : IsTrue c.eq.result ↔ (c.coords.result.now ≡ c.coords-2.result.now) = slice_eq-Decides Decides-int_eq _ _ _ c.eq.ensures in
    rw (c.coords.ensures.value, c.coords-2.ensures.value) at same
