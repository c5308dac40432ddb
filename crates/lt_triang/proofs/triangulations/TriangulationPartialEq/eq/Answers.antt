use Rattle.std.proofs.Common.{◌≡◌, ◌∙◌}
use Rattle.std.specs.Prelude.{IsTrue, ◌↔◌}
use Rattle.std.proofs.lemmas.Slice.Eq.{slice_eq-Decides}
use Rattle.lt_triang.proofs.Carried.{same_class}
use Rattle.lt_triang.proofs.triangulations.TriangulationPartialEq.eq.Goals as goal

pub returns-clause-same : goal.returns-clause-same
returns-clause-same c =
    let mine : c.as_slice.result.now ≡ c.args.self.now = c.as_slice.ensures.value ∙ c.self.view_is in
    let theirs : c.as_slice-2.result.now ≡ c.args.other.now = c.as_slice-2.ensures.value ∙ c.other.view_is in
    let same : IsTrue c.eq.result ↔ (c.as_slice.result.now ≡ c.as_slice-2.result.now) = slice_eq-Decides same_class _ _ _ c.eq.ensures in
    rw (mine, theirs) at same
