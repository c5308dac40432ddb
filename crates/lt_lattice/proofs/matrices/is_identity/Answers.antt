use Rattle.std.proofs.Common.{◌≡◌, ◌∙◌}
use Rattle.std.specs.Prelude.{IsTrue, ◌↔◌}
use Rattle.std.proofs.lemmas.Bool.Decides.{Decides-int_eq}
use Rattle.std.proofs.lemmas.Slice.Eq.{slice_eq-Decides}
use Rattle.lt_model.specs.Matrices.{identity}
use Rattle.lt_model.specs.Flat.{flat}
use Rattle.lt_lattice.proofs.matrices.is_identity.Goals as goal

pub returns : goal.returns
returns c =
    let same : c.numbers.result.now ≡ flat (identity c.args.d) = c.numbers.ensures.value ∙ c.identity.ensures in
    let decides : IsTrue c.eq.result ↔ (c.args.numbers.now ≡ c.numbers.result.now) = slice_eq-Decides Decides-int_eq _ _ _ c.eq.ensures in
    rw same at decides
