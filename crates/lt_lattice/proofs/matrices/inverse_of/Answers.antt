use Rattle.std.proofs.Common.{◌≡◌, sym, ◌∙◌}
use Rattle.lt_lattice.proofs.Lengths.{same_side}
use Rattle.lt_lattice.proofs.matrices.inverse_of.Goals as goal

pub returns : goal.returns
returns c = λ d h.
    let e : c.dimension.result ≡ d = same_side c.dimension.result d (sym c.dimension.ensures.value ∙ h) in
    rw (e, c.numbers.ensures.value, c.numbers-2.ensures.value) at c.are_inverse.ensures
