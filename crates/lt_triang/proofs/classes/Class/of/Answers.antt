use Rattle.std.proofs.Common.{arith, ◌≡◌, ◌-◌, ◌*◌, length, ◌∙◌, sym, subst, refl}
use Rattle.lt_model.specs.Limits.{span_limit}
use Rattle.lt_model.specs.Vectors.{zeros, AreLinearlyIndependent}
use Rattle.lt_model.proofs.Opposite.{length-zeros}
use Rattle.lt_lattice.proofs.Coordinates.{zeros_within}
use Rattle.lt_solve.specs.Systems.{IsColumnDependency}
use Rattle.lt_triang.specs.Flat.{columns_of}
use Rattle.lt_triang.proofs.Steps.{of_count, of_independent, of_flat}
use Rattle.lt_triang.proofs.Signs.{leading_primitive}
use Rattle.lt_triang.proofs.classes.Class.of.Goals as goal

pub solve-requires-clause-same : goal.solve-requires-clause-same
solve-requires-clause-same c =
    let d = length c.args.points.now - 1 in
    let x : c.as_slice.result.now ≡ zeros d = c.as_slice.ensures.value ∙ c.widened.ensures ∙ c.coords.ensures.value ∙ c.origin-origin.ensures in
    rw (x, c.columns.ensures) (length-zeros d ∙ sym (of_count c.args.points.now))

pub solve-requires-clause-small : goal.solve-requires-clause-small
solve-requires-clause-small c =
    let d = length c.args.points.now - 1 in
    let x : c.as_slice.result.now ≡ zeros d = c.as_slice.ensures.value ∙ c.widened.ensures ∙ c.coords.ensures.value ∙ c.origin-origin.ensures in
    rw x (zeros_within (2 * span_limit (length c.columns.result)) d)

pub class_of-requires-clause-independent : goal.class_of-requires-clause-independent
class_of-requires-clause-independent c =
    let free : AreLinearlyIndependent (columns_of c.args.points.now) = subst AreLinearlyIndependent c.columns.ensures (c.in-Ok.ensures.independent refl) in
    of_independent (length c.args.points.now - 1) c.args.points.now (omega (arith, c.requires.low)) (omega (arith, c.requires.low)) c.requires.dimension free

pub flat_terms-requires-clause-some : goal.flat_terms-requires-clause-some
flat_terms-requires-clause-some c =
    let h : IsColumnDependency c.columns.result c.in-Err.found = c.in-Err.ensures.singular in
    rw (c.as_slice-in-Err.ensures.value, c.found.view_is) (leading_primitive c.in-Err.found h.primitive)

pub returns-in-Err-clause-flat : goal.returns-in-Err-clause-flat
returns-in-Err-clause-flat c =
    let h : IsColumnDependency (columns_of c.args.points.now) c.in-Err.found = rw c.columns.ensures at c.in-Err.ensures.singular in
    of_flat (length c.args.points.now - 1) c.args.points.now c.in-Err.found c.flat_terms.result.items (omega (arith, c.requires.low)) (omega (arith, c.requires.low)) c.requires.dimension h
    (rw (c.as_slice-in-Err.ensures.value, c.found.view_is) at c.flat_terms.ensures.either) c.flat_terms.ensures.sign
