use Rattle.std.proofs.Common.{◌≡◌, ◌∙◌, ap, ◌∷◌, []}
use Rattle.lt_model.specs.Vectors.{zeros}
use Rattle.lt_model.proofs.Opposite.{length-zeros}
use Rattle.lt_principal.specs.Paths.{points_of, ways, before_each}
use Rattle.lt_principal.proofs.Ascending.{ways_are_principal}
use Rattle.lt_principal.proofs.classes.principal_points.Goals as goal

pub push_paths-requires-clause-dimension : goal.push_paths-requires-clause-dimension
push_paths-requires-clause-dimension c =
    let e : c.as_slice.result.now ≡ zeros c.args.d ∷ [] = c.as_slice.ensures.value ∙ c.with_last-start.ensures ∙ ap (λ x. x ∷ []) c.origin.ensures in
    rw (e, c.from.ensures) (length-zeros c.args.d, tt)

pub returns : goal.returns
returns c =
    let e : c.as_slice.result.now ≡ zeros c.args.d ∷ [] = c.as_slice.ensures.value ∙ c.with_last-start.ensures ∙ ap (λ x. x ∷ []) c.origin.ensures in
    let f : points_of c.push_paths.new.out.items ≡ before_each (zeros c.args.d ∷ []) (ways c.args.d c.args.d (zeros c.args.d)) =
    rw (c.new-classes.ensures.items, e, c.from.ensures, c.from-2.ensures) at c.in_ok-push_paths.ensures
    in
    rw f (ways_are_principal c.args.d)
