use Rattle.std.proofs.Common.{arith, ◌≡◌, ◌∙◌, ◌∷◌, ◌+◌, suc, ap, ℤ, List, add-one}
use Rattle.std.proofs.lemmas.List.{take_all}
use Rattle.std.specs.List.{remove}
use Rattle.lt_model.specs.Facets.{without}
use Rattle.lt_triang.proofs.Shifts.{remove_is}
use Rattle.lt_flip.proofs.exchanges.exchanged.Goals as goal

pub returns : goal.returns
returns c =
    let all = c.args.w.now ∷ c.args.s.now in
    let e : c.loop-point.all.items ≡ all =
    c.loop-point.invariant ∙ ap (λ (l : List (List ℤ)). c.args.w.now ∷ l) (take_all c.loop-point.point-index c.args.s.now (omega arith)) in
    let r : remove all (c.args.k + 1) ≡ without (suc c.args.k) all = rw add-one (remove_is all (suc c.args.k)) in
    c.remove-removed.ensures.items ∙ ap (λ (l : List (List ℤ)). remove l (c.args.k + 1)) e ∙ r
