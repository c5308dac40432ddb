use Rattle.std.proofs.Common.{◌≡◌, refl, sym, subst, ℕ, ℤ, List, length}
use Rattle.lt_model.specs.Forms.{numbers_of_form}
use Rattle.lt_laws.proofs.Halves.{length-minus}
use Rattle.lt_cover.proofs.columns.gap.Goals as goal

pub value-requires-clause-same : goal.value-requires-clause-same
value-requires-clause-same c =
    let q = c.args.q.now in
    let x = c.args.x.now in
    subst (λ (z : List ℤ). length q ≡ numbers_of_form (length z)) (sym c.in-Some.ensures.value) (subst (λ (n : ℕ). length q ≡ numbers_of_form n) (sym (length-minus (length x) x c.args.y.now refl (sym c.requires.same))) c.requires.form)
