use Rattle.std.proofs.Common.{arith, ◌≡◌, ◌∙◌, ℕ, [], get_or, sym, subst, inl, inr}
use Rattle.std.proofs.lemmas.Bool.{false≢true, cases_lt}
use Rattle.lt_model.specs.Flat.{rows}
use Rattle.lt_match.specs.Images.{GoesInto}
use Rattle.lt_match.proofs.carrying.all_go.Goals as goal

pub returns-then-not-goes_into : goal.returns-then-not-goes_into
returns-then-not-goes_into c =
    let n = c.loop-n.n in
    let told = rw c.member.ensures at c.goes_into.ensures in (
      λ e. absurd (false≢true e),
      λ all. absurd (false≢true (sym c.if-not-goes_into.true ∙ told.1 (all n c.loop-n.auto.n (omega (arith, c.loop-n-test.true))))),
    )

pub loop-n-preserved : goal.loop-n-preserved
loop-n-preserved c =
    let d = c.args.d in
    let n = c.loop-n.n in
    let told = rw c.member.ensures at c.goes_into.ensures in
    let here : GoesInto d (rows d c.args.u.now) (get_or c.args.from.now n []) c.args.to.now = told.0 c.if-not-goes_into.false in
    λ m h k. elim (cases_lt m n) [
      | inl l ↦ c.loop-n.invariant m h l
      | inr g ↦ let e : n ≡ m = omega arith in subst (λ (i : ℕ). GoesInto d (rows d c.args.u.now) (get_or c.args.from.now i []) c.args.to.now) e here
    ]
