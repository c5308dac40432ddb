use Rattle.std.proofs.Common.{arith, ◌≡◌, ◌*◌, ◌-◌, ℕ, ℤ, List, length, leb, sym, ◌∙◌, inl, inr}
use Rattle.std.specs.Prelude.{IsTrue, ◌↔◌}
use Rattle.std.proofs.lemmas.Bool.{false≢true}
use Rattle.std.proofs.lemmas.Bool.Decides.{leb_tells}
use Rattle.lt_model.specs.Limits.{span_limit, class_span}
use Rattle.lt_triang.specs.Bounds.{AreNear}
use Rattle.lt_triang.proofs.Gaps.{near_from_class_span, class_span_from_near}
use Rattle.lt_triang.proofs.spans.are_near.Goals as goal

told : (m n : ℕ) (ps : List (List ℤ)) → n ≡ class_span ps → IsTrue (leb n m) ↔ AreNear m ps
told m n ps e =
    elim (leb_tells n m) [
      | inl (yes', h) ↦ ((λ t. near_from_class_span m ps (omega (arith, h, e))), (λ near. yes'))
      | inr (no', h) ↦ ((λ t. absurd (false≢true (sym no' ∙ t))), (λ near. let l = class_span_from_near m ps near in absurd (omega (arith, l, h, e))))
    ]

pub returns : goal.returns
returns c = rw c.span_limit.ensures.value (told (2 * span_limit (length c.args.points.now - 1)) c.span_of.result c.args.points.now c.span_of.ensures)
