use Rattle.std.proofs.Common.{◌∙◌, sym, subst, arith, ◌+◌, ap, refl}
use Rattle.lt_flip.proofs.MadeClasses.{HasMadeBelow, one_more, none_more, all_made_there}
use Rattle.lt_flip.proofs.exchanges.push_exchanged.Goals.{then-is_positive_at+in_ok-push, else-is_positive_at}
use Rattle.lt_flip.proofs.exchanges.push_exchanged.Goals as goal

pub loop-k-preserved : goal.loop-k-preserved
loop-k-preserved c = elim c.if-is_positive_at.branch [
  | then-is_positive_at+in_ok-push w ↦ subst (λ l. HasMadeBelow c.args.d c.args.s.now c.args.w.now c.args.e.now.coefficients c.args.all.now.items (c.loop-k.k + 1) l) (sym (ap (λ v. v.items) w.all-is ∙ w.in_ok-push.ensures.items))
      (one_more c.args.d c.args.s.now c.args.w.now c.args.e.now.coefficients c.args.all.now.items c.loop-k.k c.loop-k.all.items w.exchanged_class.result (omega (arith, c.loop-k-test.true)) (w.if-is_positive_at.ensures.0 refl) w.exchanged_class.ensures c.loop-k.invariant)
  | else-is_positive_at w ↦ subst (λ l. HasMadeBelow c.args.d c.args.s.now c.args.w.now c.args.e.now.coefficients c.args.all.now.items (c.loop-k.k + 1) l) (sym (ap (λ v. v.items) w.all-is))
      (none_more c.args.d c.args.s.now c.args.w.now c.args.e.now.coefficients c.args.all.now.items c.loop-k.k c.loop-k.all.items (λ p. let e = w.if-is_positive_at.ensures.1 p in cc) c.loop-k.invariant)
]

pub returns : goal.returns
returns c = all_made_there c.args.d c.args.s.now c.args.w.now c.args.e.now.coefficients c.args.all.now.items c.loop-k.k c.loop-k.all.items (omega (arith, c.loop-k-test.false)) c.loop-k.invariant
