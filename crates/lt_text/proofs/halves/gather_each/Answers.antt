use Rattle.std.proofs.Common.{◌≡◌, ◌<◌, ◌∙◌, true, false, List, ℤ, [], length, sym, subst, arith}
use Rattle.std.proofs.lemmas.Result.{err_from_is_err_and}
use Rattle.lt_model.specs.Negatives.{comes_first}
use Rattle.lt_model.proofs.Filtered.{none_passes}
use Rattle.lt_text.specs.Gathered.{Gains}
use Rattle.lt_text.specs.Texts.{class_lines}
use Rattle.lt_text.proofs.Composed.{gathered_front}
use Rattle.lt_text.proofs.HalfTexts.{front_in_half, one_line_more}
use Rattle.lt_text.proofs.halves.gather_each.Goals.{then-comes_first+in_ok-gather, else-comes_first}
use Rattle.lt_text.proofs.halves.gather_each.Goals as goal

pub returns-in_err-gather-clause-bytes : goal.returns-in_err-gather-clause-bytes
returns-in_err-gather-clause-bytes g c =
    let t = c.args.triangulation.now in
    let p = err_from_is_err_and c.from_residual.result c.from_residual.ensures.1 in
    let lt : c.loop-i.i < length t = omega arith in
    let first : comes_first c.class-class.result.now ≡ true = sym c.comes_first.ensures ∙ c.if-comes_first.true in
    gathered_front _ _ _ _ _ _ _ p.1 (front_in_half t c.loop-i.i c.class-class.result.now lt c.class-class.ensures _ _ _ _ _ first c.loop-i.invariant.so_far c.in_err-gather.ensures.bytes.front)

pub loop-i-preserved : goal.loop-i-preserved
loop-i-preserved g c =
    let t = c.args.triangulation.now in
    let s = c.class-class.result.now in
    let i = c.loop-i.i in
    let lt : i < length t = omega arith in
    elim c.if-comes_first.branch [
      | then-comes_first+in_ok-gather w ↦
          let first : comes_first s ≡ true = sym c.comes_first.ensures ∙ w.if-comes_first.true in
          rw (w.block-is, w.out-is) (record {
            so_far = one_line_more t i s lt c.class-class.ensures _ _ _ _ _ _ first c.loop-i.invariant.so_far w.in_ok-gather.ensures.bytes.whole;
            later = omega (arith, c.loop-i.invariant.later, w.in_ok-gather.ensures.cause.later);
          })
      | else-comes_first w ↦
          let other : comes_first s ≡ false = sym c.comes_first.ensures ∙ w.if-comes_first.false in
          rw (w.block-is, w.out-is) (record {
            so_far = subst (λ (h : List (List (List ℤ))). Gains (g.K.Sink.held c.args.out.now) (g.K.Sink.held c.loop-i.out) c.args.block.now.held c.loop-i.block.held (class_lines h)) (sym (none_passes comes_first t i s [] lt c.class-class.ensures other)) c.loop-i.invariant.so_far;
            later = c.loop-i.invariant.later;
          })
    ]
