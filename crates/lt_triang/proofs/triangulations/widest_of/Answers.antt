use Rattle.std.proofs.Common.{arith, [], ℤ, List, map, get_or, ap, ◌∙◌, sym, subst}
use Rattle.std.specs.List.{Contains}
use Rattle.std.proofs.lemmas.List.{length-map, get_or_default}
use Rattle.std.proofs.lemmas.List.Elements.{Contains-get_or}
use Rattle.lt_model.specs.Limits.{class_span}
use Rattle.lt_triang.proofs.Gaps.{widest_more, widest_all, get_or-map_at}
use Rattle.lt_triang.proofs.triangulations.widest_of.Goals as goal

pub span_of-requires : goal.span_of-requires
span_of-requires c =
    let m : Contains c.args.classes.now c.member.result.now =
    subst (λ (w : List (List ℤ)). Contains c.args.classes.now w) (sym c.member.ensures) (Contains-get_or c.args.classes.now c.loop-n.n [] c.loop-n-test.true) in
    let k = c.requires.classes c.member.result.now m in
    k.simplex.points

pub loop-n-preserved : goal.loop-n-preserved
loop-n-preserved c =
    let classes = c.args.classes.now in
    let here = c.span_of.ensures ∙ ap class_span c.member.ensures in
    let there = get_or-map_at class_span classes c.loop-n.n (get_or classes c.loop-n.n []) c.loop-n-test.true (get_or_default classes c.loop-n.n [] _ c.loop-n-test.true) in
    let more = widest_more (map class_span classes) c.loop-n.n c.loop-n.widest c.span_of.result _ (omega (arith, c.loop-n-test.true, length-map classes class_span)) (here ∙ there) c.loop-n.invariant in
    rw c.max-widest.ensures more

pub returns : goal.returns
returns c =
    let classes = c.args.classes.now in
    widest_all (map class_span classes) c.loop-n.n c.loop-n.widest _ (omega (arith, length-map classes class_span, c.loop-n-test.false)) c.loop-n.invariant
