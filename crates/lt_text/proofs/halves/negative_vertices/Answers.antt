use Rattle.std.proofs.Common.{◌≡◌, ◌<◌, ◌-◌, ◌∙◌, ℤ, List, [], ◌∷◌, ◌++◌, length, get_or, ap, ap₂, subst, arith}
use Rattle.std.proofs.lemmas.List.{get_or_default}
use Rattle.lt_model.specs.Vectors.{minus}
use Rattle.lt_text.proofs.HalfTexts.{one_vertex_more}
use Rattle.lt_text.proofs.halves.negative_vertices.Goals as goal

pub loop-i-preserved : goal.loop-i-preserved
loop-i-preserved c =
    let s = c.args.class.now in
    let vs = c.vertices-vertices.result.now in
    let i = c.loop-i.i in
    let same : vs ≡ s = c.vertices-vertices.ensures in
    let before : i < length vs = omega (arith, c.loop-i-test.true) in
    let here = c.index-vertices-count.result in
    let there = c.index-vertices-count-in-loop-i.result in
    let last : here ≡ get_or s (length s - 1) [] = c.index-vertices-count.is ∙ get_or_default vs (length vs - 1) here [] (omega (arith, before)) ∙ ap (λ (l : List (List ℤ)). get_or l (length l - 1) []) same in
    let vertex : there ≡ get_or s (length s - 1 - i) [] = c.index-vertices-count-in-loop-i.is ∙ get_or_default vs (length vs - 1 - i) there [] (omega (arith, before)) ∙ ap (λ (l : List (List ℤ)). get_or l (length l - 1 - i) []) same in
    c.push.ensures.items ∙ ap (λ (l : List (List ℤ)). l ++ (c.in-Some.point ∷ [])) c.loop-i.invariant
    ∙ one_vertex_more s i (subst (λ (l : List (List ℤ)). i < length l) same before) c.in-Some.point (c.in-Some.ensures.value ∙ ap₂ minus last vertex)
