use Rattle.std.proofs.Common.{◌∙◌, ap, take, length, []}
use Rattle.std.proofs.lemmas.List.{get_or_default}
use Rattle.lt_section.proofs.RowLists.{rows_more}
use Rattle.lt_section.proofs.verdicts.rows_of.Goals as goal

pub loop-k-preserved : goal.loop-k-preserved
loop-k-preserved c =
    let fs = c.args.forms.now in
    let ns = c.args.normals.now in
    let k = c.loop-k.k in
    let n = c.front.ensures ∙ ap (take (length fs)) (c.numbers.ensures.value ∙ c.index-normals-k.is ∙ get_or_default ns k c.index-normals-k.result [] c.loop-k-test.true) in
    rows_more fs ns c.args.points.now k c.loop-k.rows.items c.push.new.self.items (record { normal = c.front.result; verdict = c.in_ok-verdict.field-0 }) c.loop-k.invariant c.loop-k-test.true n c.in_ok-verdict.ensures c.in_ok-push.ensures.items
