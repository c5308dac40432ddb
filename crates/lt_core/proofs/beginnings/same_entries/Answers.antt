use Rattle.std.proofs.Common.{◌<◌, length, arith, sym, ◌∙◌}
use Rattle.std.proofs.lemmas.Bool.{false≢true}
use Rattle.lt_core.proofs.Standing.{other_entry}
use Rattle.lt_core.proofs.beginnings.same_entries.Goals as goal

pub returns-then-not-is_same : goal.returns-then-not-is_same
returns-then-not-is_same c =
    let here : c.loop-i.i < length c.args.entries.now = c.loop-i-test.true in
    let there : c.loop-i.i < length c.args.others.now = (let e = c.if-entries-others.false in omega arith) in (
      λ t. absurd (false≢true t),
      λ h. sym c.if-not-is_same.true ∙ c.is_same.ensures.1 (other_entry c.args.entries.now c.args.others.now c.loop-i.i c.index-entries-i.result c.index-others-i.result here there c.index-entries-i.is c.index-others-i.is h),
    )
