use Rattle.std.proofs.Common.{◌≡◌, ◌∙◌, [], get_or}
use Rattle.std.proofs.lemmas.List.{get_or_default}
use Rattle.lt_model.specs.Cones.{IsRightVerdict}
use Rattle.lt_lp.proofs.RowLists.{names_step, longer, each_step}
use Rattle.lt_lp.proofs.rows.rows_of.Goals as goal

pub loop-k-preserved : goal.loop-k-preserved
loop-k-preserved c =
    let k = c.loop-k.k in
    let ns = c.args.normals.now in
    let n : c.copy.result ≡ get_or ns k [] = c.copy.ensures ∙ c.index-normals-k.is ∙ get_or_default ns k c.index-normals-k.result [] c.loop-k-test.true in
    record {
      size = longer c.loop-k.rows.items c.push.new.self.items _ k c.in-Ok-push.ensures.items c.loop-k.invariant.size;
      names = names_step ns c.loop-k.rows.items c.push.new.self.items _ k c.loop-k-test.true c.in-Ok-push.ensures.items c.loop-k.invariant.names n;
      right = λ d a. each_step (λ j v. IsRightVerdict d ns j v) c.loop-k.rows.items c.push.new.self.items _ k c.in-Ok-push.ensures.items c.loop-k.invariant.size (c.loop-k.invariant.right d a) (c.in-Ok-decide_light.ensures.right d a);
    }
