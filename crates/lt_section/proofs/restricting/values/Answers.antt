use Rattle.std.proofs.Common.{◌≡◌, ◌∙◌, ◌^◌, [], get_or, rules, ap}
use Rattle.std.proofs.lemmas.Int.{to_z-of_z}
use Rattle.std.proofs.lemmas.List.{get_or_default}
use Rattle.std.proofs.lemmas.List.Elements.{All-push}
use mir.Syntax.{w128}
use mir.Val.{to_z, of_z}
use Rattle.lt_model.specs.Vectors.{dot}
use Rattle.lt_lattice.specs.Ranges.{IsBelow}
use Rattle.lt_section.proofs.Restricted.{value_small, values_more}
use Rattle.lt_section.proofs.restricting.values.Goals as goal

pub loop-form-preserved : goal.loop-form-preserved
loop-form-preserved c =
    let n = c.args.normal.now in
    let fs = c.args.forms.now in
    let i = c.loop-form.form-index in
    let r : to_z w128 (of_z w128 c.pair.result) ≡ c.pair.result = to_z-of_z w128 c.pair.result (search rules) in
    let at : c.form-item.result ≡ get_or fs i [] = c.form-item.is ∙ get_or_default fs i c.form-item.result [] c.loop-form-test.true in
    let v : to_z w128 (of_z w128 c.pair.result) ≡ dot n (get_or fs i []) = r ∙ c.pair.ensures ∙ ap (dot n) at in
    record {
      so_far = values_more n fs c.loop-form.all.items c.push.new.self.items i (to_z w128 (of_z w128 c.pair.result)) c.loop-form-test.true v c.push.ensures.items c.loop-form.invariant.so_far;
      below = rw c.push.ensures.items (All-push (IsBelow (2 ^ 80)) c.loop-form.all.items (to_z w128 (of_z w128 c.pair.result)) c.loop-form.invariant.below (rw v (value_small n (get_or fs i []) c.requires.short c.requires.small (c.requires.within i [] c.loop-form-test.true))));
    }
