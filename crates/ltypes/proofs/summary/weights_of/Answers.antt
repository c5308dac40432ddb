use Rattle.std.proofs.Common.{arith, ◌≡◌, ◌<◌, ℤ, pos, sym, ◌∙◌, subst, ap, length, [], ◌∷◌, ◌++◌}
use Rattle.lt_model.specs.Atlases.{Entry, entry_at}
use Rattle.lt_core.specs.Marks.{entry_of}
use Rattle.lt_model.specs.Cones.{normals}
use Rattle.lt_model.specs.Walls.{IsAcross}
use Rattle.lt_tableau.specs.Errors.{AreOfDimension}
use Rattle.lt_regulator.proofs.Distinct.{regulator_lengths}
use Rattle.lt_core.proofs.Crossings.{across_laws}
use Rattle.lt_core.proofs.Reaching.{entry_form}
use Rattle.ltypes.specs.Summaries.{weight_of}
use Rattle.ltypes.proofs.Summed.{same_weight, next_weight}
use Rattle.ltypes.proofs.summary.weights_of.Goals as goal

pub loop-k-preserved : goal.loop-k-preserved
loop-k-preserved c =
    let a = c.args.atlas.now in
    let k = c.loop-k.k in
    let kept = c.keeps.ensures.kept in
    let here : k < length a.entries = omega arith in
    let e : Entry = entry_at a.entries k in
    let form = entry_form (IsAcross a.dimension) a.dimension (across_laws a.dimension c.keeps.ensures.low) a.entries a.marks kept.right.parts k here in
    let lengths : AreOfDimension a.dimension (normals e.cone.rows) = regulator_lengths a.dimension form.0 e.triangulation (normals e.cone.rows) form.1 (kept.right.parts.entries k here).cone.regulators in
    let at : AreOfDimension a.dimension (normals (entry_of c.entry.result.now).cone.rows) = subst (λ (x : Entry). AreOfDimension a.dimension (normals x.cone.rows)) (sym c.entry.ensures) lengths in
    let is : c.in_ok-weight_of_entry.field-0 ≡ pos (weight_of a.dimension e) = c.in_ok-weight_of_entry.ensures a.dimension at ∙ ap (λ (x : Entry). pos (weight_of a.dimension x)) c.entry.ensures in
    let same = same_weight a.dimension e c.in_ok-weight_of_entry.field-0 is in
    next_weight a c.loop-k.all.items c.push.new.self.items k c.in_ok-weight_of_entry.field-0 here c.loop-k.invariant (c.in_ok-push.ensures.items ∙ ap (λ (z : ℤ). c.loop-k.all.items ++ z ∷ []) same) is
