use Rattle.std.proofs.Common.{◌≡◌, ◌<◌, arith, ap, sym, ◌∙◌, length, get_or}
use Rattle.lt_model.specs.Cones as model
use Rattle.lt_lp.proofs.FacetRows.{walls_more, one_if}
use Rattle.lt_lp.proofs.verdicts.Cone.facets.Goals as goal
use Rattle.lt_lp.proofs.verdicts.Cone.facets.Goals.{then-is_facet, else-is_facet}

pub loop-i-preserved : goal.loop-i-preserved
loop-i-preserved c =
    let v = ap (λ (z : model.Cone). z.rows) c.self.view_is in
    let h : c.loop-i.i < length c.args.self.now.rows = rw (sym v) (omega (arith, c.loop-i-test.true, c.len-i-end.ensures, c.self.inside.rows.ok.0)) in
    let e : c.index.result.now ≡ get_or c.args.self.now.rows c.loop-i.i c.index.result.now = rw (sym v) c.index.ensures in
    let m = walls_more c.args.self.now.rows c.loop-i.i c.index.result.now h e in
    let inv = c.loop-i.invariant.counted in
    let few = c.loop-i.invariant.few in
    elim c.if-is_facet.branch [
      | then-is_facet w ↦ (let o = ap one_if (sym c.is_facet.ensures ∙ w.if-is_facet.true) in let n = w.count-is in record { counted = omega (arith, m, o, inv, n); few = omega (arith, few, n) })
      | else-is_facet w ↦ (let o = ap one_if (sym c.is_facet.ensures ∙ w.if-is_facet.false) in let n = w.count-is in record { counted = omega (arith, m, o, inv, n); few = omega (arith, few, n) })
    ]
