use Rattle.std.proofs.Common.{◌≡◌, ◌<◌, arith, ap, sym, ◌∙◌, subst, length, get_or, ℕ}
use Rattle.lt_model.specs.Cones as model
use Rattle.lt_lp.proofs.FacetRows.{IsFacetRow, walls, walls_more, one_if, facet_row}
use Rattle.lt_lp.proofs.verdicts.Cone.facet.Goals as goal
use Rattle.lt_lp.proofs.verdicts.Cone.facet.Goals.{then-is_facet+else-left-eq0, else-is_facet}

pub returns-then-left-eq0 : goal.returns-then-left-eq0
returns-then-left-eq0 c =
    let v = ap (λ (z : model.Cone). z.rows) c.self.view_is in
    let h : c.loop-k.k < length c.args.self.now.rows = rw (sym v) (omega (arith, c.loop-k-test.true, c.len-k-end.ensures, c.self.inside.rows.ok.0)) in
    let e : c.index-row.result.now ≡ get_or c.args.self.now.rows c.loop-k.k c.index-row.result.now = rw (sym v) c.index-row.ensures in
    let i : walls c.loop-k.k c.args.self.now.rows ≡ c.args.i = omega (arith, c.loop-k.invariant, c.if-left-eq0.true) in
    let w = sym c.is_facet.ensures ∙ c.if-is_facet.true in
    let f : IsFacetRow c.args.self.now.rows c.index-row.result.now c.args.i = subst (λ (n : ℕ). IsFacetRow c.args.self.now.rows c.index-row.result.now n) i (facet_row c.args.self.now.rows c.loop-k.k c.index-row.result.now h e w) in
    record { row = f.row; normal = f.normal; wall = w }

pub loop-k-preserved : goal.loop-k-preserved
loop-k-preserved c =
    let v = ap (λ (z : model.Cone). z.rows) c.self.view_is in
    let h : c.loop-k.k < length c.args.self.now.rows = rw (sym v) (omega (arith, c.loop-k-test.true, c.len-k-end.ensures, c.self.inside.rows.ok.0)) in
    let e : c.index-row.result.now ≡ get_or c.args.self.now.rows c.loop-k.k c.index-row.result.now = rw (sym v) c.index-row.ensures in
    let m = walls_more c.args.self.now.rows c.loop-k.k c.index-row.result.now h e in
    let inv = c.loop-k.invariant in
    elim c.if-is_facet.branch [
      | then-is_facet+else-left-eq0 w ↦ (let o = ap one_if (sym c.is_facet.ensures ∙ w.if-is_facet.true) in let n = w.left-is in let z = w.if-left-eq0.false in omega (arith, m, o, inv, n, z))
      | else-is_facet w ↦ (let o = ap one_if (sym c.is_facet.ensures ∙ w.if-is_facet.false) in let n = w.left-is in omega (arith, m, o, inv, n))
    ]
