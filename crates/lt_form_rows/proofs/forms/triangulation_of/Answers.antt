use Rattle.std.proofs.Common.{subst, ℕ}
use Rattle.lt_model.specs.Triangulations.{IsDelaunay}
use Rattle.lt_triang.proofs.SomeForm.{delaunay_dimension}
use Rattle.lt_form_rows.proofs.forms.triangulation_of.Goals as goal

pub returns : goal.returns
returns _ c =
    let h = c.in-Ok.ensures.delaunay c.dimension-d.result c.dimension-d.ensures.value in
    subst (λ (n : ℕ). IsDelaunay n c.args.q.now c.in-Ok.found.triangulation) (delaunay_dimension c.dimension-d.result c.args.q.now c.in-Ok.found.triangulation h) h
