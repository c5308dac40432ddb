use Rattle.std.proofs.Common.{ℕ, ℤ, List, sym, subst}
use Rattle.lt_model.specs.Flat.{rows}
use Rattle.lt_model.specs.Matrices.{IsInverse, Carries}
use Rattle.lt_model.specs.Triangulations.{IsDelaunay}
use Rattle.lt_flip.proofs.Wide.{delaunay_dimension}
use Rattle.lt_rows.proofs.matching.image_by.Goals as goal

pub image-requires-clause-inverse : goal.image-requires-clause-inverse
image-requires-clause-inverse g c =
    let h : IsInverse 2 (rows 2 c.args.u.now) (rows 2 c.args.v.now) = (c.inverse_of.ensures 2 c.requires.size).0 c.if-not-inverse_of.false in
    subst (λ (n : ℕ). (v : List (List ℤ)) × IsInverse n (rows n c.args.u.now) v) (sym c.requires.plane) (rows 2 c.args.v.now, h)

pub returns-in-Ok-clause-dimension : goal.returns-in-Ok-clause-dimension
returns-in-Ok-clause-dimension g c =
    let law = c.images_are_delaunay.ensures in
    let plane = c.requires.plane in
    let h : IsDelaunay 2 c.requires.delaunay.0 c.args.t.now = subst (λ (n : ℕ). IsDelaunay n c.requires.delaunay.0 c.args.t.now) plane c.requires.delaunay.1 in
    let k : Carries 2 (rows 2 c.args.u.now) c.args.t.now c.in-Ok.made = subst (λ (n : ℕ). Carries n (rows n c.args.u.now) c.args.t.now c.in-Ok.made) plane c.in-Ok.ensures.made in
    let r = law 2 (rows 2 c.args.u.now) c.args.t.now c.in-Ok.made c.requires.delaunay.0 k c.dimension-dimension.ensures.ascending h in
    delaunay_dimension 2 r.0 c.in-Ok.made r.1

pub returns-in-Ok-clause-delaunay : goal.returns-in-Ok-clause-delaunay
returns-in-Ok-clause-delaunay g c =
    let law = c.images_are_delaunay.ensures in
    let plane = c.requires.plane in
    let h : IsDelaunay 2 c.requires.delaunay.0 c.args.t.now = subst (λ (n : ℕ). IsDelaunay n c.requires.delaunay.0 c.args.t.now) plane c.requires.delaunay.1 in
    let k : Carries 2 (rows 2 c.args.u.now) c.args.t.now c.in-Ok.made = subst (λ (n : ℕ). Carries n (rows n c.args.u.now) c.args.t.now c.in-Ok.made) plane c.in-Ok.ensures.made in
    let r = law 2 (rows 2 c.args.u.now) c.args.t.now c.in-Ok.made c.requires.delaunay.0 k c.dimension-dimension.ensures.ascending h in
    (r.0, subst (λ (n : ℕ). IsDelaunay n r.0 c.in-Ok.made) (sym (delaunay_dimension 2 r.0 c.in-Ok.made r.1)) r.1)
