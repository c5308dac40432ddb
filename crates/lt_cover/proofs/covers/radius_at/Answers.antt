use Rattle.lt_triang.specs.Kept.{dimension_of}
use Rattle.lt_cover.proofs.Members.{member_measured, member_radius}
use Rattle.lt_cover.proofs.covers.radius_at.Goals as goal

pub radius_of-requires : goal.radius_of-requires
radius_of-requires c =
    let k = c.dimension-dimension.ensures in
    member_measured (dimension_of c.args.t.now) c.args.q.now c.args.t.now c.args.k c.class-class.result.now c.requires.delaunay c.requires.place c.class-class.ensures c.dimension-dimension.result k.class k.near k.low k.high c.requires.short c.requires.within

pub returns-clause-radius : goal.returns-clause-radius
returns-clause-radius c = member_radius (dimension_of c.args.t.now) c.args.q.now c.args.t.now c.args.k c.class-class.result.now c.requires.delaunay c.requires.place c.class-class.ensures c.radius_of.result c.radius_of.ensures.radius
