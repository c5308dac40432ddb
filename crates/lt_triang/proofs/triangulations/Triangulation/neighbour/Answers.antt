use Rattle.lt_triang.proofs.Walled.{wall_facets}
use Rattle.lt_triang.proofs.triangulations.Triangulation.neighbour.Goals as goal

pub shift_of-requires-clause-facet : goal.shift_of-requires-clause-facet
shift_of-requires-clause-facet c =
    let f = wall_facets c.dimension.result c.args.self.now c.args.class c.args.facet c.dimension.ensures c.requires.class c.requires.facet c.wall-wall.result.now c.wall-wall.ensures in
    rw (c.from-d.ensures, c.member.ensures, c.as_slice-classes.ensures.value, c.self.view_is) f.facet

pub shift_of-requires-clause-facet_too : goal.shift_of-requires-clause-facet_too
shift_of-requires-clause-facet_too c =
    let f = wall_facets c.dimension.result c.args.self.now c.args.class c.args.facet c.dimension.ensures c.requires.class c.requires.facet c.wall-wall.result.now c.wall-wall.ensures in
    rw (c.from-d.ensures, c.from-vertex.ensures, c.member-2.ensures, c.as_slice-classes.ensures.value, c.self.view_is) f.facet_too

pub shift_of-requires-clause-near : goal.shift_of-requires-clause-near
shift_of-requires-clause-near c =
    let f = wall_facets c.dimension.result c.args.self.now c.args.class c.args.facet c.dimension.ensures c.requires.class c.requires.facet c.wall-wall.result.now c.wall-wall.ensures in
    rw (c.from-d.ensures, c.member.ensures, c.as_slice-classes.ensures.value, c.self.view_is) f.near

pub shift_of-requires-clause-near_too : goal.shift_of-requires-clause-near_too
shift_of-requires-clause-near_too c =
    let f = wall_facets c.dimension.result c.args.self.now c.args.class c.args.facet c.dimension.ensures c.requires.class c.requires.facet c.wall-wall.result.now c.wall-wall.ensures in
    rw (c.from-d.ensures, c.member-2.ensures, c.as_slice-classes.ensures.value, c.self.view_is) f.near_too
