use Rattle.lt_triang.proofs.Rowed.{kept_wall}
use Rattle.lt_triang.proofs.triangulations.Triangulation.wall.Goals as goal

pub returns : goal.returns
returns c =
    let h = c.self.invariant in
    let lc = rw (← c.self.view_is) at c.requires.class in
    let lf = rw (← c.self.view_is) at c.requires.facet in
    let told = kept_wall h.0 c.self.inside.classes.items c.self.inside.rows.items c.args.class c.args.facet c.index.result.now c.at.result.now h.1 h.2 lc lf c.index.ensures c.at.ensures in
    rw (← c.self.view_is) told
