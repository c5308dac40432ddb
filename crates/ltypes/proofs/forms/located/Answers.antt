use Rattle.ltypes.proofs.Located.{located_here}
use Rattle.ltypes.proofs.forms.located.Goals as goal

pub returns-in-Ok-clause-found : goal.returns-in-Ok-clause-found
returns-in-Ok-clause-found c =
    let d = c.dimension-dimension.result in
    let numbers = c.dimension-dimension.ensures.value in
    let l = c.in-Ok.located in
    located_here d c.args.steps c.args.q.now l.crossed l.triangulation numbers (c.in-Ok.ensures.located d numbers) (c.in-Ok.ensures.delaunay d numbers)
