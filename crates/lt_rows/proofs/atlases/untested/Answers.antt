use Rattle.lt_rows.proofs.Candidates.{unlike_none, is_candidate}
use Rattle.lt_rows.proofs.atlases.untested.Goals as goal

pub record_new-requires-clause-candidate : goal.record_new-requires-clause-candidate
record_new-requires-clause-candidate g c = λ _.
    is_candidate c.args.atlas.now 0 0 c.args.t c.args.c c.requires.across c.requires.narrow c.requires.right (unlike_none c.args.atlas.now c.args.t)
