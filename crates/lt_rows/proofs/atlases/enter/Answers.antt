use Rattle.lt_rows.proofs.Candidates.{unlike_one, is_candidate}
use Rattle.lt_rows.proofs.atlases.enter.Goals as goal

pub record_new-requires-clause-candidate : goal.record_new-requires-clause-candidate
record_new-requires-clause-candidate g c = λ _.
    is_candidate c.args.atlas.now 0 1 c.args.t c.args.c c.requires.across c.requires.narrow c.requires.right (unlike_one c.args.atlas.now c.args.t c.unlike_first.ensures)
