use Rattle.lt_regulator.proofs.Listed.{are_regulators}
use Rattle.lt_regulator.proofs.facets.regulators.Goals as goal

pub returns : goal.returns
returns c = are_regulators c.requires.0 c.args.t.now c.in_ok-all.all.items c.sorted_distinct.result.items c.requires.1 c.in_ok-all.ensures c.sorted_distinct.ensures.ascending c.sorted_distinct.ensures.members
