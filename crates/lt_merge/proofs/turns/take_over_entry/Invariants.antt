use Rattle.lt_model.specs.Atlases.{begin, entry_at}
use Rattle.lt_core.specs.Marks.{matrix_rows}
use Rattle.lt_crew.specs.Settled.{IsFirstKnown}
use Rattle.lt_merge.specs.Merged.{IsMergedTo}
use Rattle.lt_merge.proofs.turns.take_over_entry.Given as goal

abbrev pub invariant-loop-facet : goal.invariant-loop-facet
invariant-loop-facet l = record {
  merged : IsMergedTo (begin l.initial.atlas) l.second (l.k, l.facet) l.atlas;
  placed : IsFirstKnown l.atlas (entry_at l.second.entries l.k).triangulation l.place (matrix_rows l.u);
}
