use Rattle.std.proofs.Common.{◌≡◌, ◌≤◌, ◌*◌, ◌^◌, take}
use Rattle.lt_model.specs.Atlases.{count, one_if_crossed}
use Rattle.ltypes.specs.Summaries.{one_for_each}
use Rattle.ltypes.proofs.totals.totals_of.Given as goal

abbrev pub invariant-loop-k : goal.invariant-loop-k
invariant-loop-k l = record {
  facets : l.facets ≡ count one_for_each (take l.k l.atlas.marks);
  crossed : l.crossed ≡ count one_if_crossed (take l.k l.atlas.marks);
  few : l.facets ≤ l.k * 2 ^ 32;
  within : l.crossed ≤ l.facets;
}
