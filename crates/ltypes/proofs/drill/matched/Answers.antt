use Rattle.std.proofs.Common.{◌<◌, length, arith, sym, subst}
use Rattle.lt_model.specs.Atlases.{Entry}
use Rattle.lt_triang.specs.Kept.{IsOfSomeForm}
use Rattle.lt_crew.proofs.Places.{entry_delaunay}
use Rattle.ltypes.proofs.drill.matched.Goals as goal

pub is_matched-requires : goal.is_matched-requires
is_matched-requires c =
    let a = c.args.atlas.now in
    let within : c.loop-k.k < length a.entries = omega (arith, c.loop-k-test.true, c.entries-k-end.ensures) in
    subst (λ (e : Entry). IsOfSomeForm e.triangulation) (sym c.entry.ensures) (entry_delaunay a c.keeps.ensures.low c.keeps.ensures.kept c.loop-k.k within)
