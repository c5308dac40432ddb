use Rattle.std.proofs.Common.{◌∙◌, sym, subst}
use Rattle.lt_core.specs.Marks.{entry_of}
use Rattle.lt_model.specs.Atlases.{Entry}
use Rattle.lt_triang.specs.Kept.{IsOfSomeForm}
use Rattle.lt_crew.proofs.Places.{entry_delaunay, entry_dimension}
use Rattle.ltypes.proofs.Located.{of_entry}
use Rattle.ltypes.proofs.vectors.vectors_of.Goals as goal

pub relevant-requires : goal.relevant-requires
relevant-requires c =
    let a = c.args.atlas.now in
    subst (λ (e : Entry). IsOfSomeForm e.triangulation) (sym c.entry.ensures) (entry_delaunay a c.keeps.ensures.low c.keeps.ensures.kept c.args.entry c.requires.entry)

pub returns : goal.returns
returns c =
    let a = c.args.atlas.now in
    let k = c.args.entry in
    of_entry c.args.d a k (entry_of c.entry.result.now) c.in_ok-vectors.vectors.items c.entry.ensures c.requires.entry
    (entry_dimension a c.keeps.ensures.low c.keeps.ensures.kept k c.requires.entry ∙ c.requires.dimension) c.in_ok-vectors.ensures.edges c.in_ok-vectors.ensures.relevant
