use Rattle.std.proofs.Common.{◌∙◌, sym, subst, arith}
use Rattle.lt_model.specs.Atlases.{Classes}
use Rattle.lt_triang.specs.Kept.{IsOfSomeForm}
use Rattle.lt_crew.proofs.Places.{entry_delaunay}
use Rattle.lt_crew.proofs.Standing.{shared_at, shared_count}
use Rattle.lt_crew.proofs.desk.Desk.next_known.Goals as goal

pub index-requires : goal.index-requires
index-requires g c =
    let d = c.args.self.now in
    let n = shared_count d.shared.items d.atlas.entries d.all_shared in
    let k = c.in-Some.ensures.found.1 in
    omega (arith, n, k)

pub returns-in_ok-image-in-Some-clause-form : goal.returns-in_ok-image-in-Some-clause-form
returns-in_ok-image-in-Some-clause-form g c =
    let d = c.args.self.now in
    let l = c.in-Some.ensures.found.1 in
    let there = shared_at d.shared.items d.atlas.entries c.in-Some.k c.index.result.now d.all_shared l c.index.ensures in
    subst (λ (z : Classes). IsOfSomeForm z) (sym (c.in_ok-image-in-Some.ensures ∙ there)) (entry_delaunay d.atlas c.keeps.ensures.low c.keeps.ensures.kept c.in-Some.k l)
