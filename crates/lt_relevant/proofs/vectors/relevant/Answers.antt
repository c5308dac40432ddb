use Rattle.std.proofs.lemmas.Result.{IfOk-weaker}
use Rattle.lt_triang.specs.Kept.{dimension_of}
use Rattle.lt_laws.proofs.EdgeCount.{edges_are_parities}
use Rattle.lt_relevant.proofs.Parities.{edges_are_relevant}
use Rattle.lt_relevant.proofs.vectors.relevant.Goals as goal

pub returns-clause-count : goal.returns-clause-count
returns-clause-count c =
    let t = c.args.t.now in
    IfOk-weaker c.edges.result _ _ (λ vs h. edges_are_parities (dimension_of t) c.requires.0 t vs.items c.requires.1 h.ascending h.members) c.edges.ensures

pub returns-clause-relevant : goal.returns-clause-relevant
returns-clause-relevant c =
    let t = c.args.t.now in
    IfOk-weaker c.edges.result _ _ (λ vs h q del. edges_are_relevant (dimension_of t) q t vs.items del h) c.edges.ensures
