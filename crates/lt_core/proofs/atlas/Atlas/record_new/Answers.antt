use Rattle.std.proofs.Common.{◌≡◌, arith, subst, sym, ◌∙◌, length, ℕ}
use Rattle.lt_model.specs.Walls.{IsAcross}
use Rattle.lt_model.specs.Logs.{IsCandidate}
use Rattle.lt_core.specs.Candidates.{candidate}
use Rattle.lt_core.proofs.atlas.Atlas.record_new.Goals as goal

pub extend-requires-clause-candidate : goal.extend-requires-clause-candidate
extend-requires-clause-candidate c =
    let same : c.args.tested ≡ length c.args.self.now.entries = omega arith in
    let undecided = sym c.standing-here.ensures ∙ c.is_open.ensures.0 c.if-not-is_open.false in
    subst (λ (n : ℕ). IsCandidate (IsAcross c.args.self.now.dimension) c.args.self.now c.args.position n (candidate c.args.self.now c.args.position c.args.triangulation c.args.cone)) same (c.requires.candidate undecided)
