use Rattle.std.proofs.Common.{◌≡◌, ℕ, sym, ◌∙◌, arith, inl, inr}
use Rattle.std.proofs.lemmas.Bool.{false≢true}
use Rattle.lt_model.specs.Walls.{IsAcross}
use Rattle.lt_model.specs.Atlases as model
use Rattle.lt_model.specs.RightAtlases.{IsOpenAt}
use Rattle.lt_core.specs.declared.marks.Mark.{Mark}
use Rattle.lt_core.specs.declared.marks.Mark.TheVariants.{Open, Cross, Wide, Heavy}
use Rattle.lt_core.specs.Marks.{mark_of}
use Rattle.lt_core.specs.Refusals.{IsHeavyMark, standing_at}
use Rattle.lt_core.proofs.Kept.{legal_stuck}
use Rattle.lt_core.proofs.atlas.Atlas.record_stuck.Goals as goal
use Rattle.lt_core.proofs.atlas.Atlas.record_stuck.Goals.{else-is_heavy-via-then-is_heavy+else-entries-tested, else-is_heavy-via-else-is_heavy}

heavy_mark : (m : Mark) (k : ℕ) → mark_of m ≡ model.heavy k → IsHeavyMark m
heavy_mark Open k e = absurd (cc)
heavy_mark (Cross t u) k e = absurd (cc)
heavy_mark (Wide s n) k e = absurd (cc)
heavy_mark (Heavy w) k e = tt

pub note-requires-clause-legal : goal.note-requires-clause-legal
note-requires-clause-legal c =
    let a = c.args.self.now in
    let here : standing_at a c.args.position ≡ model.open_mark = sym c.standing-here.ensures ∙ c.is_open.ensures.0 c.if-not-is_open.false in
    let o : IsOpenAt a c.args.position = record { queued = c.requires.queued; undecided = here } in
    let s = c.requires.stuck here in
    elim c.else-is_heavy.branch [
      | else-is_heavy-via-then-is_heavy+else-entries-tested w ↦ (let f = w.if-entries-tested.false in legal_stuck (IsAcross a.dimension) a c.args.position c.args.tested (mark_of c.args.mark) o s (inr (omega (arith, f, c.entries-entries.ensures))))
      | else-is_heavy-via-else-is_heavy w ↦ legal_stuck (IsAcross a.dimension) a c.args.position c.args.tested (mark_of c.args.mark) o s (inl (λ k e. false≢true (sym w.if-is_heavy.false ∙ c.is_heavy.ensures.1 (heavy_mark c.args.mark k e))))
    ]
