-- How a run ends: its atlas is one of the stated run, and the cause tells how far it went.
use Rattle.std.proofs.Common.{◌≡◌, ℕ, ◌-◌, ◌≤◌, arith, sym, ap, ◌∙◌, subst, inr, length, Bool, false}
use Rattle.lt_model.specs.Atlases.{Atlas, begin}
use Rattle.lt_model.specs.RightAtlases.{IsClosedAtlas}
use Rattle.lt_model.specs.Logs.{IsKept}
use Rattle.lt_model.specs.Walls.{IsAcross}
use Rattle.lt_core.proofs.Crossings.{across_laws}
use Rattle.lt_core.proofs.Reaching.{closed_atlas, right_atlas_reached}
use Rattle.lt_core.proofs.Undo.{undo_all-dimension}
use Rattle.lt_crew.specs.Runs.{AreInOrder, AreBelow, AreSettled, IsSettledBelow}
use Rattle.ltypes.specs.declared.status.Cause.{Cause}
use Rattle.ltypes.specs.declared.status.Cause.TheVariants.{Finished, Unfinished, Memory, WriteFault}
use Rattle.ltypes.specs.Changes.{Change}
use Rattle.ltypes.specs.Runs.{IsRun, IsRunHere, IsComplete, AnswersRun, IsEnd}
use Rattle.ltypes.proofs.Closed.{closed_by_counts, counts_of_closed}

pub is_run : (d workers steps : ℕ) (s a : Atlas) → s.dimension ≡ d → begin a ≡ s → AreBelow steps a.log → AreSettled a → (workers ≡ 1 → AreInOrder a.log) → IsKept (IsAcross a.dimension) a → IsRun d workers steps s a
is_run d workers steps s a at begins below settled order k = record { dimension = same; kept = subst (λ (z : ℕ). IsKept (IsAcross z) a) same k; begins = begins; below = below; settled = settled; order = order }
  where
    same : a.dimension ≡ d
    same = sym (undo_all-dimension (length a.log - 0) a) ∙ ap (λ (z : Atlas). z.dimension) begins ∙ at

complete : (a : Atlas) → 2 ≤ a.dimension → IsKept (IsAcross a.dimension) a → IsClosedAtlas a → IsComplete a.dimension a
complete a low k c =
    let laws = across_laws a.dimension low in
    record { closed = c; reached = right_atlas_reached (IsAcross a.dimension) a laws k.right; one = closed_atlas (IsAcross a.dimension) a laws k.right c }

-- what is told of the end of a run is the answer
pub answers : (d workers steps : ℕ) (resume : Bool) (source out : Change) (memory : Bool) (a : Atlas) (cause : Cause) → IsRunHere d workers steps resume source a → 2 ≤ a.dimension → IsKept (IsAcross a.dimension) a →
    (memory ≡ false → IsSettledBelow steps a) → IsEnd memory a out cause → AnswersRun d workers steps resume source out cause
answers d workers steps resume source out memory a Finished run low kept settled e =
    let n = e.1 in
    let closed = closed_by_counts a kept.right.parts (omega (arith, n)) (omega (arith, n)) in
    let whole = subst (λ (z : ℕ). IsComplete z a) run.run.dimension (complete a low kept closed) in
    (a, run, settled e.0, whole, e.2)
answers d workers steps resume source out memory a (Unfinished s o) run low kept settled e =
    (a, run, settled e.0, e.2, e.3, (λ c. let n = counts_of_closed a kept.right.parts c in let some = e.1 in omega (arith, n, some)), e.4)
answers d workers steps resume source out memory a Memory run low kept settled e = inr (a, run, e.1)
answers d workers steps resume source out memory a WriteFault run low kept settled e = (e.0, (a, run, e.1))
answers d workers steps resume source out memory a _ run low kept settled e = absurd e
