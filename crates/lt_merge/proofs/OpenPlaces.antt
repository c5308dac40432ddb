-- Each open mark has its place in the queue.
use Rattle.std.proofs.Common.{◌≡◌, ℕ, ◌-◌, ◌∙◌, inl, inr, length}
use Rattle.std.proofs.lemmas.Bool.{cases_lt}
use Rattle.std.specs.List.{Contains}
use Rattle.lt_model.specs.Atlases.{Atlas, open_mark, mark_at, begin}
use Rattle.lt_model.specs.RightAtlases.{IsQueue}
use Rattle.lt_core.proofs.Undo.{open_within}
use Rattle.lt_core.proofs.Undone.{all_stand}
use Rattle.lt_crew.proofs.Queued.{open_is_queued, later_is_queued}

pub open_queued : (a : Atlas) → IsQueue a → (p : ℕ × ℕ) → mark_at a.marks p ≡ open_mark → Contains a.queue p
open_queued a queue (j, f) open_now =
    elim (cases_lt j (length (begin a).marks)) [
      | inl first ↦ elim (all_stand (length a.log - 0) a (j, f) first) [ inl o ↦ open_is_queued a queue j f o | inr e ↦ open_is_queued a queue j f (e ∙ open_now) ]
      | inr later ↦ later_is_queued a queue j f later (open_within a.marks (j, f) open_now).1
    ]
