-- What the events of a merged atlas are.
use Rattle.std.specs.Prelude.{ℕ, ◌<◌, ◌≡◌, List, length, get_or}
use Rattle.lt_model.specs.Atlases.{Atlas, place_at, event_at, cut}
use Rattle.lt_model.specs.Order.{IsBefore}
use Rattle.lt_crew.specs.Runs.{AreSettled}
use Rattle.lt_merge.specs.Images.{IsCrossedAt, IsImageOf}

-- at position x of the queue of a stands the image of the crossed facet p of t
pub record StandsAtImage (t : Atlas) (p : ℕ × ℕ) (a : Atlas) (x : ℕ) : Type 0 where
  pub crossed : IsCrossedAt t p
  pub queued : x < length a.queue
  pub image : IsImageOf t p a (place_at a.queue x)

-- the events are those of the images of crossed facets of t that come before `end`, in their order, and each is what
-- settling gives
pub record AreTurns (t : Atlas) (end : ℕ × ℕ) (a : Atlas) : Type 0 where
  pub sources : List (ℕ × ℕ)
  pub count : length sources ≡ length a.log
  pub before : (i : ℕ) → i < length a.log → IsBefore (get_or sources i (0, 0)) end
  pub ascending : (i j : ℕ) → i < j → j < length a.log →
      IsBefore (get_or sources i (0, 0)) (get_or sources j (0, 0))
  pub images : (i : ℕ) → i < length a.log →
      StandsAtImage t (get_or sources i (0, 0)) (cut a i) (event_at a.log i).position
  pub settled : AreSettled a
