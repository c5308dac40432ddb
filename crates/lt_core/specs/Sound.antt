-- What an atlas keeps.
use Rattle.std.specs.Prelude.{ℕ, ◌+◌, ◌^◌, ◌≡◌, ◌≤◌, length}
use Rattle.lt_model.specs.Walls.{IsAcross}
use Rattle.lt_model.specs.Atlases.{undecided, stuck}
use Rattle.lt_model.specs.Atlases as model
use Rattle.lt_model.specs.Logs.{IsKept}

-- it is right and its log is legal; the open marks and the stuck ones are counted, and the log has room for an event for each open mark
pub record IsSound (a : model.Atlas) (open_marks stuck_marks capacity : ℕ) : Type 0 where
  pub low : 2 ≤ a.dimension
  pub high : a.dimension ≤ 6
  pub kept : IsKept (IsAcross a.dimension) a
  pub counted : open_marks ≡ undecided a.marks
  pub counted_stuck : stuck_marks ≡ stuck a.marks
  pub few_stuck : stuck_marks ≤ length a.log
  pub room : length a.log + open_marks ≤ capacity
  pub few : length a.entries ≤ 2 ^ 30
