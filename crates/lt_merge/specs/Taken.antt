-- What an atlas has taken over from another one.
use Rattle.std.specs.Prelude.{ℕ, ◌<◌, ◌≡◌, ◌≢◌, ◌⊎◌, length}
use Rattle.lt_model.specs.Matrices.{AreEquivalent}
use Rattle.lt_model.specs.Atlases.{Classes, Atlas, open_mark, entry_at, mark_at}
use Rattle.lt_model.specs.Order.{IsBefore}
use Rattle.lt_core.specs.Reached.{IsOneEntry}
use Rattle.lt_merge.specs.Images.{IsCrossedAt, IsImageOf}

-- each of the first n entries of t is equivalent to exactly one entry of a
abbrev pub AreCovered : Atlas → ℕ → Atlas → Type 0
AreCovered t n a =
    (k : ℕ) → k < n → (j : ℕ) × IsOneEntry a.dimension a.entries (entry_at t.entries k).triangulation j

-- the triangulation is equivalent to an entry of s
abbrev pub IsFrom : Atlas → Classes → Type 0
IsFrom s c = (k : ℕ) × (k < length s.entries) × AreEquivalent s.dimension c (entry_at s.entries k).triangulation

-- each entry of a is equivalent to an entry of s or of t
abbrev pub AreFrom : Atlas → Atlas → Atlas → Type 0
AreFrom s t a =
    (j : ℕ) → j < length a.entries →
    IsFrom s (entry_at a.entries j).triangulation ⊎ IsFrom t (entry_at a.entries j).triangulation

-- the image of the facet isn't open
pub record IsTakenOver (t : Atlas) (p : ℕ × ℕ) (a : Atlas) : Type 0 where
  pub place : ℕ × ℕ
  pub image : IsImageOf t p a place
  pub settled : mark_at a.marks place ≢ open_mark

-- the image of each crossed facet of t that comes before `end` isn't open
abbrev pub AreTakenOver : Atlas → ℕ × ℕ → Atlas → Type 0
AreTakenOver t end a = (p : ℕ × ℕ) → IsBefore p end → IsCrossedAt t p → IsTakenOver t p a
