-- What merging makes of two atlases.
use Rattle.std.specs.Prelude.{ℕ, ◌+◌, ◌≤◌, ◌≡◌, length}
use Rattle.lt_model.specs.Walls.{IsAcross}
use Rattle.lt_model.specs.Atlases.{Atlas, begin}
use Rattle.lt_model.specs.Logs.{IsKept}
use Rattle.lt_merge.specs.Taken.{AreCovered, AreFrom, AreTakenOver}
use Rattle.lt_merge.specs.Turns.{AreTurns}

-- a is s with all that comes before `end` in t: it is right and its log is legal; it begins with s; each entry of s,
-- and each of those of t, is equivalent to exactly one entry of it, and each of its entries to one of s or t; the
-- images of the crossed facets are settled, each at its turn, and nothing else is
pub record IsMergedTo (s t : Atlas) (end : ℕ × ℕ) (a : Atlas) : Type 0 where
  pub kept : IsKept (IsAcross a.dimension) a
  pub begins : begin a ≡ s
  pub first : AreCovered s (length s.entries) a
  pub second : AreCovered t end.0 a
  pub entries : AreFrom s t a
  pub few : length a.entries ≤ length s.entries + length t.entries
  pub taken : AreTakenOver t end a
  pub turns : AreTurns t end a

-- a is s with all of t
abbrev pub IsMerged : Atlas → Atlas → Atlas → Type 0
IsMerged s t a = IsMergedTo s t (length t.entries, 0) a
