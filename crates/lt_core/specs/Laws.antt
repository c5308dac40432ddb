-- Laws of right atlases.
use Rattle.std.specs.Prelude.{ℕ, ◌<◌, ◌≤◌, ◌≡◌, length}
use Rattle.lt_model.specs.Walls.{IsAcross}
use Rattle.lt_model.specs.Reached.{IsReached}
use Rattle.lt_model.specs.Atlases.{Classes, Mark, Entry, Atlas, entry_at, push, grow, cut}
use Rattle.lt_model.specs.RightAtlases.{IsRight, IsClosedAtlas, IsOpenAt}
use Rattle.lt_core.specs.Reached.{IsOneEntry}

-- facet crossings reach the triangulation of each entry from the principal one
abbrev pub EntriesAreReached : Type 0
EntriesAreReached = (a : Atlas) → 2 ≤ a.dimension → IsRight (IsAcross a.dimension) a → (k : ℕ) → k < length a.entries → IsReached a.dimension (entry_at a.entries k).triangulation

-- a recording at an open position keeps the past: cut to its first i events, i at most the number of events before, an atlas is what it was
abbrev pub RecordingsKeepThePast : Type 0
RecordingsKeepThePast =
    (a : Atlas) (p i : ℕ) → IsOpenAt a p → i ≤ length a.log → ((m : Mark) → cut (push a p m) i ≡ cut a i) × ((e : Entry) → cut (grow a p e) i ≡ cut a i)

-- where all facets are crossed, each triangulation that facet crossings reach is equivalent to exactly one entry
abbrev pub ClosedAtlasesAreComplete : Type 0
ClosedAtlasesAreComplete =
    (a : Atlas) → 2 ≤ a.dimension → IsRight (IsAcross a.dimension) a → IsClosedAtlas a → (t : Classes) → IsReached a.dimension t → (k : ℕ) × IsOneEntry a.dimension a.entries t k
