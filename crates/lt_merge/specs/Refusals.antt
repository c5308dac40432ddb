-- Why two atlases were not merged.
use Rattle.std.specs.Prelude.{ℕ, ◌<◌, ◌≡◌, length}
use Rattle.std.specs.declared.option.Option.TheVariants.{Some}
use Rattle.lt_model.specs.Atlases.{Atlas, Mark, entry_at, mark_at}
use Rattle.lt_model.specs.Logs.{IsUnlikeAll, IsNoCross}
use Rattle.lt_core.specs.Marks.{mark_of}
use Rattle.lt_merge.specs.Images.{IsImageOf}
use Rattle.lt_merge.specs.Merged.{IsMergedTo}
use Rattle.lt_merge.specs.declared.merging.MergeError.{MergeError}
use Rattle.lt_merge.specs.declared.merging.MergeError.TheVariants.{Stuck, Memory}

-- the mark at the image of the facet across which entry k of t was found
pub record IsMarkBefore (t : Atlas) (k : ℕ) (a : Atlas) (m : Mark) : Type 0 where
  pub origin : ℕ × ℕ
  pub named : (entry_at t.entries k).origin ≡ Some origin
  pub place : ℕ × ℕ
  pub image : IsImageOf t origin a place
  pub mark : m ≡ mark_at a.marks place

-- a is s with all that comes before entry k in t; no entry of a is equivalent to entry k, and m is the mark, wide or
-- heavy, behind which it lies
pub record IsStuckAt (s t : Atlas) (k : ℕ) (m : Mark) (a : Atlas) : Type 0 where
  pub present : k < length t.entries
  pub merged : IsMergedTo s t (k, 0) a
  pub unlike : IsUnlikeAll a.dimension (entry_at t.entries k).triangulation a.entries
  pub mark : IsMarkBefore t k a m
  pub no_cross : IsNoCross m

abbrev pub IsRefusal : Atlas → Atlas → MergeError → Type 0
IsRefusal s t (Stuck entry mark atlas) = IsStuckAt s t entry (mark_of mark) atlas
IsRefusal s t Memory = Unit {0}
