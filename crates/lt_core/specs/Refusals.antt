-- Why nothing was recorded.
use Rattle.std.specs.Prelude.{ℕ, ◌≡◌, ◌≢◌, ◌<◌, ◌≤◌, length}
use Rattle.lt_model.specs.Atlases as model
use Rattle.lt_core.specs.declared.refusals.Why.{Why}
use Rattle.lt_core.specs.declared.refusals.Why.TheVariants as why
use Rattle.lt_core.specs.declared.refusals.Missed.{Missed}
use Rattle.lt_core.specs.declared.refusals.Missed.TheVariants as missed
use Rattle.lt_core.specs.declared.marks.Mark.{Mark}
use Rattle.lt_core.specs.declared.marks.Mark.TheVariants.{Open, Cross, Wide, Heavy}
use Rattle.lt_core.specs.Marks.{mark_of}

-- the mark at a position of the queue
abbrev pub standing_at : model.Atlas → ℕ → model.Mark
standing_at a p = model.mark_at a.marks (model.place_at a.queue p)

-- why no entry was recorded
abbrev pub IsWhy : model.Atlas → ℕ → ℕ → Why → Type 0
IsWhy a p n (why.Already m) = (standing_at a p ≢ model.open_mark) × (mark_of m ≡ standing_at a p)
IsWhy a p n (why.Again k) = (standing_at a p ≡ model.open_mark) × (n < length a.entries) × (k ≡ length a.entries)
IsWhy a p n why.Memory = (standing_at a p ≡ model.open_mark) × (length a.entries ≤ n)

abbrev pub IsHeavyMark : Mark → Type 0
IsHeavyMark Open = ⊥
IsHeavyMark (Cross k u) = ⊥
IsHeavyMark (Wide s n) = ⊥
IsHeavyMark (Heavy n) = Unit {0}

-- why a mark was not recorded
abbrev pub IsMissed : model.Atlas → ℕ → ℕ → Mark → Missed → Type 0
IsMissed a p n m (missed.Already x) = (standing_at a p ≢ model.open_mark) × (mark_of x ≡ standing_at a p)
IsMissed a p n m (missed.Again k) = (standing_at a p ≡ model.open_mark) × IsHeavyMark m × (n < length a.entries) × (k ≡ length a.entries)
