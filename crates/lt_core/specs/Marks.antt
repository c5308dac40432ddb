-- What the marks, events and entries of the program mean.
use Rattle.std.specs.Prelude.{ℕ, ℤ, cond, nat_eq, List, map, length, Vec}
use Rattle.lt_model.specs.Flat.{rows}
use Rattle.lt_model.specs.Atlases as model
use Rattle.lt_model.specs.Atlases.{place_of}
use Rattle.lt_core.specs.declared.marks.Mark.{Mark}
use Rattle.lt_core.specs.declared.marks.Mark.TheVariants.{Open, Cross, Wide, Heavy}
use Rattle.lt_core.specs.declared.marks.Entry.{Entry}
use Rattle.lt_core.specs.declared.marks.Event.{Event}

-- the number of rows of a square matrix of 2 to 6 rows with so many numbers
abbrev pub side : ℕ → ℕ
side n = cond (nat_eq n 4) 2 (cond (nat_eq n 9) 3 (cond (nat_eq n 16) 4 (cond (nat_eq n 25) 5 6)))

-- the rows of a square matrix that is written row by row
abbrev pub matrix_rows : List ℤ → List (List ℤ)
matrix_rows u = rows (side (length u)) u

-- what a mark means
abbrev pub mark_of : Mark → model.Mark
mark_of Open = model.open_mark
mark_of (Cross target matrix) = model.cross target (matrix_rows matrix)
mark_of (Wide s n) = model.wide s n
mark_of (Heavy w) = model.heavy w

abbrev pub marks_of : {Z : Type 0} → List (Vec Mark Z) → List (List model.Mark)
marks_of mss = map (λ ms. map mark_of ms.items) mss

abbrev pub event_of : Event → model.Event
event_of e = record { position = e.position; mark = mark_of e.mark; fresh = e.fresh }

abbrev pub entry_of : Entry → model.Entry
entry_of e = record { triangulation = e.triangulation; cone = e.cone; origin = place_of e.origin }
