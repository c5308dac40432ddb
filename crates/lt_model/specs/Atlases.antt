-- Atlases of triangulations: entries, marks of facets, the queue of open facets, and the log of what was recorded.
use Rattle.std.specs.Prelude.{ℕ, zero, suc, ℤ, ◌+◌, ◌-◌, List, [], ◌∷◌, ◌++◌, map, length, get_or, take, set, cond, Bool, true, false}
use Rattle.std.specs.declared.option.Option.{Option}
use Rattle.std.specs.declared.option.Option.TheVariants.{Some, None}
use Rattle.lt_model.specs.Cones.{Verdict, wall, combination, Row, Cone}
use Rattle.lt_model.specs.Matrices.{identity}

abbrev pub Classes : Type 0
Classes = List (List (List ℤ))

-- what is known of a facet
pub data Mark : Type 0 where
  open_mark : Mark
  cross : ℕ → List (List ℤ) → Mark
  wide : List (List ℤ) → ℕ → Mark
  heavy : ℕ → Mark

pub record Entry : Type 0 where
  pub triangulation : Classes
  pub cone : Cone
  pub origin : Option (ℕ × ℕ)

pub record Event : Type 0 where
  pub position : ℕ
  pub mark : Mark
  pub fresh : Bool

pub record Atlas : Type 0 where
  pub dimension : ℕ
  pub entries : List Entry
  pub marks : List (List Mark)
  pub queue : List (ℕ × ℕ)
  pub log : List Event

-- ---- looking up

abbrev pub no_entry : Entry
no_entry = record { triangulation = []; cone = record { rows = []; form = [] }; origin = None }

-- what stands where no facet is: no mark that any event has
abbrev pub no_mark : Mark
no_mark = heavy 0

abbrev pub no_event : Event
no_event = record { position = 0; mark = open_mark; fresh = false }

abbrev pub entry_at : List Entry → ℕ → Entry
entry_at es k = get_or es k no_entry

abbrev pub mark_at : List (List Mark) → ℕ × ℕ → Mark
mark_at ms p = get_or (get_or ms p.0 []) p.1 no_mark

abbrev pub place_at : List (ℕ × ℕ) → ℕ → ℕ × ℕ
place_at q p = get_or q p (0, 0)

-- the place that the program keeps, part by part
abbrev pub place_of : Option (ℕ × ℕ) → Option (ℕ × ℕ)
place_of None = None
place_of (Some p) = Some (p.0, p.1)

abbrev pub event_at : List Event → ℕ → Event
event_at l i = get_or l i no_event

abbrev pub facet_if : Verdict → List ℤ → List (List ℤ) → List (List ℤ)
facet_if (wall w) n ns = n ∷ ns
facet_if (combination factor terms) n ns = ns

-- the normals of the wall rows, in order
abbrev pub facets_of : List Row → List (List ℤ)
facets_of [] = []
facets_of (r ∷ rows) = facet_if r.verdict r.normal (facets_of rows)

abbrev pub facets : Entry → List (List ℤ)
facets e = facets_of e.cone.rows

abbrev pub facet_at : List Entry → ℕ × ℕ → List ℤ
facet_at es p = get_or (facets (entry_at es p.0)) p.1 []

-- ---- counts

abbrev pub one_if_open : Mark → ℕ
one_if_open open_mark = 1
one_if_open (cross k u) = 0
one_if_open (wide s n) = 0
one_if_open (heavy n) = 0

abbrev pub one_if_stuck : Mark → ℕ
one_if_stuck open_mark = 0
one_if_stuck (cross k u) = 0
one_if_stuck (wide s n) = 1
one_if_stuck (heavy n) = 1

abbrev pub one_if_crossed : Mark → ℕ
one_if_crossed open_mark = 0
one_if_crossed (cross k u) = 1
one_if_crossed (wide s n) = 0
one_if_crossed (heavy n) = 0

-- the sum of the numbers of the marks of an entry
abbrev pub count_in : (Mark → ℕ) → List Mark → ℕ
count_in f [] = 0
count_in f (m ∷ ms) = f m + count_in f ms

-- the sum of the numbers of all marks
abbrev pub count : (Mark → ℕ) → List (List Mark) → ℕ
count f [] = 0
count f (ms ∷ mss) = count_in f ms + count f mss

-- the number of open marks, and that of wide and heavy ones
abbrev pub undecided : List (List Mark) → ℕ
undecided mss = count one_if_open mss

abbrev pub stuck : List (List Mark) → ℕ
stuck mss = count one_if_stuck mss

-- ---- one recording, and taking one back

abbrev pub set_mark : List (List Mark) → ℕ × ℕ → Mark → List (List Mark)
set_mark ms p m = set ms p.0 (set (get_or ms p.0 []) p.1 m)

abbrev pub opens : ℕ → List Mark
opens zero = []
opens (suc n) = open_mark ∷ opens n

-- the places (k, f), (k, f + 1), .., n in all
abbrev pub places_from : ℕ → ℕ → ℕ → List (ℕ × ℕ)
places_from k f zero = []
places_from k f (suc n) = (k, f) ∷ places_from k (suc f) n

-- an event more, which appends no entry
abbrev pub push : Atlas → ℕ → Mark → Atlas
push a p m = record {
  dimension = a.dimension;
  entries = a.entries;
  marks = set_mark a.marks (place_at a.queue p) m;
  queue = a.queue;
  log = a.log ++ record { position = p; mark = m; fresh = false } ∷ [];
}

-- an event more, which appends the entry e
abbrev pub grow : Atlas → ℕ → Entry → Atlas
grow a p e = record {
  dimension = a.dimension;
  entries = a.entries ++ e ∷ [];
  marks = set_mark a.marks (place_at a.queue p) (cross (length a.entries) (identity a.dimension)) ++ opens (length (facets e)) ∷ [];
  queue = a.queue ++ places_from (length a.entries) 0 (length (facets e));
  log = a.log ++ record { position = p; mark = cross (length a.entries) (identity a.dimension); fresh = true } ∷ [];
}

abbrev pub front : {A : Type 0} → List A → List A
front xs = take (length xs - 1) xs

-- the atlas without the event e, which is the last of its log
abbrev pub without_event : Event → Atlas → Atlas
without_event e a = record {
  dimension = a.dimension;
  entries = cond e.fresh (front a.entries) a.entries;
  marks = set_mark (cond e.fresh (front a.marks) a.marks) (place_at a.queue e.position) open_mark;
  queue = cond e.fresh (take (length a.queue - length (get_or a.marks (length a.marks - 1) [])) a.queue) a.queue;
  log = front a.log;
}

abbrev pub undo : Atlas → Atlas
undo a = without_event (event_at a.log (length a.log - 1)) a

abbrev pub undo_all : ℕ → Atlas → Atlas
undo_all zero a = a
undo_all (suc n) a = undo_all n (undo a)

-- the atlas with its first i events alone
abbrev pub cut : Atlas → ℕ → Atlas
cut a i = undo_all (length a.log - i) a

abbrev pub begin : Atlas → Atlas
begin a = cut a 0
