-- The beginning of an atlas, read off its parts.
use Rattle.std.specs.Prelude.{ℕ, ◌+◌, ◌-◌, ◌<◌, ◌≡◌, ◌⊎◌, List, [], ◌∷◌, map, length, get_or, take, drop, cond, sum}
use Rattle.lt_model.specs.Atlases.{Mark, open_mark, no_mark, Event, Atlas}

-- the number of events that appended an entry
abbrev pub fresh_events : List Event → ℕ
fresh_events [] = 0
fresh_events (e ∷ es) = cond e.fresh 1 0 + fresh_events es

-- the number of entries before the first event
abbrev pub first_entries : Atlas → ℕ
first_entries a = length a.entries - fresh_events a.log

-- the number of places of the queue before the first event
abbrev pub first_places : Atlas → ℕ
first_places a = length a.queue - sum (drop (first_entries a) (map length a.marks))

-- the mark m, which may have been open, stands as n
abbrev pub Stands : Mark → Mark → Type 0
Stands m n = (m ≡ open_mark) ⊎ (m ≡ n)

abbrev pub AreStanding : List Mark → List Mark → Type 0
AreStanding ms ns = (f : ℕ) → f < length ms → Stands (get_or ms f no_mark) (get_or ns f no_mark)

abbrev pub AllStand : List (List Mark) → List (List Mark) → Type 0
AllStand mss nss = (k : ℕ) → k < length mss → AreStanding (get_or mss k []) (get_or nss k [])

-- the atlas s is the beginning of a, part by part
pub record IsStartOf (a s : Atlas) : Type 0 where
  pub dimension : a.dimension ≡ s.dimension
  pub log : s.log ≡ []
  pub entries : take (first_entries a) a.entries ≡ s.entries
  pub queue : take (first_places a) a.queue ≡ s.queue
  pub marks : AllStand s.marks a.marks
