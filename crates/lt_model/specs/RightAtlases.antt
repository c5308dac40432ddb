-- Right atlases: entries with right cones, none equivalent to another, and marks that say what lies across their facets.
-- Beyond t n t' says that t' is the triangulation across the facet n of t.
use Rattle.std.specs.Prelude.{ℕ, zero, suc, ℤ, ◌+◌, ◌<◌, ◌≤◌, ◌≡◌, ◌≢◌, List, [], ◌∷◌, ◌++◌, map, length, get_or, drop}
use Rattle.std.specs.List.{Contains}
use Rattle.std.specs.declared.option.Option.TheVariants.{Some, None}
use Rattle.lt_model.specs.Cones.{IsRightCone}
use Rattle.lt_model.specs.Limits.{span, span_limit}
use Rattle.lt_model.specs.Simplices.{IsClass}
use Rattle.lt_model.specs.Principal.{IsPrincipal}
use Rattle.lt_model.specs.Matrices.{identity, Carries, AreEquivalent}
use Rattle.lt_model.specs.Atlases.{Classes, Mark, open_mark, cross, wide, heavy, Entry, Event, Atlas, entry_at, mark_at, place_at, facets, facet_at, places_from, begin}

abbrev pub AreClasses : ℕ → Classes → Type 0
AreClasses d t = (s : List (List ℤ)) → Contains t s → IsClass d s

-- entry k names the entry and the facet from which it came, and the mark there
pub record HasOrigin (Beyond : Classes → List ℤ → Classes → Type 0) (d : ℕ) (es : List Entry) (ms : List (List Mark)) (k : ℕ) : Type 0 where
  pub parent : ℕ
  pub facet : ℕ
  pub named : (entry_at es k).origin ≡ Some (parent, facet)
  pub earlier : parent < k
  pub within : facet < length (facets (entry_at es parent))
  pub across : Beyond (entry_at es parent).triangulation (facet_at es (parent, facet)) (entry_at es k).triangulation
  pub mark : mark_at ms (parent, facet) ≡ cross k (identity d)

-- the matrix u carries the triangulation across the facet at p onto entry k
pub record IsCrossed (Beyond : Classes → List ℤ → Classes → Type 0) (d : ℕ) (es : List Entry) (p : ℕ × ℕ) (k : ℕ) (u : List (List ℤ)) : Type 0 where
  pub present : k < length es
  pub across : Classes
  pub is_across : Beyond (entry_at es p.0).triangulation (facet_at es p) across
  pub narrow : span across ≤ span_limit d
  pub carries : Carries d u across (entry_at es k).triangulation

pub record IsRightEntry (d : ℕ) (e : Entry) : Type 0 where
  pub classes : AreClasses d e.triangulation
  pub narrow : span e.triangulation ≤ span_limit d
  pub cone : IsRightCone d e.triangulation e.cone

-- the entries and marks of a right atlas; Beyond says which triangulation lies across a facet
pub record AreRight (Beyond : Classes → List ℤ → Classes → Type 0) (d : ℕ) (es : List Entry) (ms : List (List Mark)) : Type 0 where
  pub occupied : 0 < length es
  pub start : IsPrincipal d (entry_at es 0).triangulation
  pub no_origin : (entry_at es 0).origin ≡ None
  pub lists : length ms ≡ length es
  pub each : (k : ℕ) → k < length es → length (get_or ms k []) ≡ length (facets (entry_at es k))
  pub origins : (k : ℕ) → 0 < k → k < length es → HasOrigin Beyond d es ms k
  pub crosses : (p : ℕ × ℕ) (k : ℕ) (u : List (List ℤ)) → mark_at ms p ≡ cross k u → IsCrossed Beyond d es p k u
  pub apart : (k l : ℕ) → k < length es → l < length es → k ≢ l → AreEquivalent d (entry_at es k).triangulation (entry_at es l).triangulation → ⊥
  pub entries : (k : ℕ) → k < length es → IsRightEntry d (entry_at es k)

abbrev pub place_if : Mark → ℕ × ℕ → List (ℕ × ℕ) → List (ℕ × ℕ)
place_if open_mark p ps = p ∷ ps
place_if (cross k u) p ps = ps
place_if (wide s w) p ps = ps
place_if (heavy w) p ps = ps

-- the places of the open marks of entry k, from facet f on
abbrev pub open_in : ℕ → ℕ → List Mark → List (ℕ × ℕ)
open_in k f [] = []
open_in k f (m ∷ ms) = place_if m (k, f) (open_in k (suc f) ms)

abbrev pub open_places : ℕ → List (List Mark) → List (ℕ × ℕ)
open_places k [] = []
open_places k (ms ∷ mss) = open_in k 0 ms ++ open_places (suc k) mss

-- all places of the entries from k on, that have so many facets
abbrev pub all_places : ℕ → List ℕ → List (ℕ × ℕ)
all_places k [] = []
all_places k (n ∷ ns) = places_from k 0 n ++ all_places (suc k) ns

-- the facets that were open at the start, and then those of each new entry
abbrev pub IsQueue : Atlas → Type 0
IsQueue a =
    a.queue ≡ open_places 0 (begin a).marks ++ all_places (length (begin a).marks) (drop (length (begin a).marks) (map length a.marks))

pub record IsRight (Beyond : Classes → List ℤ → Classes → Type 0) (a : Atlas) : Type 0 where
  pub parts : AreRight Beyond a.dimension a.entries a.marks
  pub queue : IsQueue a

pub record IsOpenAt (a : Atlas) (p : ℕ) : Type 0 where
  pub queued : p < length a.queue
  pub undecided : mark_at a.marks (place_at a.queue p) ≡ open_mark

-- every facet is crossed
abbrev pub IsClosedAtlas : Atlas → Type 0
IsClosedAtlas a = (j f : ℕ) → j < length a.entries → f < length (facets (entry_at a.entries j)) → (k : ℕ) × (u : List (List ℤ)) × (mark_at a.marks (j, f) ≡ cross k u)

-- each place of the queue is that of a mark, and stands there once
pub record IsOrderly (a : Atlas) : Type 0 where
  pub once : (p q : ℕ) → p < length a.queue → q < length a.queue → place_at a.queue p ≡ place_at a.queue q → p ≡ q
  pub entry_within : (p : ℕ) → p < length a.queue → (place_at a.queue p).0 < length a.marks
  pub facet_within : (p : ℕ) → p < length a.queue → (place_at a.queue p).1 < length (get_or a.marks (place_at a.queue p).0 [])

-- the atlas of these entries and marks with an empty log
abbrev pub fresh_atlas : ℕ → List Entry → List (List Mark) → Atlas
fresh_atlas d es ms = record { dimension = d; entries = es; marks = ms; queue = open_places 0 ms; log = [] }
