-- Legal logs: each event was right at the atlas that it met.
use Rattle.std.specs.Prelude.{ℕ, zero, suc, ℤ, ◌+◌, ◌<◌, ◌≤◌, ◌≡◌, ◌≢◌, List, [], ◌∷◌, ◌++◌, length, get_or, take, Bool, true, false}
use Rattle.std.specs.List.{Contains}
use Rattle.std.specs.declared.option.Option.TheVariants.{Some, None}
use Rattle.lt_model.specs.Cones.{IsRightCone}
use Rattle.lt_model.specs.Limits.{span, span_limit, class_span, weight, weight_limit}
use Rattle.lt_model.specs.Walls.{AreRegulators}
use Rattle.lt_model.specs.Matrices.{identity, Carries, AreEquivalent}
use Rattle.lt_model.specs.Atlases.{Classes, Mark, open_mark, cross, wide, heavy, Entry, Event, Atlas, entry_at, mark_at, place_at, event_at, facet_at, cut}
use Rattle.lt_model.specs.RightAtlases.{IsRightEntry, IsOpenAt, IsRight, IsOrderly}

abbrev pub IsUnlikeAll : ℕ → Classes → List Entry → Type 0
IsUnlikeAll d t es = (i : ℕ) → i < length es → AreEquivalent d t (entry_at es i).triangulation → ⊥

-- t is carried onto entry k
pub record IsKnown (d : ℕ) (es : List Entry) (t : Classes) (k : ℕ) (u : List (List ℤ)) : Type 0 where
  pub present : k < length es
  pub narrow : span t ≤ span_limit d
  pub carries : Carries d u t (entry_at es k).triangulation

-- t is none of the entries es, and the entry after them in all
pub record IsNew (d : ℕ) (es all : List Entry) (p : ℕ × ℕ) (t : Classes) (k : ℕ) (u : List (List ℤ)) : Type 0 where
  pub number : k ≡ length es
  pub matrix : u ≡ identity d
  pub new : IsUnlikeAll d t es
  pub present : k < length all
  pub entry : (entry_at all k).triangulation ≡ t
  pub right : IsRightEntry d (entry_at all k)
  pub origin : (entry_at all k).origin ≡ Some p

-- s is the first member of t that is too wide, and n its span
pub record IsWide (d : ℕ) (t : Classes) (s : List (List ℤ)) (n : ℕ) : Type 0 where
  pub place : ℕ
  pub within : place < length t
  pub member : get_or t place [] ≡ s
  pub above : span_limit d < class_span s
  pub first : (i : ℕ) → i < place → class_span (get_or t i []) ≤ span_limit d
  pub number : n ≡ class_span s

pub record IsHeavy (d : ℕ) (es : List Entry) (t : Classes) (n : ℕ) : Type 0 where
  pub narrow : span t ≤ span_limit d
  pub new : IsUnlikeAll d t es
  pub normals : List (List ℤ)
  pub regulators : AreRegulators d t normals
  pub number : n ≡ weight d normals
  pub above : weight_limit ≤ n

-- why the mark is right at the place p that has the triangulation t across it; es are the entries before the event
abbrev pub IsCause : ℕ → List Entry → List Entry → ℕ × ℕ → Classes → Mark → Bool → Type 0
IsCause d es all p t (cross k u) false = IsKnown d es t k u
IsCause d es all p t (cross k u) true = IsNew d es all p t k u
IsCause d es all p t (wide s n) false = IsWide d t s n
IsCause d es all p t (wide s n) true = ⊥
IsCause d es all p t (heavy n) false = IsHeavy d es t n
IsCause d es all p t (heavy n) true = ⊥
IsCause d es all p t open_mark fresh = ⊥

-- the event is legal at b; all are the entries of the whole atlas
pub record IsLegal (Beyond : Classes → List ℤ → Classes → Type 0) (b : Atlas) (all : List Entry) (e : Event) : Type 0 where
  pub position : IsOpenAt b e.position
  pub across : Classes
  pub is_across : Beyond (entry_at b.entries (place_at b.queue e.position).0).triangulation (facet_at b.entries (place_at b.queue e.position)) across
  pub cause : IsCause b.dimension b.entries all (place_at b.queue e.position) across e.mark e.fresh

pub record IsLegalLog (Beyond : Classes → List ℤ → Classes → Type 0) (a : Atlas) : Type 0 where
  pub distinct : (i j : ℕ) → i < length a.log → j < length a.log → (event_at a.log i).position ≡ (event_at a.log j).position → i ≡ j
  pub legal : (i : ℕ) → i < length a.log → IsLegal Beyond (cut a i) a.entries (event_at a.log i)
  pub standing : (i : ℕ) → i < length a.log → mark_at a.marks (place_at a.queue (event_at a.log i).position) ≡ (event_at a.log i).mark
  pub rest : (p : ℕ) → p < length a.queue → ((i : ℕ) → i < length a.log → (event_at a.log i).position ≢ p) → mark_at a.marks (place_at a.queue p) ≡ open_mark

-- what an atlas keeps
pub record IsKept (Beyond : Classes → List ℤ → Classes → Type 0) (a : Atlas) : Type 0 where
  pub right : IsRight Beyond a
  pub legal : IsLegalLog Beyond a
  pub orderly : IsOrderly a

-- an entry for the place at position p of the queue: it lies across, is right, and unlike the first n entries
pub record IsCandidate (Beyond : Classes → List ℤ → Classes → Type 0) (a : Atlas) (p n : ℕ) (e : Entry) : Type 0 where
  pub is_across : Beyond (entry_at a.entries (place_at a.queue p).0).triangulation (facet_at a.entries (place_at a.queue p)) e.triangulation
  pub right : IsRightEntry a.dimension e
  pub unlike : (i : ℕ) → i < n → AreEquivalent a.dimension e.triangulation (entry_at a.entries i).triangulation → ⊥

abbrev pub IsNoCross : Mark → Type 0
IsNoCross open_mark = ⊥
IsNoCross (cross k u) = ⊥
IsNoCross (wide s n) = Unit {0}
IsNoCross (heavy n) = Unit {0}

-- the mark is wide or heavy, and right at position p where the first n entries alone count
pub record IsStuck (Beyond : Classes → List ℤ → Classes → Type 0) (a : Atlas) (p n : ℕ) (m : Mark) : Type 0 where
  pub no_cross : IsNoCross m
  pub across : Classes
  pub is_across : Beyond (entry_at a.entries (place_at a.queue p).0).triangulation (facet_at a.entries (place_at a.queue p)) across
  pub cause : IsCause a.dimension (take n a.entries) a.entries (place_at a.queue p) across m false
