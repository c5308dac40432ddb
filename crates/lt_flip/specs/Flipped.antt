-- The classes of a flip, and the first of them whose span is above the limit.
use Rattle.std.specs.Prelude.{ℕ, ℤ, pos, negsuc, ◌<◌, ◌≤◌, ◌≡◌, ◌⊎◌, ◌++◌, List, [], length, get_or}
use Rattle.std.specs.List.{Contains, All}
use Rattle.std.specs.List.Sorted.{IsStrictlySortedBy}
use Rattle.lt_model.specs.Limits.{class_span, span_limit}
use Rattle.lt_model.specs.Order.{simplex_cmp}
use Rattle.lt_model.specs.Walls.{IsAcross}
use Rattle.lt_model.specs.Flips.{IsExchanged, IsFlipOf}
use Rattle.lt_geometry.specs.Exchanges.{IsMadeFrom}
use Rattle.lt_flip.specs.Merged.{classes_at}
use Rattle.lt_flip.specs.Outers.{HasNoFacet, IsOuterOf}

-- s is a class of the flip of t at n
abbrev pub IsFlippedClass : ℕ → List (List (List ℤ)) → List ℤ → List (List ℤ) → Type 0
IsFlippedClass d t n s = (Contains t s × (IsExchanged d t n (pos 1) s → ⊥)) ⊎ IsExchanged d t n (negsuc 0) s

-- the list holds all classes that are made from s and its outer vertex
pub record HasMade (d : ℕ) (t : List (List (List ℤ))) (n : List ℤ) (s : List (List ℤ)) (all : List (List (List ℤ))) : Type 0 where
  pub vertex : List ℤ
  pub scale : ℤ
  pub coefficients : List ℤ
  pub outer : IsOuterOf d t s n vertex scale coefficients
  pub each : (k : ℕ) (r : List (List ℤ)) → IsMadeFrom d s vertex coefficients k r → Contains all r

-- the list holds what the flip makes of s
abbrev pub HasFlipped : ℕ → List (List (List ℤ)) → List ℤ → List (List ℤ) → List (List (List ℤ)) → Type 0
HasFlipped d t n s all = (HasNoFacet d t s n × Contains all s) ⊎ HasMade d t n s all

-- the kept classes, which stand at places of t below m and ascend, and the made ones are classes of the flip,
-- and hold what it makes of the first m members
pub record AreParts (d : ℕ) (t : List (List (List ℤ))) (n : List ℤ) (m : ℕ) (kept : List ℕ) (made : List (List (List ℤ))) : Type 0 where
  pub places : All (λ k. k < m) kept
  pub ascending : IsStrictlySortedBy simplex_cmp (classes_at t kept)
  pub only : (s : List (List ℤ)) → Contains (classes_at t kept ++ made) s → IsFlippedClass d t n s
  pub each : (i : ℕ) → i < m → HasFlipped d t n (get_or t i []) (classes_at t kept ++ made)

-- the first class whose span is above the limit stands at place i
pub record IsFirstWide (d : ℕ) (t : List (List (List ℤ))) (i : ℕ) : Type 0 where
  pub place : i < length t
  pub wide : span_limit d < class_span (get_or t i [])
  pub before : (k : ℕ) → k < i → class_span (get_or t k []) ≤ span_limit d

-- the flip, which is the triangulation across, has a class whose span is above the limit; the first of them is s, with the span c
pub record IsWideFlip (d : ℕ) (t : List (List (List ℤ))) (n : List ℤ) (s : List (List ℤ)) (c : ℤ) : Type 0 where
  pub flipped : List (List (List ℤ))
  pub flip : IsFlipOf d t n flipped
  pub across : IsAcross d t n flipped
  pub place : ℕ
  pub first : IsFirstWide d flipped place
  pub class_is : s ≡ get_or flipped place []
  pub span_is : c ≡ pos (class_span s)
