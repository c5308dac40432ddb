-- Laws of unimodular matrices that carry triangulations: images, crossings, and where the matrices come from.
use Rattle.std.specs.Prelude.{ℕ, suc, ℤ, List, [], length, get_or, ◌<◌, ◌≡◌}
use Rattle.std.specs.List.{Contains}
use Rattle.std.specs.List.Sorted.{IsStrictlySortedBy}
use Rattle.lt_model.specs.Matrices.{times, apply, identity, IsSquare, Carries}
use Rattle.lt_model.specs.Flips.{IsFlipOf}
use Rattle.lt_model.specs.Order.{simplex_cmp}
use Rattle.lt_model.specs.Principal.{IsOrder}
use Rattle.lt_model.specs.Simplices.{IsClass}
use Rattle.lt_model.specs.Triangulations.{IsDelaunay}
use Rattle.lt_model.specs.Vectors.{minus}
use Rattle.lt_model.specs.Forms.{value}
use Rattle.lt_model.specs.Walls.{IsFacet, IsAcross}

abbrev pub AreClasses : ℕ → List (List (List ℤ)) → Type 0
AreClasses d t = (s : List (List ℤ)) → Contains t s → IsClass d s

-- ---- being equivalent

abbrev pub IsEquivalentToItself : Type 0
IsEquivalentToItself = (d : ℕ) (t : List (List (List ℤ))) → AreClasses d t → Carries d (identity d) t t

abbrev pub InverseCarriesBack : Type 0
InverseCarriesBack = (d : ℕ) (u : List (List ℤ)) (t t2 : List (List (List ℤ))) → AreClasses d t → (h : Carries d u t t2)
    → Carries d h.inverse t2 t

abbrev pub ProductsCarry : Type 0
ProductsCarry =
    (d : ℕ) (u v : List (List ℤ)) (t t2 t3 : List (List (List ℤ))) → AreClasses d t → Carries d u t t2
    → Carries d v t2 t3 → Carries d (times v u) t t3

-- ---- what is carried

-- an ascending image of a Delaunay triangulation is that of a form with the values of the first at the inverse images
abbrev pub ImagesAreDelaunay : Type 0
ImagesAreDelaunay =
    (d : ℕ) (u : List (List ℤ)) (t t2 : List (List (List ℤ))) (q : List ℤ) → (h : Carries d u t t2)
    → IsStrictlySortedBy simplex_cmp t2 → IsDelaunay d q t →
    (r : List ℤ) × IsDelaunay d r t2 × ((x : List ℤ) → length x ≡ d → value r x ≡ value q (apply h.inverse x))

-- a crossing of p onto which u carries t2
pub record IsCrossingOnto (d : ℕ) (u : List (List ℤ)) (p t2 : List (List (List ℤ)))
    (Step : List (List (List ℤ)) → List ℤ → List (List (List ℤ)) → Type 0) : Type 0 where
  pub facet : List ℤ
  pub list : List (List (List ℤ))
  pub is_facet : IsFacet d p facet
  pub step : Step p facet list
  pub carries : Carries d u t2 list

-- a triangulation across a facet goes to one across a facet of the image
abbrev pub CrossingsAreCarried : Type 0
CrossingsAreCarried =
    (d : ℕ) (u : List (List ℤ)) (t p : List (List (List ℤ))) (n : List ℤ) (t2 : List (List (List ℤ)))
    → IsStrictlySortedBy simplex_cmp p → Carries d u t p → IsFacet d t n → IsAcross d t n t2
    → IsCrossingOnto d u p t2 (IsAcross d)

-- the flip at a facet goes to the flip at a facet of the image
abbrev pub FlipsAreCarried : Type 0
FlipsAreCarried =
    (d : ℕ) (u : List (List ℤ)) (t p : List (List (List ℤ))) (n : List ℤ) (t2 : List (List (List ℤ))) → AreClasses d t
    → Carries d u t p → IsFacet d t n → IsFlipOf d t n t2 → IsCrossingOnto d u p t2 (IsFlipOf d)

-- ---- candidates

-- the matrix sends the vertices of s to those of s2 in the order p, less the first of that order
pub record IsCandidate (d : ℕ) (s s2 : List (List ℤ)) (p : List ℕ) (u : List (List ℤ)) : Type 0 where
  pub square : IsSquare d u
  pub images : (i : ℕ) → i < suc d → apply u (get_or s i []) ≡ minus (get_or s2 (get_or p i 0) [])
      (get_or s2 (get_or p 0 0) [])

-- a member of t2 and an order of which u is the candidate
pub record IsFromAnOrder (d : ℕ) (t2 : List (List (List ℤ))) (s : List (List ℤ)) (u : List (List ℤ)) : Type 0 where
  pub to : List (List ℤ)
  pub member : Contains t2 to
  pub order : List ℕ
  pub is_order : IsOrder (suc d) order
  pub candidate : IsCandidate d s to order u

abbrev pub WhatCarriesIsACandidate : Type 0
WhatCarriesIsACandidate = (d : ℕ) (u : List (List ℤ)) (t t2 : List (List (List ℤ))) (s : List (List ℤ)) → AreClasses d t
    → Carries d u t t2 → Contains t s → IsFromAnOrder d t2 s u

abbrev pub OrdersHaveOneCandidate : Type 0
OrdersHaveOneCandidate = (d : ℕ) (s s2 : List (List ℤ)) (p : List ℕ) (u w : List (List ℤ)) → IsClass d s
    → IsCandidate d s s2 p u → IsCandidate d s s2 p w → u ≡ w
