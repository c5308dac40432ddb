-- Signatures of classes: the expressions of the vertices beyond their facets, in an order that no change of basis alters.
use Rattle.std.specs.Prelude.{ℕ, suc, ℤ, List, [], ◌∷◌, map, length, get_or, ◌<◌, ◌≡◌}
use Rattle.std.specs.List.{Contains}
use Rattle.std.specs.List.Sorted.{IsSorted, IsPermutation}
use Rattle.std.specs.Ordering.{int_cmp}
use Rattle.std.specs.declared.cmp.Ordering.{Ordering}
use Rattle.lt_model.specs.Flat.{flat}
use Rattle.lt_model.specs.Order.{number_list_cmp}
use Rattle.lt_model.specs.Vectors.{IsPrimitive}
use Rattle.lt_model.specs.Simplices.{IsClassOf, IsExpression, translate}
use Rattle.lt_model.specs.Facets.{without, number_at, IsNeighbour}
use Rattle.lt_model.specs.Matrices.{apply, Carries, AreEquivalent}
use Rattle.lt_model.specs.Triangulations.{IsDelaunay}

-- ys holds the members of xs in ascending order
pub record IsInOrder {X : Type 0} (R : X → X → Ordering) (xs ys : List X) : Type 0 where
  pub permutation : IsPermutation xs ys
  pub ascending : IsSorted R ys

-- c, the number at place i, and the other numbers in ascending order
pub record AreNumbersFrom (i : ℕ) (c : ℤ) (b : List ℤ) (sig : List ℤ) : Type 0 where
  pub others : List ℤ
  pub in_order : IsInOrder int_cmp (without i b) others
  pub is : sig ≡ c ∷ number_at i b ∷ others

-- the numbers of the primitive expression of the vertex beyond facet i
pub record IsPairSignature (d : ℕ) (t : List (List (List ℤ))) (s : List (List ℤ)) (i : ℕ) (sig : List ℤ) : Type 0 where
  pub next : List (List ℤ)
  pub shift : List ℤ
  pub outer : ℕ
  pub neighbour : IsNeighbour d t s i next shift outer
  pub c : ℤ
  pub b : List ℤ
  pub expression : IsExpression s (get_or (translate shift next) outer []) c b
  pub primitive : IsPrimitive (c ∷ b)
  pub numbers : AreNumbersFrom i c b sig

-- the signatures of the pairs at its facets, in the order of facets
pub record ArePairSignatures (d : ℕ) (t : List (List (List ℤ))) (s : List (List ℤ)) (pairs : List (List ℤ)) : Type 0 where
  pub count : length pairs ≡ suc d
  pub each : (i : ℕ) → i < suc d → IsPairSignature d t s i (get_or pairs i [])

-- the signatures of the pairs at its facets in ascending order, one after the other
pub record IsClassSignature (d : ℕ) (t : List (List (List ℤ))) (s : List (List ℤ)) (sig : List ℤ) : Type 0 where
  pub pairs : List (List ℤ)
  pub signatures : ArePairSignatures d t s pairs
  pub ascending : List (List ℤ)
  pub in_order : IsInOrder number_list_cmp pairs ascending
  pub is : sig ≡ flat ascending

-- the signatures of the classes, in the order of classes
pub record AreClassSignatures (d : ℕ) (t : List (List (List ℤ))) (signatures : List (List ℤ)) : Type 0 where
  pub count : length signatures ≡ length t
  pub each : (k : ℕ) → k < length t → IsClassSignature d t (get_or t k []) (get_or signatures k [])

-- the signatures of the classes in ascending order, one after the other
pub record IsFingerprint (d : ℕ) (t : List (List (List ℤ))) (f : List ℤ) : Type 0 where
  pub classes : List (List ℤ)
  pub signatures : AreClassSignatures d t classes
  pub ascending : List (List ℤ)
  pub in_order : IsInOrder number_list_cmp classes ascending
  pub is : f ≡ flat ascending

-- a matrix that carries one Delaunay triangulation onto another takes a member to one with the same signature
abbrev pub SignaturesAreInvariant : Type 0
SignaturesAreInvariant =
    (d : ℕ) (q q2 : List ℤ) (u : List (List ℤ)) (t t2 : List (List (List ℤ))) (s s2 : List (List ℤ)) (a b : List ℤ) → IsDelaunay d q t → IsDelaunay d q2 t2 → Carries d u t t2 → Contains t s → IsClassOf d (map (apply u) s) s2 →
    IsClassSignature d t s a → IsClassSignature d t2 s2 b → a ≡ b

-- equivalent Delaunay triangulations have the same fingerprint
abbrev pub FingerprintsAreInvariant : Type 0
FingerprintsAreInvariant =
    (d : ℕ) (q q2 : List ℤ) (t t2 : List (List (List ℤ))) (f f2 : List ℤ) → IsDelaunay d q t → IsDelaunay d q2 t2 → AreEquivalent d t t2 → IsFingerprint d t f → IsFingerprint d t2 f2 → f ≡ f2
