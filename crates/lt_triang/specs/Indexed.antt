-- An index of facets, and the first of them that lies across a facet.
use Rattle.std.specs.Prelude.{ℕ, suc, ℤ, ◌<◌, ◌≡◌, ◌^◌, ◌*◌, ◌∷◌, List, [], map, length, get_or, Vec}
use Rattle.std.specs.List.{Contains}
use Rattle.lt_triang.specs.Across.{IsNotFacing, IsFirstAcross}
use Rattle.lt_triang.specs.Codes.{bucket_of}
use Rattle.lt_triang.specs.declared.neighbours.Across.{Across}
use Rattle.lt_model.specs.Cones.{AreBelow}
use Rattle.lt_model.specs.Order.{IsBefore}
use Rattle.lt_model.specs.Simplices.{IsExpression}
use Rattle.lt_model.specs.Vectors.{plus, IsPrimitive}

-- the facet at a place of a bucket
abbrev pub entry_at : List (List (ℕ × ℕ)) → ℕ → ℕ → ℕ × ℕ
entry_at bs b q = get_or (get_or bs b []) q (0, 0)

abbrev pub size_at : List (List (ℕ × ℕ)) → ℕ → ℕ
size_at bs b = length (get_or bs b [])

-- the facets of each bucket
abbrev pub buckets_of : {Z : Type 0} → List (Vec (ℕ × ℕ) Z) → List (List (ℕ × ℕ))
buckets_of vs = map (λ v. v.items) vs

-- the facets that come before facet k of the class at place m, each in its bucket, ascending
pub record IsIndexBelow (d : ℕ) (t : List (List (List ℤ))) (m k : ℕ) (bs : List (List (ℕ × ℕ))) : Type 0 where
  pub count : length bs ≡ 4 * length t
  pub each : (n j : ℕ) → j < suc d → IsBefore (n, j) (m, k) → Contains (get_or bs (bucket_of t n j) []) (n, j)
  pub before : (b q : ℕ) → q < size_at bs b → IsBefore (entry_at bs b q) (m, k)
  pub ascending : (b p q : ℕ) → p < q → q < size_at bs b → IsBefore (entry_at bs b p) (entry_at bs b q)
  pub places : (b q : ℕ) → q < size_at bs b → (entry_at bs b q).1 < suc d

-- the facets of all classes
abbrev pub IsIndex : ℕ → List (List (List ℤ)) → List (List (ℕ × ℕ)) → Type 0
IsIndex d t bs = IsIndexBelow d t (length t) 0 bs

-- the facets stand in the list of classes
abbrev pub ArePlaces : ℕ → List (List (List ℤ)) → List (ℕ × ℕ) → Type 0
ArePlaces d t fs = (q : ℕ) → q < length fs → ((get_or fs q (0, 0)).0 < length t) × ((get_or fs q (0, 0)).1 < suc d)

-- none of the first facets lies across the facet
abbrev pub AreNotFacing : ℕ → List (List (List ℤ)) → List (List ℤ) → ℕ → List (ℕ × ℕ) → ℕ → Type 0
AreNotFacing d t s i fs n =
    (q : ℕ) → q < n → IsNotFacing d s i (get_or t (get_or fs q (0, 0)).0 []) (get_or fs q (0, 0)).1

-- w is vertex j of the class next, moved by p, with its expression over the class s in lowest terms
pub record IsOuterIn (s next : List (List ℤ)) (p : List ℤ) (j : ℕ) (w : List ℤ) (c : ℤ) (b : List ℤ) : Type 0 where
  pub vertex : w ≡ plus (get_or next j []) p
  pub expression : IsExpression s w c b
  pub primitive : IsPrimitive (c ∷ b)
  pub below : AreBelow (2 ^ 59) (c ∷ b)

-- the outer vertex that is kept is that of the neighbour that is kept
abbrev pub HasOuter : List (List (List ℤ)) → List (List ℤ) → Across → Type 0
HasOuter t s a = IsOuterIn s (get_or t a.neighbour.class []) a.neighbour.shift a.neighbour.vertex a.outer.vertex a.outer.expression.scale a.outer.expression.coefficients

-- the first member across facet i of the class s, and its outer vertex
pub record IsKept (d : ℕ) (t : List (List (List ℤ))) (s : List (List ℤ)) (i : ℕ) (a : Across) : Type 0 where
  pub first : IsFirstAcross d t s i a.neighbour.class a.neighbour.shift a.neighbour.vertex
  pub outer : HasOuter t s a
