-- Secondary cones with a certificate for each regulator. Schürmann, chapter 4; the certificates are this project's own.
use Rattle.std.specs.Prelude.{ℕ, ℤ, pos, ◌<ℤ◌, ◌<◌, ◌≤◌, ◌^◌, ◌≢◌, nat_abs, List, [], ◌∷◌, map, ◌≡◌, length, get_or}
use Rattle.std.specs.List.{All}
use Rattle.std.specs.List.Sorted.{IsStrictlySortedBy}
use Rattle.std.specs.Ordering.{nat_cmp}
use Rattle.lt_model.specs.Vectors.{plus, scale, dot, zeros, combine, IsPrimitive}
use Rattle.lt_model.specs.Forms.{numbers_of_form}
use Rattle.lt_model.specs.Walls.{AreRegulators}
use Rattle.lt_model.specs.Limits.{weight, weight_limit}

-- why a normal is a facet, or why it is none
pub data Verdict : Type 0 where
  wall : List ℤ → Verdict
  combination : ℤ → List (ℕ × ℤ) → Verdict

pub record Row : Type 0 where
  pub normal : List ℤ
  pub verdict : Verdict

pub record Cone : Type 0 where
  pub rows : List Row
  pub form : List ℤ

abbrev pub AreBelow : ℕ → List ℤ → Type 0
AreBelow bound = All (λ x. nat_abs x < bound)

-- the k-th normal is 0 at the form, and each other one is positive
pub record IsRightWall (d : ℕ) (ns : List (List ℤ)) (k : ℕ) (w : List ℤ) : Type 0 where
  pub numbers : length w ≡ numbers_of_form d
  pub primitive : IsPrimitive w
  pub below : AreBelow (2 ^ 62) w
  pub zero_there : dot (get_or ns k []) w ≡ pos 0
  pub others : (i : ℕ) → i < length ns → i ≢ k → pos 0 <ℤ dot (get_or ns i []) w

abbrev pub coefficients : List (ℕ × ℤ) → List ℤ
coefficients terms = map (λ p. p.1) terms

abbrev pub places : List (ℕ × ℤ) → List ℕ
places terms = map (λ p. p.0) terms

-- the sum of the terms. It starts from as many zeros as the k-th normal has numbers, so that no terms have zeros as
-- their sum
abbrev pub sum_of_terms : List (List ℤ) → ℕ → List (ℕ × ℤ) → List ℤ
sum_of_terms ns k terms =
    plus (zeros (length (get_or ns k []))) (combine (coefficients terms) (map (λ i. get_or ns i []) (places terms)))

-- factor times the k-th normal is the sum of the terms
pub record IsRightCombination (d : ℕ) (ns : List (List ℤ)) (k : ℕ) (factor : ℤ) (terms : List (ℕ × ℤ)) : Type 0 where
  pub some : pos 0 <ℤ factor
  pub few : length terms ≤ numbers_of_form d
  pub ascending : IsStrictlySortedBy nat_cmp (places terms)
  pub within : All (λ i. i < length ns) (places terms)
  pub other : All (λ i. i ≢ k) (places terms)
  pub positive : All (λ x. pos 0 <ℤ x) (coefficients terms)
  pub below : AreBelow (2 ^ 62) (factor ∷ coefficients terms)
  pub primitive : IsPrimitive (factor ∷ coefficients terms)
  pub sum : sum_of_terms ns k terms ≡ scale factor (get_or ns k [])

abbrev pub IsRightVerdict : ℕ → List (List ℤ) → ℕ → Verdict → Type 0
IsRightVerdict d ns k (wall w) = IsRightWall d ns k w
IsRightVerdict d ns k (combination factor terms) = IsRightCombination d ns k factor terms

abbrev pub normals : List Row → List (List ℤ)
normals rows = map (λ r. r.normal) rows

abbrev pub wall_or_none : Verdict → List ℤ
wall_or_none (wall w) = w
wall_or_none (combination factor terms) = []

-- the sum of the wall forms, of n numbers each: n zeros where there are none
abbrev pub sum_of_walls : ℕ → List Row → List ℤ
sum_of_walls n [] = zeros n
sum_of_walls n (r ∷ rows) = plus (wall_or_none r.verdict) (sum_of_walls n rows)

pub record IsRightCone (d : ℕ) (t : List (List (List ℤ))) (c : Cone) : Type 0 where
  pub regulators : AreRegulators d t (normals c.rows)
  pub verdicts : (k : ℕ) (r : Row) → k < length c.rows → IsRightVerdict d (normals c.rows) k (get_or c.rows k r).verdict
  pub light : weight d (normals c.rows) < weight_limit
  pub primitive : IsPrimitive c.form
  pub factor : ℕ
  pub some : 0 < factor
  pub sum : sum_of_walls (numbers_of_form d) c.rows ≡ scale (pos factor) c.form
