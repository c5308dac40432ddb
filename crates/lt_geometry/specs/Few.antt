-- How many classes and regulators a Delaunay triangulation has.
use Rattle.std.specs.Prelude.{ℕ, zero, suc, ℤ, ◌+◌, ◌*◌, ◌-◌, ◌≤◌, ◌^◌, List, length}
use Rattle.lt_model.specs.Triangulations.{IsDelaunay}
use Rattle.lt_model.specs.Walls.{AreRegulators}

-- the number of choices of k out of n
abbrev pub binomial : ℕ → ℕ → ℕ
binomial zero zero = 1
binomial zero (suc k) = 0
binomial (suc n) zero = 1
binomial (suc n) (suc k) = binomial n k + binomial n (suc k)

-- a class is a choice of d of 2^d - 1 edges
abbrev pub ClassesAreChoices : Type 0
ClassesAreChoices = (d : ℕ) (q : List ℤ) (t : List (List (List ℤ))) → IsDelaunay d q t
    → length t ≤ binomial (2 ^ d - 1) d

-- a regulator stands at a facet of a class
abbrev pub RegulatorsAreAtFacets : Type 0
RegulatorsAreAtFacets = (d : ℕ) (q : List ℤ) (t : List (List (List ℤ))) (ns : List (List ℤ)) → IsDelaunay d q t
    → AreRegulators d t ns → length ns ≤ length t * suc d

-- few classes and few regulators in dimension 2 to 6
abbrev pub FewClasses : Type 0
FewClasses = (d : ℕ) (q : List ℤ) (t : List (List (List ℤ))) → 2 ≤ d → d ≤ 6 → IsDelaunay d q t → length t ≤ 2 ^ 27

abbrev pub FewRegulators : Type 0
FewRegulators = (d : ℕ) (q : List ℤ) (t : List (List (List ℤ))) (ns : List (List ℤ)) → 2 ≤ d → d ≤ 6 → IsDelaunay d q t
    → AreRegulators d t ns → length ns ≤ 2 ^ 29
