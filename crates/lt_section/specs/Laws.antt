-- What right verdicts tell.
use Rattle.std.specs.Prelude.{ℕ, ℤ, Bool, true, false, IsTrue, ◌↔◌, ◌⊎◌, List, [], get_or}
use Rattle.lt_laws.specs.Sections.{IsLive}
use Rattle.lt_section.specs.declared.answers.SectionVerdict.{SectionVerdict}
use Rattle.lt_section.specs.declared.answers.SectionVerdict.TheVariants.{Live, Dead, Combination}
use Rattle.lt_section.specs.Rows.{IsSectionFacet, IsDeadBy, IsRightVerdict}

abbrev pub says_live : SectionVerdict → Bool
says_live (Live at form) = true
says_live (Dead at form x) = false
says_live (Combination factor terms) = false

abbrev pub says_dead : SectionVerdict → Bool
says_dead (Live at form) = false
says_dead (Dead at form x) = true
says_dead (Combination factor terms) = false

abbrev pub says_none : SectionVerdict → Bool
says_none (Live at form) = false
says_none (Dead at form x) = false
says_none (Combination factor terms) = true

-- a facet with a positive definite form at each wall
abbrev pub IsLiveFacet : ℕ → List (List (List ℤ)) → List (List ℤ) → List ℤ → Type 0
IsLiveFacet d t fs r = IsSectionFacet d t fs r × IsLive d t fs r

-- a facet with a point, not 0, at which the form at each wall is 0
abbrev pub IsDeadFacet : ℕ → List (List (List ℤ)) → List (List ℤ) → List ℤ → Type 0
IsDeadFacet d t fs r = IsSectionFacet d t fs r × ((x : List ℤ) × IsDeadBy d t fs r x)

-- the verdict says live exactly where the normal is a live facet, dead exactly where it is a dead one, and neither
-- exactly where it is no facet; and a facet is live or dead
pub record Tells (d : ℕ) (t : List (List (List ℤ))) (fs : List (List ℤ)) (r : List ℤ) (v : SectionVerdict) : Type
    0 where
  pub live : IsTrue (says_live v) ↔ IsLiveFacet d t fs r
  pub dead : IsTrue (says_dead v) ↔ IsDeadFacet d t fs r
  pub none : IsTrue (says_none v) ↔ (IsSectionFacet d t fs r → ⊥)
  pub facet : IsSectionFacet d t fs r → IsLiveFacet d t fs r ⊎ IsDeadFacet d t fs r

abbrev pub VerdictsTell : Type 0
VerdictsTell =
    (d : ℕ) (t : List (List (List ℤ))) (fs rs : List (List ℤ)) (k : ℕ) (v : SectionVerdict) →
    IsRightVerdict d t fs rs k v → Tells d t fs (get_or rs k []) v
