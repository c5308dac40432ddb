-- What the laws of geometry say of crossings, which is all that the laws of atlases need of them.
use Rattle.std.proofs.Common.{◌≡◌, ℕ, ℤ, ◌≤◌, List, arith}
use Rattle.lt_model.specs.Principal.{IsPrincipal, principal_numbers}
use Rattle.lt_model.specs.Triangulations.{IsDelaunay}
use Rattle.lt_model.specs.Walls.{IsFacet, IsAcross}
use Rattle.lt_model.specs.Matrices.{Carries}
use Rattle.lt_model.specs.Atlases.{Classes}
use Rattle.lt_geometry.proofs.Neighbours.{principal_delaunay}
use Rattle.lt_geometry.proofs.Listed.{same_across}
use Rattle.lt_geometry.proofs.Crossed.{crossing_carried}

-- the Delaunay triangulation of some form
abbrev pub HasForm : ℕ → Classes → Type 0
HasForm d t = (q : List ℤ) × IsDelaunay d q t

pub record AreCrossings (Beyond : Classes → List ℤ → Classes → Type 0) (d : ℕ) : Type 0 where
  pub principal : (t : Classes) → IsPrincipal d t → HasForm d t
  pub kept : (t t' : Classes) (n : List ℤ) → HasForm d t → IsFacet d t n → Beyond t n t' → HasForm d t'
  pub one : (t t' t2 : Classes) (n : List ℤ) → HasForm d t → IsFacet d t n → Beyond t n t' → Beyond t n t2 → t' ≡ t2
  pub carried : (t t' p : Classes) (n : List ℤ) (u : List (List ℤ)) → HasForm d t → HasForm d p → Carries d u t p → IsFacet d t n → Beyond t n t' →
      (n2 : List ℤ) × (p2 : Classes) × IsFacet d p n2 × Beyond p n2 p2 × Carries d u t' p2

pub across_form : (d : ℕ) (t t' : Classes) (n : List ℤ) → IsAcross d t n t' → HasForm d t'
across_form d t t' n h = (_, h.beyond h.bound (omega arith))

pub across_laws : (d : ℕ) → 2 ≤ d → AreCrossings (IsAcross d) d
across_laws d low = record {
  principal = λ t p. (principal_numbers d, principal_delaunay d t (omega arith) p);
  kept = λ t t' n f c x. across_form d t t' n x;
  one = λ t t' t2 n f c x y. same_across d n t t' t2 low x y;
  carried = λ t t' p n u f g c k x. let r = crossing_carried d u t p n t' g.1.ascending c k x in (r.facet, r.list, r.is_facet, r.step, r.carries);
}
