-- What an atlas asks of a new entry, from what the triangulation across a facet and its cone are.
use Rattle.std.proofs.Common.{ℕ, zero, suc, arith, ◌<◌, subst}
use Rattle.lt_model.specs.Cones.{Cone, IsRightCone}
use Rattle.lt_model.specs.Triangulations.{IsDelaunay}
use Rattle.lt_model.specs.Walls.{IsAcross}
use Rattle.lt_model.specs.Matrices.{AreEquivalent}
use Rattle.lt_model.specs.Atlases.{Classes, Atlas, entry_at}
use Rattle.lt_model.specs.Logs.{IsCandidate}
use Rattle.lt_triang.specs.Kept.{dimension_of}
use Rattle.lt_core.specs.Candidates.{candidate}
use Rattle.lt_core.proofs.Crossings.{HasForm}
use Rattle.lt_core.proofs.Reaching.{classes_of_form}
use Rattle.lt_crew.specs.Settled.{LiesAcross, IsNarrow}

-- the triangulation t is unlike the first n entries
abbrev pub IsUnlike : Atlas → Classes → ℕ → Type 0
IsUnlike a t n = (i : ℕ) → i < n → AreEquivalent a.dimension t (entry_at a.entries i).triangulation → ⊥

pub unlike_none : (a : Atlas) (t : Classes) → IsUnlike a t 0
unlike_none a t i l = absurd (omega (arith, l))

pub unlike_one : (a : Atlas) (t : Classes) → (AreEquivalent a.dimension t (entry_at a.entries 0).triangulation → ⊥) → IsUnlike a t 1
unlike_one a t h zero l = h
unlike_one a t h (suc i) l = absurd (omega (arith, l))

pub is_candidate : (a : Atlas) (p n : ℕ) (t : Classes) (c : Cone) → LiesAcross a p t → IsNarrow a.dimension t → IsRightCone (dimension_of t) t c → IsUnlike a t n → IsCandidate (IsAcross a.dimension) a p n (candidate a p t c)
is_candidate a p n t c x w r u = record {
  is_across = x;
  right = record { classes = classes_of_form a.dimension t form; narrow = w.narrow; cone = subst (λ (z : ℕ). IsRightCone z t c) w.dimension r };
  unlike = u;
}
  where
    form : HasForm a.dimension t
    form = (w.delaunay.0, subst (λ (z : ℕ). IsDelaunay z w.delaunay.0 t) w.dimension w.delaunay.1)
