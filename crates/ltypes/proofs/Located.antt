-- The triangulation of a form, and what the commands on a form answer.
use Rattle.std.proofs.Common.{◌≡◌, ◌<◌, ◌∙◌, ℕ, ℤ, List, length, ap, subst, ◌⊎◌, inl, inr, sym}
use Rattle.lt_locate.specs.Endings.{inside, EndsWith}
use Rattle.lt_model.specs.Atlases.{Classes, Entry, Atlas, entry_at}
use Rattle.lt_model.specs.Forms.{numbers_of_form}
use Rattle.lt_model.specs.Triangulations.{IsDelaunay}
use Rattle.lt_triang.specs.Kept.{dimension_of}
use Rattle.lt_triang.proofs.SomeForm.{delaunay_dimension}
use Rattle.std.specs.declared.option.Option.{Option}
use Rattle.lt_io.proofs.Compose.{nothing_appended}
use Rattle.ltypes.specs.declared.status.Cause.{Cause}
use Rattle.ltypes.specs.declared.status.Cause.TheVariants.{Memory}
use Rattle.ltypes.specs.Changes.{change}
use Rattle.ltypes.specs.Forms.{IsLocated, AnswersForm}
use Rattle.ltypes.specs.Vectors.{AreOfEntry}
use Rattle.lt_locate.specs.Edges.{AreEdges}
use Rattle.lt_relevant.specs.Relevant.{AreRelevantOf}

pub located_here : (d steps : ℕ) (q : List ℤ) (i : ℕ) (t : Classes) → length q ≡ numbers_of_form d → EndsWith d q steps i t inside → IsDelaunay d q t → IsLocated (dimension_of t) steps q i t
located_here d steps q i t numbers ends delaunay =
    subst (λ (n : ℕ). IsLocated n steps q i t) (delaunay_dimension d q t delaunay) (record { numbers = numbers; ends = ends; delaunay = delaunay })

-- the relevant vectors of the triangulation of an entry
pub of_entry : (d : ℕ) (a : Atlas) (k : ℕ) (e : Entry) (vs : List (List ℤ)) → e ≡ entry_at a.entries k → k < length a.entries → dimension_of (entry_at a.entries k).triangulation ≡ d → AreEdges (dimension_of e.triangulation) e.triangulation vs → AreRelevantOf (dimension_of e.triangulation) e.triangulation vs → AreOfEntry d a k vs
of_entry d a k e vs is within at edges relevant =
    let same : dimension_of e.triangulation ≡ d = ap (λ (x : Entry). dimension_of x.triangulation) is ∙ at in
    record {
      within = within;
      edges = subst (λ (x : Entry). AreEdges d x.triangulation vs) is (subst (λ (n : ℕ). AreEdges n e.triangulation vs) same edges);
      relevant = subst (λ (x : Entry). AreRelevantOf d x.triangulation vs) is (subst (λ (n : ℕ). AreRelevantOf n e.triangulation vs) same relevant);
    }

-- where the triangulation of the form is refused, or memory was, the cause is the answer
pub refused_answer : (IsText : ℕ → ℕ → Classes → List ℕ → Type 0) (IsRefused : ℕ → Classes → Cause → Type 0) (steps : ℕ) (q : List ℤ) (held : Option (List ℕ)) (faults d i : ℕ) (t : Classes) (cause : Cause) → IsLocated d steps q i t → (cause ≡ Memory) ⊎ IsRefused d t cause → AnswersForm IsText IsRefused steps q (change held held faults faults) cause
refused_answer IsText IsRefused steps q held faults d i t cause located (inl e) =
    subst (λ (c : Cause). AnswersForm IsText IsRefused steps q (change held held faults faults) c) (sym e) (inl (nothing_appended held))
refused_answer IsText IsRefused steps q held faults d i t cause located (inr why) = inr (inr (d, i, t, located, why), nothing_appended held)
