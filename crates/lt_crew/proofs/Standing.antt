-- What a worker copied from a place, and what it knows of it when it comes back.
use Rattle.std.proofs.Common.{◌≡◌, ℕ, suc, ℤ, ◌+◌, ◌*◌, ◌<◌, ◌≤◌, arith, sym, ap, ◌∙◌, subst, inl, inr, List, [], ◌∷◌, ◌++◌, length, get_or, map, take, length-append}
use Rattle.lt_model.specs.Walls.{IsAcross}
use Rattle.lt_model.specs.Matrices.{AreEquivalent}
use Rattle.lt_model.specs.Atlases.{Classes, Entry, Atlas, no_entry, entry_at, place_at, facets}
use Rattle.lt_model.specs.Logs.{IsKept}
use Rattle.lt_triang.specs.Kept.{dimension_of, IsTriangulation}
use Rattle.std.proofs.lemmas.Bool.{cases_lt}
use Rattle.std.proofs.lemmas.List.{get_or_at, get_or_append_left, map-append, length-map, get_or-map}
use Rattle.std.specs.Arc.{arc_value}
use Rattle.std.proofs.Math.Seq.{take-suc}
use Rattle.lt_crew.specs.Shared.{triangulation_of}
use Rattle.std.specs.declared.sync.Arc.{Arc}
use Rattle.lt_model.specs.Flat.{rows}
use Rattle.lt_triang.proofs.Expressed.{dimension_is}
use Rattle.lt_match.specs.Matches.{IsFirstMatch}
use Rattle.lt_core.specs.Marks.{matrix_rows}
use Rattle.lt_colour.specs.Signatures.{IsFingerprint}
use Rattle.lt_core.proofs.Standing.{square_rows}
use Rattle.lt_crew.specs.declared.desk.Task.{Task}
use Rattle.lt_crew.specs.declared.desk.Test.{Test}
use Rattle.lt_crew.specs.Settled.{LiesAcross, IsNarrow}
use Rattle.lt_crew.specs.Standing.{StandsAt}
use Rattle.lt_crew.specs.Tasks.{home_of, known_of, IsTask, IsBeyond, IsTest, AreKnown, IsUnlikeKnown}
use Rattle.lt_crew.proofs.Places.{stands_at, form_here, is_facet}
use Rattle.lt_crew.proofs.Beyond.{facet_here, lies_across, narrow_here}

-- the same, of the copies
pub stands_as : (a : Atlas) (p : ℕ) (t r : Classes) (n m : List ℤ) → StandsAt a p (dimension_of t) t n → t ≡ r → n ≡ m → StandsAt a p (dimension_of r) r m
stands_as a p t r n m h same facet = subst (λ (z : List ℤ). StandsAt a p (dimension_of r) r z) facet (subst (λ (z : Classes). StandsAt a p (dimension_of z) z n) same h)

module _ (a : Atlas) (low : 2 ≤ a.dimension) (kept : IsKept (IsAcross a.dimension) a) (p : ℕ) (here : p < length a.queue) where
  module _ (k f : ℕ) (e : Entry) (n : List ℤ) (hk : k ≡ (place_at a.queue p).0) (hf : f ≡ (place_at a.queue p).1) (he : e ≡ entry_at a.entries k) (hn : n ≡ get_or (facets e) f []) where
    pub copies_stand : (home : Classes) (normal : List ℤ) → e.triangulation ≡ home → n ≡ normal → StandsAt a p (dimension_of home) home normal
    copies_stand home normal h m = stands_as a p e.triangulation home n normal (stands_at a low kept p here k f e n hk hf he hn) h m

    pub task_of : (t : Task) → (home_of t) ≡ e.triangulation → t.normal ≡ n → IsTask t
    task_of t h m =
        let s = copies_stand (home_of t) t.normal (sym h) (sym m) in
        record { delaunay = form_here a low kept p here (home_of t) s.triangulation; facet = facet_here a p (dimension_of (home_of t)) (home_of t) t.normal s (is_facet a low kept p here) }

-- what lies beyond the copies lies across the place
pub beyond_across : (a : Atlas) (p : ℕ) (t : Task) (r : Classes) → StandsAt a p (dimension_of (home_of t)) (home_of t) t.normal → IsBeyond t r → LiesAcross a p r
beyond_across a p t r s b = lies_across a p (dimension_of (home_of t)) (home_of t) r t.normal s b.across

pub beyond_narrow : (a : Atlas) (p : ℕ) (t : Task) (r : Classes) → StandsAt a p (dimension_of (home_of t)) (home_of t) t.normal → IsBeyond t r → IsNarrow a.dimension r
beyond_narrow a p t r s b = narrow_here a p (dimension_of (home_of t)) (home_of t) r t.normal s b.dimension b.delaunay b.narrow

-- one entry more is known
pub one_known : (a : Atlas) (print : List ℤ) (known : List Classes) (from k seen : ℕ) → AreKnown a print known from → ((i : ℕ) → from ≤ i → i < k → IsFingerprint a.dimension (entry_at a.entries i).triangulation print → ⊥)
    → seen < length known → (entry_at a.entries k).triangulation ≡ get_or known seen [] → AreKnown a print known (k + 1)
one_known a print known from k seen before between h same i l n f =
    elim (cases_lt i from) [
      | inl x ↦ before i x n f
      | inr x ↦ elim (cases_lt i k) [
        | inl y ↦ absurd (between i x y f)
        | inr y ↦ (let e : k ≡ i = omega (arith, l, y) in (seen, h, sym same ∙ ap (λ (z : ℕ). (entry_at a.entries z).triangulation) e))
      ]
    ]

-- the first match, by the rows of its matrix
pub match_first : (d : ℕ) (t image : Classes) (u : List ℤ) → IsTriangulation d t → length u ≡ dimension_of t * dimension_of t → IsFirstMatch (dimension_of t) t image (rows (dimension_of t) u) → IsFirstMatch (dimension_of t) t image (matrix_rows u)
match_first d t image u h e m =
    let same : d ≡ dimension_of t = dimension_is d t h in
    let low = h.low in
    let high = h.high in
    subst (λ (z : List (List ℤ)). IsFirstMatch (dimension_of t) t image z) (sym (square_rows (dimension_of t) u (omega (arith, low, same)) (omega (arith, high, same)) e)) m

pub same_dimension : (d e : ℕ) (t r : Classes) → IsTriangulation d t → IsTriangulation e r → d ≡ e → dimension_of t ≡ dimension_of r
same_dimension d e t r h k same = sym (dimension_is d t h) ∙ same ∙ dimension_is e r k

-- one known one more
pub unlike_more : (r image : Classes) (known all : List Classes) → all ≡ known ++ image ∷ [] → IsUnlikeKnown r known → (AreEquivalent (dimension_of r) r image → ⊥) → IsUnlikeKnown r all
unlike_more r image known all is h none j l =
    subst (λ (z : List Classes). j < length z → AreEquivalent (dimension_of r) r (get_or z j []) → ⊥) (sym is) there l
  where
    there : j < length (known ++ image ∷ []) → AreEquivalent (dimension_of r) r (get_or (known ++ image ∷ []) j []) → ⊥
    there k e =
        elim (cases_lt j (length known)) [
          | inl x ↦ h j x (subst (λ (z : Classes). AreEquivalent (dimension_of r) r z) (get_or_append_left known (image ∷ []) [] j x) e)
          | inr x ↦ (let n : j ≡ length known = omega (arith, k, x, length-append known (image ∷ [])) in none (subst (λ (z : Classes). AreEquivalent (dimension_of r) r z) (get_or_at known image [] [] j (sym n)) e))
        ]

pub test_same : (r : Classes) (a b : Test) → b.print.items ≡ a.print.items → b.known.items ≡ a.known.items → IsTest r a → IsTest r b
test_same r a b p k h = record { print = subst (λ (z : List ℤ). IsFingerprint (dimension_of r) r z) (sym p) h.print; unlike = subst (λ (z : List Classes). IsUnlikeKnown r z) (sym (ap (map arc_value) k)) h.unlike }

pub test_more : (r : Classes) (image : _) (a b : Test) → b.print.items ≡ a.print.items → b.known.items ≡ a.known.items ++ image ∷ [] → IsTest r a → (AreEquivalent (dimension_of r) r (arc_value image) → ⊥) → IsTest r b
test_more r image a b p k h none =
    record { print = subst (λ (z : List ℤ). IsFingerprint (dimension_of r) r z) (sym p) h.print; unlike = unlike_more r (arc_value image) (known_of a) (known_of b) (ap (map arc_value) k ∙ map-append arc_value a.known.items (image ∷ [])) h.unlike none }

-- the shared triangulations are those of the entries
pub shared_at : {Z : Type 0} (shared : List (Arc Classes Z)) (es : List Entry) (k : ℕ) (s : Arc Classes Z) → map arc_value shared ≡ map (λ (e : Entry). e.triangulation) es → k < length es → s ≡ get_or shared k s → arc_value s ≡ (entry_at es k).triangulation
shared_at shared es k s all l here =
    let n : length shared ≡ length es = sym (length-map shared arc_value) ∙ ap length all ∙ length-map es (λ (e : Entry). e.triangulation) in
    ap arc_value here ∙ sym (get_or-map arc_value shared k s (arc_value s) (omega (arith, l, n))) ∙ ap (λ (z : List Classes). get_or z k (arc_value s)) all ∙ get_or-map (λ (e : Entry). e.triangulation) es k no_entry (arc_value s) l

pub shared_count : {Z : Type 0} (shared : List (Arc Classes Z)) (es : List Entry) → map arc_value shared ≡ map (λ (e : Entry). e.triangulation) es → length shared ≡ length es
shared_count shared es all = sym (length-map shared arc_value) ∙ ap length all ∙ length-map es (λ (e : Entry). e.triangulation)

-- one more is shared
pub next_shared : {Z : Type 0} (shared all : List (Arc Classes Z)) (es : List Entry) (k : ℕ) (s : Arc Classes Z) → map arc_value shared ≡ take k (map triangulation_of es) → all ≡ shared ++ s ∷ [] → k < length es → arc_value s ≡ (entry_at es k).triangulation
    → map arc_value all ≡ take (k + 1) (map triangulation_of es)
next_shared shared all es k s before more l same =
    let n : k < length (map triangulation_of es) = omega (arith, l, length-map es triangulation_of) in
    let t : get_or (map triangulation_of es) k [] ≡ arc_value s = get_or-map triangulation_of es k no_entry [] l ∙ sym same in
    let e : k + 1 ≡ suc k = omega arith in
    ap (map arc_value) more ∙ map-append arc_value shared (s ∷ []) ∙ ap (λ (z : List Classes). z ++ arc_value s ∷ []) before ∙ ap (λ (z : Classes). take k (map triangulation_of es) ++ z ∷ []) (sym t) ∙ sym (take-suc (map triangulation_of es) k [] n) ∙ ap (λ (z : ℕ). take z (map triangulation_of es)) (sym e)
