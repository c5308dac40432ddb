-- Each entry of two atlases is equivalent to exactly one entry of the merged one, which therefore has not many.
use Rattle.std.proofs.Common.{◌≡◌, ℕ, ◌+◌, ◌-◌, ◌<◌, ◌≤◌, ◌⊎◌, ◌∙◌, refl, arith, sym, ap, subst, inl, inr, List, length, take, length-take}
use Rattle.std.proofs.lemmas.Bool.{cases_eq}
use Rattle.std.proofs.lemmas.List.{get_or-take}
use Rattle.lt_model.specs.Matrices.{identity, AreEquivalent}
use Rattle.lt_model.specs.Walls.{IsAcross}
use Rattle.lt_model.specs.Atlases.{Classes, Entry, Atlas, no_entry, entry_at, begin}
use Rattle.lt_model.specs.RightAtlases.{AreClasses}
use Rattle.lt_model.specs.Logs.{IsKept}
use Rattle.lt_core.specs.Beginnings.{first_entries}
use Rattle.lt_core.specs.Reached.{IsOneEntry}
use Rattle.lt_core.proofs.Equivalent.{carries_identity, carries_back, carries_on}
use Rattle.lt_core.proofs.Undo.{undo_all-dimension}
use Rattle.lt_core.proofs.Undone.{all_entries}
use Rattle.lt_merge.specs.Taken.{AreCovered, IsFrom, AreFrom}
use Rattle.lt_merge.proofs.Choices.{few_choices}

-- ---- the beginning of an atlas

pub begin_dimension : (a : Atlas) → (begin a).dimension ≡ a.dimension
begin_dimension a = undo_all-dimension (length a.log - 0) a

-- the entries at the beginning stand first
begin_entry : (a : Atlas) (k : ℕ) → k < length (begin a).entries → (k < length a.entries) × (entry_at (begin a).entries k ≡ entry_at a.entries k)
begin_entry a k l =
    let e : (begin a).entries ≡ take (first_entries a) a.entries = all_entries (length a.log - 0) a (omega arith) in
    let n = ap length e in
    let t = length-take (first_entries a) a.entries in
    (omega (arith, l, n, t), ap (λ (z : List Entry). entry_at z k) e ∙ get_or-take (first_entries a) a.entries k no_entry (omega (arith, l, n, t)))

module _ (a : Atlas) (kept : IsKept (IsAcross a.dimension) a) where
  pub classes : (k : ℕ) → k < length a.entries → AreClasses a.dimension (entry_at a.entries k).triangulation
  classes k l = (kept.right.parts.entries k l).classes

  -- what is equivalent to an entry is so to one alone
  pub one_entry : (c : Classes) (j : ℕ) → AreClasses a.dimension c → j < length a.entries → AreEquivalent a.dimension c (entry_at a.entries j).triangulation → IsOneEntry a.dimension a.entries c j
  one_entry c j all l e = record {
    present = l;
    equivalent = e;
    alone = λ i k f. elim (cases_eq i j) [
      | inl same ↦ same
      | inr other ↦ absurd (kept.right.parts.apart i j k l other (carries_on a.dimension (entry_at a.entries i).triangulation c (entry_at a.entries j).triangulation (classes i k) (carries_back a.dimension c (entry_at a.entries i).triangulation all f) e))
    ];
  }

  -- the entries of its beginning are
  pub first_covered : AreCovered (begin a) (length (begin a).entries) a
  first_covered k l =
      let s = begin_entry a k l in
      let t : Classes = (entry_at a.entries k).triangulation in
      (k, subst (λ (c : Classes). IsOneEntry a.dimension a.entries c k) (sym (ap (λ (z : Entry). z.triangulation) s.1)) (one_entry t k (classes k s.0) s.0 (identity a.dimension, carries_identity a.dimension t (classes k s.0))))

  -- no two entries come from one
  from_one : (s : Atlas) → s.dimension ≡ a.dimension → (i j k : ℕ) → i < length a.entries → j < length a.entries → AreClasses a.dimension (entry_at s.entries k).triangulation →
      AreEquivalent s.dimension (entry_at a.entries i).triangulation (entry_at s.entries k).triangulation → AreEquivalent s.dimension (entry_at a.entries j).triangulation (entry_at s.entries k).triangulation → i ≡ j
  from_one s same i j k li lj all ei ej =
      let d : ℕ = a.dimension in
      let c : Classes = (entry_at s.entries k).triangulation in
      let fi : AreEquivalent d (entry_at a.entries i).triangulation c = subst (λ (z : ℕ). AreEquivalent z (entry_at a.entries i).triangulation c) same ei in
      let fj : AreEquivalent d (entry_at a.entries j).triangulation c = subst (λ (z : ℕ). AreEquivalent z (entry_at a.entries j).triangulation c) same ej in
      let one = one_entry (entry_at a.entries i).triangulation j (classes i li) lj (carries_on d (entry_at a.entries i).triangulation c (entry_at a.entries j).triangulation (classes i li) fi (carries_back d (entry_at a.entries j).triangulation c (classes j lj) fj)) in
      one.alone i li (identity d, carries_identity d (entry_at a.entries i).triangulation (classes i li))

  -- the triangulation is equivalent to the n-th entry of s, or to that of t where those of t follow those of s
  abbrev Comes : Atlas → Atlas → Classes → ℕ → Type 0
  Comes s t c n =
      ((n < length s.entries) × AreEquivalent s.dimension c (entry_at s.entries n).triangulation)
      ⊎ ((m : ℕ) × (n ≡ length s.entries + m) × (m < length t.entries) × AreEquivalent t.dimension c (entry_at t.entries m).triangulation)

  module _ (t : Atlas) (same : t.dimension ≡ a.dimension) (kept_t : IsKept (IsAcross t.dimension) t) where
    classes_there : (m : ℕ) → m < length t.entries → AreClasses a.dimension (entry_at t.entries m).triangulation
    classes_there m l = subst (λ (z : ℕ). AreClasses z (entry_at t.entries m).triangulation) same (kept_t.right.parts.entries m l).classes

    classes_begin : (k : ℕ) → k < length (begin a).entries → AreClasses a.dimension (entry_at (begin a).entries k).triangulation
    classes_begin k l = let s = begin_entry a k l in subst (λ (z : Entry). AreClasses a.dimension z.triangulation) (sym s.1) (classes k s.0)

    once : (i j n : ℕ) → i < length a.entries → j < length a.entries → Comes (begin a) t (entry_at a.entries i).triangulation n → Comes (begin a) t (entry_at a.entries j).triangulation n → i ≡ j
    once i j n li lj (inl x) (inl y) = from_one (begin a) (begin_dimension a) i j n li lj (classes_begin n x.0) x.1 y.1
    once i j n li lj (inl x) (inr y) = let l = x.0 in let e = y.1 in absurd (omega (arith, l, e))
    once i j n li lj (inr x) (inl y) = let l = y.0 in let e = x.1 in absurd (omega (arith, l, e))
    once i j n li lj (inr x) (inr y) =
        let e : y.0 ≡ x.0 = (let f = x.1 in let g = y.1 in omega (arith, f, g)) in
        from_one t same i j x.0 li lj (classes_there x.0 x.2) x.3 (subst (λ (m : ℕ). AreEquivalent t.dimension (entry_at a.entries j).triangulation (entry_at t.entries m).triangulation) e y.3)

    comes : (c : Classes) → IsFrom (begin a) c ⊎ IsFrom t c → (n : ℕ) × (n < length (begin a).entries + length t.entries) × Comes (begin a) t c n
    comes c (inl x) = let l = x.1 in (x.0, omega (arith, l), inl (x.1, x.2))
    comes c (inr x) = let l = x.1 in (length (begin a).entries + x.0, omega (arith, l), inr (x.0, refl, x.1, x.2))

    pub few_entries : AreFrom (begin a) t a → length a.entries ≤ length (begin a).entries + length t.entries
    few_entries all =
        few_choices (length (begin a).entries + length t.entries) (λ i n. Comes (begin a) t (entry_at a.entries i).triangulation n) (length a.entries) (λ i l. comes (entry_at a.entries i).triangulation (all i l)) once

-- an atlas that begins with another one has its dimension
pub still_same : (s b t : Atlas) → begin b ≡ s → s.dimension ≡ t.dimension → b.dimension ≡ t.dimension
still_same s b t e same = sym (begin_dimension b) ∙ ap (λ (z : Atlas). z.dimension) e ∙ same
