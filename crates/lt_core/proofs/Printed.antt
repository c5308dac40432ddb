-- The fingerprints that an atlas keeps are those of its entries, and say which entries have a fingerprint.
use Rattle.std.proofs.Common.{◌≡◌, ℕ, ℤ, suc, refl, ◌<◌, ◌≤◌, ap, arith, sym, ◌∙◌, subst, List, [], ◌∷◌, ◌++◌, length, get_or, map}
use Rattle.std.proofs.lemmas.List.{get_or-map, get_or_default, get_or_append_left, get_or_push, length-map, map-append}
use Rattle.lt_model.specs.Walls.{IsAcross}
use Rattle.lt_model.specs.Atlases as model
use Rattle.lt_model.specs.RightAtlases.{AreRight}
use Rattle.lt_triang.specs.Kept.{dimension_of, IsOfSomeForm}
use Rattle.lt_triang.proofs.SomeForm.{delaunay_dimension, some_form}
use Rattle.lt_colour.specs.Signatures.{IsFingerprint}
use Rattle.lt_colour.proofs.Fingerprinted.{one_fingerprint}
use Rattle.lt_colour.proofs.Numbers.{each_more}
use Rattle.lt_core.specs.declared.marks.Entry.{Entry}
use Rattle.lt_core.specs.declared.atlas.Atlas.TheInside.{Inside}
use Rattle.lt_core.specs.Marks.{entry_of}
use Rattle.lt_core.specs.Prints.{ArePrints}
use Rattle.lt_core.specs.Meaning.{value_of, KeepsAtlas}
use Rattle.lt_core.proofs.Undo.{length_more}
use Rattle.lt_core.proofs.Crossings.{HasForm, across_laws}
use Rattle.lt_core.proofs.Reaching.{entry_form}

-- ---- fingerprints that are made

pub form_print : (d : ℕ) (t : model.Classes) (p : List ℤ) → HasForm d t → IsFingerprint (dimension_of t) t p → IsFingerprint d t p
form_print d t p f h = subst (λ (e : ℕ). IsFingerprint e t p) (sym (delaunay_dimension d f.0 t f.1)) h

pub form_some : (d : ℕ) (t : model.Classes) → HasForm d t → IsOfSomeForm t
form_some d t f = some_form d f.0 t f.1

module _ (d : ℕ) (low : 2 ≤ d) (xs : List Entry) (ms : List (List model.Mark)) (h : AreRight (IsAcross d) d (map entry_of xs) ms) where
  form : (k : ℕ) → k < length xs → HasForm d (model.entry_at (map entry_of xs) k).triangulation
  form k l = entry_form (IsAcross d) d (across_laws d low) (map entry_of xs) ms h k (let n = length-map xs entry_of in omega (arith, l, n))

  pub some_forms : (ys : List Entry) → ys ≡ xs → (k : ℕ) → k < length ys → IsOfSomeForm (model.entry_at (map entry_of ys) k).triangulation
  some_forms ys e =
      subst (λ (zs : List Entry). (k : ℕ) → k < length zs → IsOfSomeForm (model.entry_at (map entry_of zs) k).triangulation) (sym e)
      (λ k l. form_some d (model.entry_at (map entry_of xs) k).triangulation (form k l))

  pub made_prints : (ys : List Entry) → ys ≡ xs → (ps : List (List ℤ)) → length ps ≡ length ys → ((k : ℕ) → k < length ys → IsFingerprint (dimension_of (model.entry_at (map entry_of ys) k).triangulation) (model.entry_at (map entry_of ys) k).triangulation (get_or ps k [])) →
      ArePrints d (map entry_of xs) ps
  made_prints ys e ps n g =
      let here : (k : ℕ) → k < length xs → IsFingerprint (dimension_of (model.entry_at (map entry_of xs) k).triangulation) (model.entry_at (map entry_of xs) k).triangulation (get_or ps k []) =
      subst (λ (zs : List Entry). (k : ℕ) → k < length zs → IsFingerprint (dimension_of (model.entry_at (map entry_of zs) k).triangulation) (model.entry_at (map entry_of zs) k).triangulation (get_or ps k [])) e g in
      let m = length-map xs entry_of in
      record {
        count = n ∙ ap length e ∙ sym m;
        each = λ k l. (let s : k < length xs = omega (arith, l, m) in form_print d (model.entry_at (map entry_of xs) k).triangulation (get_or ps k []) (form k s) (here k s));
      }

-- ---- one fingerprint more

prints_more : (d : ℕ) (es : List model.Entry) (ps : List (List ℤ)) (e : model.Entry) (p : List ℤ) → ArePrints d es ps → IsFingerprint d e.triangulation p → ArePrints d (es ++ e ∷ []) (ps ++ p ∷ [])
prints_more d es ps e p g h = record {
  count = length_more ps p ∙ ap suc g.count ∙ sym (length_more es e);
  each = λ k l.
      each_more (λ i x. IsFingerprint d (model.entry_at (es ++ e ∷ []) i).triangulation x) ps p [] (length es) g.count
      (λ i s. subst (λ (z : model.Entry). IsFingerprint d z.triangulation (get_or ps i [])) (sym (get_or_append_left es (e ∷ []) model.no_entry i s)) (g.each i s))
      (subst (λ (z : model.Entry). IsFingerprint d z.triangulation p) (sym (get_or_push es e model.no_entry (length es) refl)) h)
      k (let n = length_more es e in omega (arith, l, n));
}

pub prints_extended : (d : ℕ) (xs ys : List Entry) (x : Entry) (ps qs : List (List ℤ)) (p : List ℤ) → ys ≡ xs ++ x ∷ [] → qs ≡ ps ++ p ∷ [] → ArePrints d (map entry_of xs) ps → IsFingerprint d x.triangulation p → ArePrints d (map entry_of ys) qs
prints_extended d xs ys x ps qs p ey eq g h =
    subst (λ (zs : List model.Entry). ArePrints d zs qs) (sym (ap (map entry_of) ey ∙ map-append entry_of xs (x ∷ [])))
    (subst (λ (rs : List (List ℤ)). ArePrints d (map entry_of xs ++ entry_of x ∷ []) rs) (sym eq)
    (prints_more d (map entry_of xs) ps (entry_of x) p g h))

pub print_read : (ps : List (List ℤ)) (k : ℕ) (r : List ℤ) → k < length ps → r ≡ get_or ps k r → get_or ps k [] ≡ r
print_read ps k r h e = get_or_default ps k [] r h ∙ sym e

pub entry_read : (xs : List Entry) (k : ℕ) (x : Entry) → k < length xs → x ≡ get_or xs k x → entry_of x ≡ model.entry_at (map entry_of xs) k
entry_read xs k x h e = ap entry_of e ∙ sym (get_or-map entry_of xs k x model.no_entry h)

-- ---- the entries with a fingerprint

module _ (i : Inside) (inv : KeepsAtlas i) (b : model.Atlas) (hb : value_of i ≡ b) (k : ℕ) (l : k < length b.entries) where
  within : k < length (map entry_of i.entries.items)
  within = subst (λ (z : model.Atlas). k < length z.entries) (sym hb) l

  pub print_within : k < length i.prints.items
  print_within = let n = inv.prints.count in let s = within in omega (arith, n, s)

  module _ (print : List ℤ) where
    pub print_is : get_or i.prints.items k [] ≡ print → IsFingerprint b.dimension (model.entry_at b.entries k).triangulation print
    print_is e =
        subst (λ (z : model.Atlas). IsFingerprint z.dimension (model.entry_at z.entries k).triangulation print) hb
        (subst (λ (p : List ℤ). IsFingerprint i.dimension (model.entry_at (map entry_of i.entries.items) k).triangulation p) e (inv.prints.each k within))

    pub is_print : IsFingerprint b.dimension (model.entry_at b.entries k).triangulation print → get_or i.prints.items k [] ≡ print
    is_print p =
        let h : AreRight (IsAcross i.dimension) i.dimension (value_of i).entries (value_of i).marks = inv.sound.kept.right.parts in
        let f = entry_form (IsAcross i.dimension) i.dimension (across_laws i.dimension inv.sound.low) (value_of i).entries (value_of i).marks h k within in
        let here : IsFingerprint i.dimension (model.entry_at (value_of i).entries k).triangulation print = subst (λ (z : model.Atlas). IsFingerprint z.dimension (model.entry_at z.entries k).triangulation print) (sym hb) p in
        one_fingerprint i.dimension f.0 (model.entry_at (value_of i).entries k).triangulation (get_or i.prints.items k []) print f.1 (inv.prints.each k within) here
