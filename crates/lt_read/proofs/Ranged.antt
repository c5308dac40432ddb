-- The text of an atlas that began without wide and heavy marks is in its ranges, where its entries are few.
use Rattle.std.proofs.Common.{◌≡◌, ℕ, zero, suc, ℤ, ◌+◌, ◌<◌, ◌≤◌, refl, sym, subst, arith, List, [], ◌∷◌, map, length, get_or}
use Rattle.std.specs.List.{AllByRecursion, Contains}
use Rattle.std.proofs.lemmas.List.{get_or-map, length-map}
use Rattle.std.proofs.lemmas.List.Elements.{recursion_from_All, All-from_get_or}
use Rattle.lt_model.specs.Limits.{span_limit}
use Rattle.lt_model.specs.Walls.{IsAcross}
use Rattle.lt_model.specs.Atlases.{Classes, Mark, no_mark, Entry, Atlas, entry_at, facets, stuck, begin}
use Rattle.lt_model.specs.Logs.{IsKept}
use Rattle.lt_model.proofs.Sets.{Contains-head, Contains-tail}
use Rattle.lt_model.proofs.Atlases.{facets_most}
use Rattle.lt_core.proofs.Crossings.{HasForm, across_laws}
use Rattle.lt_core.proofs.FewFacets.{few_rows}
use Rattle.lt_core.proofs.Reaching.{entry_form}
use Rattle.lt_geometry.proofs.Fewness.{few_classes}
use Rattle.lt_triang.proofs.Gaps.{near_from_span}
use Rattle.lt_grammar.specs.Ranges.{ClassFits, ClassesFit, OriginFits, MarkFits, MarksFit, EntryFits, EntriesFit, TextFits}
use Rattle.lt_text.specs.Texts.{class_numbers}
use Rattle.lt_text.specs.Values.{listed, mark_value, entry_value, entries_value, value_of}
use Rattle.lt_text.proofs.AsSpelt.{entries_long}
use Rattle.lt_read.proofs.RangedCones.{cone_fits}
use Rattle.lt_read.proofs.RangedMarks.{mark_fits}
use Rattle.lt_read.proofs.WideMarks.{class_below}
use Rattle.lt_read.proofs.Halves.{from_listed, some_listed, few_listed}

-- ---- lists

classes_all : (d : ℕ) (t : Classes) → ((s : List (List ℤ)) → Contains t s → ClassFits d (class_numbers s)) → AllByRecursion (ClassFits d) (map class_numbers t)
classes_all d [] h = tt
classes_all d (s ∷ t) h = (h s (Contains-head s t), classes_all d t (λ r c. h r (Contains-tail s t r c)))

-- the entries that are spelt from the number j on
entries_all : (version d : ℕ) (marks : List (List Mark)) (j : ℕ) (es : List Entry) → ((k n : ℕ) → k < length es → n ≡ j + k → EntryFits d n (entry_value version (entry_at es k) (get_or marks n []))) → EntriesFit d j (entries_value version marks j es)
entries_all version d marks j [] h = tt
entries_all version d marks j (e ∷ es) h = (h 0 j (omega arith) (omega arith), entries_all version d marks (suc j) es (λ k n l e. h (suc k) n (omega (arith, l)) (omega (arith, e))))

module _ (version : ℕ) (a : Atlas) (low : 2 ≤ a.dimension) (high : a.dimension ≤ 6) (kept : IsKept (IsAcross a.dimension) a) (none : stuck (begin a).marks ≡ 0) (few : length a.entries ≤ 100001) where
  abbrev d : ℕ
  d = a.dimension

  abbrev own : ℕ → Classes
  own k = (entry_at a.entries k).triangulation

  form : (k : ℕ) → k < length a.entries → HasForm d (own k)
  form k l = entry_form (IsAcross d) d (across_laws d low) a.entries a.marks kept.right.parts k l

  origin_fits : (k : ℕ) → k < length a.entries → OriginFits k (entry_at a.entries k).origin
  origin_fits zero l = subst (OriginFits 0) (sym kept.right.parts.no_origin) refl
  origin_fits (suc k) l =
      let o = kept.right.parts.origins (suc k) (omega arith) l in
      let before : o.parent < suc k = o.earlier in
      let there : o.parent < length a.entries = omega (arith, before, l) in
      let e = entry_at a.entries o.parent in
      let rows = few_rows d e.triangulation e.cone low high (form o.parent there) (kept.right.parts.entries o.parent there).cone in
      let most = facets_most e.cone.rows in
      let f = o.within in
      subst (OriginFits (suc k)) (sym o.named) ((λ z. absurd (omega (arith, z))), ((omega arith, omega (arith, there, few)), (omega arith, omega (arith, f, most, rows))))

  classes_fit : (k : ℕ) → k < length a.entries → ClassesFit d (map class_numbers (listed version (own k)))
  classes_fit k l =
      let f = form k l in
      let right = kept.right.parts.entries k l in
      let long = length-map (listed version (own k)) class_numbers in
      let some = some_listed version d (own k) low f in
      let least = few_listed version d (own k) low f in
      let most = few_classes d f.0 (own k) low high f.1 in (
        (omega (arith, long, some), omega (arith, long, least, most)),
        classes_all d (listed version (own k)) (λ s c.
            let m = from_listed version (own k) s c in
            class_below d (span_limit d) s (right.classes s m) (near_from_span (span_limit d) (own k) s right.narrow m)),
      )

  marks_fit : (k : ℕ) → k < length a.entries → MarksFit d (length (facets (entry_at a.entries k))) (map mark_value (get_or a.marks k []))
  marks_fit k l =
      let row : List Mark = get_or a.marks k [] in
      let long = length-map row mark_value in
      let count = kept.right.parts.each k l in
      let lists = kept.right.parts.lists in (
        (omega (arith, long, count), omega (arith, long, count)),
        recursion_from_All (MarkFits d) (map mark_value row) (All-from_get_or (MarkFits d) (map mark_value row) (mark_value no_mark) (λ f s.
            let here : f < length row = omega (arith, s, long) in
            subst (MarkFits d) (sym (get_or-map mark_value row f no_mark (mark_value no_mark) here)) (mark_fits a low high kept none (omega (arith, few)) (k, f) (omega (arith, l, lists)) here))),
      )

  entry_fits : (k n : ℕ) → k < length a.entries → n ≡ 0 + k → EntryFits d n (entry_value version (entry_at a.entries k) (get_or a.marks n []))
  entry_fits k n l e =
      let s : k ≡ n = omega (arith, e) in
      let c = entry_at a.entries k in
      subst (λ (m : ℕ). EntryFits d m (entry_value version c (get_or a.marks m []))) s (origin_fits k l, (classes_fit k l, (cone_fits d c.triangulation c.cone low high (form k l) (kept.right.parts.entries k l).cone, marks_fit k l)))

  pub text_fits : TextFits (value_of version a)
  text_fits =
      let long = entries_long version a.marks 0 a.entries in
      let some = kept.right.parts.occupied in
      ((low, high), ((omega (arith, long, some), omega (arith, long, few)), entries_all version d a.marks 0 a.entries entry_fits))
