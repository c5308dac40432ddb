-- A text whose entries have passed, whose crosses are right, and which has no twins makes a right atlas.
use Rattle.std.proofs.Common.{◌≡◌, ◌≢◌, ℕ, zero, suc, ℤ, ◌<◌, ◌≤◌, inl, inr, refl, sym, ap, ◌∙◌, subst, arith, List, [], map, length, get_or, Some, None, Option}
use Rattle.std.proofs.lemmas.Bool.{cases_lt}
use Rattle.std.proofs.lemmas.List.{get_or-map, length-map}
use Rattle.lt_model.specs.Flat.{rows}
use Rattle.lt_model.specs.Limits.{span, span_limit}
use Rattle.lt_model.specs.Matrices.{Carries, AreEquivalent}
use Rattle.lt_model.specs.Walls.{IsAcross}
use Rattle.lt_model.specs.Atlases as model
use Rattle.lt_model.specs.Atlases.{Classes}
use Rattle.lt_model.specs.RightAtlases.{AreRight, IsRightEntry}
use Rattle.lt_model.specs.RightAtlases as right
use Rattle.lt_principal.proofs.Narrow.{principal_narrow}
use Rattle.lt_grammar.specs.Texts.{Mark, open_mark, cross, wide, heavy, Entry, Text}
use Rattle.lt_grammar.specs.Ranges.{OriginFits, EntriesFit, TextFits}
use Rattle.lt_core.specs.Marks.{matrix_rows}
use Rattle.lt_core.proofs.Equivalent.{carries_back}
use Rattle.lt_core.proofs.Reaching.{classes_of_form}
use Rattle.lt_core.proofs.Recording.{cross_parts}
use Rattle.lt_core.proofs.Sounds.{identity_rows}
use Rattle.lt_core.proofs.Undo.{mark_within}
use Rattle.lt_core.proofs.Standing.{square_rows}
use Rattle.lt_read.specs.Refused.{entry_at, IsListed}
use Rattle.lt_read.specs.Built.{spelt_at, AreSound, AreMarks, AreBuilt, triangulations, kept_mark, AreRightMarks, HasNoTwin}
use Rattle.lt_read.proofs.Counted.{fits_at, one_each, all_square}
use Rattle.lt_read.proofs.Likes.{has_form}
use Rattle.lt_read.proofs.Plain.{no_mark_is_cross}
use Rattle.lt_read.proofs.Passing.{tri, normals, mark_there, across_from}

none_at : (o : Option (ℕ × ℕ)) → OriginFits 0 o → o ≡ None
none_at None h = refl
none_at (Some p) h = absurd (h.0 refl)

-- a mark that is kept as a cross is one
kept_cross : (m : Mark) (k : ℕ) (u : List (List ℤ)) → kept_mark m ≡ model.cross k u → (w : List ℤ) × (m ≡ cross k w) × (matrix_rows w ≡ u)
kept_cross open_mark k u e = absurd (cc)
kept_cross (cross j v) k u e = let p = cross_parts j k (matrix_rows v) u e in (v, ap (λ i. cross i v) p.0, p.1)
kept_cross (wide n s) k u e = absurd (cc)
kept_cross (heavy w) k u e = absurd (cc)

module _ (version d : ℕ) (es : List Entry) (bs : List model.Entry) (mss : List (List Mark)) (low : 2 ≤ d) (high : d ≤ 6) (fits : EntriesFit d 0 es) (built : AreBuilt version d es bs) (sound : AreSound d bs) (marks : AreMarks es mss) (whole : length bs ≡ length es) (lists : length mss ≡ length es) where
  abbrev kept : List (List model.Mark)
  kept = map (map kept_mark) mss

  long : length kept ≡ length mss
  long = length-map mss (map kept_mark)

  abbrev own : ℕ → Classes
  own k = (model.entry_at bs k).triangulation

  kept_row : (k : ℕ) → k < length mss → get_or kept k [] ≡ map kept_mark (get_or mss k [])
  kept_row k l = get_or-map (map kept_mark) mss k [] [] l

  kept_there : (p : ℕ × ℕ) → p.0 < length mss → p.1 < length (get_or mss p.0 []) → model.mark_at kept p ≡ kept_mark (spelt_at mss p)
  kept_there p l s = ap (λ (ms : List model.Mark). get_or ms p.1 model.no_mark) (kept_row p.0 l) ∙ get_or-map kept_mark (get_or mss p.0 []) p.1 (heavy 0) model.no_mark s

  -- a cross stands at a place of a mark, and comes from one
  within : (p : ℕ × ℕ) (k : ℕ) (u : List (List ℤ)) → model.mark_at kept p ≡ model.cross k u → (p.0 < length mss) × (p.1 < length (get_or mss p.0 []))
  within p k u e =
      let w = mark_within kept p (model.cross k u) e (no_mark_is_cross k u) in
      let l : p.0 < length mss = omega (arith, w.0, long) in
      let s : p.1 < length (map kept_mark (get_or mss p.0 [])) = subst (λ (ms : List model.Mark). p.1 < length ms) (kept_row p.0 l) w.1 in
      (l, omega (arith, s, length-map (get_or mss p.0 []) kept_mark))

  listed : (k : ℕ) → k < length bs → IsListed version d es (triangulations bs) k (own k)
  listed k l = subst (λ (z : Classes). IsListed version d es (triangulations bs) k z) (tri version d es bs mss built marks k l) (built.passed.listed k l)

  origin : (k : ℕ) → 0 < k → k < length bs → right.HasOrigin (IsAcross d) d bs kept k
  origin zero some l = absurd (omega (arith, some))
  origin (suc k) some l =
      let h = listed (suc k) l in
      let o = h.0 in
      let p : ℕ × ℕ = (o.parent, o.facet) in
      let before : o.parent < suc k = o.earlier in
      let here : o.parent < length bs = omega (arith, l, before) in
      let there : o.parent < length mss = omega (arith, here, whole, lists) in
      let place : o.facet < length (model.facets (model.entry_at bs o.parent)) = subst (λ (ns : List (List ℤ)). o.facet < length ns) (sym (normals version d es bs mss built marks o.parent here)) o.within in
      let marked : o.facet < length (get_or mss o.parent []) = subst (λ (n : ℕ). o.facet < n) (sym (one_each version d es bs mss fits built marks whole lists o.parent there)) place in
      record {
        parent = o.parent;
        facet = o.facet;
        named = built.origins (suc k) l ∙ o.named;
        earlier = o.earlier;
        within = place;
        across = across_from version d es bs mss built marks p (own (suc k)) here h.1;
        mark = kept_there p there marked ∙ ap kept_mark (sym (mark_there version d es bs mss built marks p here) ∙ o.mark) ∙ ap (model.cross (suc k)) (identity_rows d low high);
      }

  crossed : ((k : ℕ) → k < length mss → AreRightMarks d bs mss k) → (p : ℕ × ℕ) (k : ℕ) (u : List (List ℤ)) → model.mark_at kept p ≡ model.cross k u → right.IsCrossed (IsAcross d) d bs p k u
  crossed h p k u e =
      let l = within p k u e in
      let c = kept_cross (spelt_at mss p) k u (sym (kept_there p l.0 l.1) ∙ e) in
      let x = h p.0 l.0 p.1 l.1 k c.0 c.1 in
      let same : rows d c.0 ≡ u = sym (square_rows d c.0 low high (all_square version d es bs mss fits built marks whole lists p k c.0 c.1)) ∙ c.2 in
      record {
        present = x.0;
        across = x.1.0;
        is_across = x.1.1.across;
        narrow = x.1.1.narrow;
        carries = subst (λ (v : List (List ℤ)). Carries d v x.1.0 (own k)) same x.1.2;
      }

  apart : ((i : ℕ) → i < length bs → HasNoTwin d bs i) → (k l : ℕ) → k < length bs → l < length bs → k ≢ l → AreEquivalent d (own k) (own l) → ⊥
  apart h k l hk hl ne x =
      elim (cases_lt k l) [
        | inl a ↦ h k hk l a hl (carries_back d (own k) (own l) (classes_of_form d (own k) (has_form d (own k) (sound k hk).form)) x)
        | inr a ↦ h l hl k (omega (arith, a, ne)) hk x
      ]

  narrow : (k : ℕ) → k < length bs → span (own k) ≤ span_limit d
  narrow zero l = principal_narrow d (own 0) (own 0) (listed 0 l).0 (λ s c. c)
  narrow (suc k) l = (listed (suc k) l).2

  entry : (k : ℕ) → k < length bs → IsRightEntry d (model.entry_at bs k)
  entry k l = record { classes = classes_of_form d (own k) (has_form d (own k) (sound k l).form); narrow = narrow k l; cone = (sound k l).cone }

  each : (k : ℕ) → k < length bs → length (get_or kept k []) ≡ length (model.facets (model.entry_at bs k))
  each k l =
      let there : k < length mss = omega (arith, l, whole, lists) in
      ap length (kept_row k there) ∙ length-map (get_or mss k []) kept_mark ∙ one_each version d es bs mss fits built marks whole lists k there

  parts : 0 < length bs → ((k : ℕ) → k < length mss → AreRightMarks d bs mss k) → ((i : ℕ) → i < length bs → HasNoTwin d bs i) → AreRight (IsAcross d) d bs kept
  parts some h g = record {
    occupied = some;
    start = (listed 0 some).0;
    no_origin = built.origins 0 some ∙ none_at (entry_at es 0).origin (fits_at version d es bs mss fits built marks whole lists 0 (omega (arith, some, whole))).0;
    lists = long ∙ lists ∙ sym whole;
    each = each;
    origins = origin;
    crosses = crossed h;
    apart = apart g;
    entries = entry;
  }

pub right_parts : (version d : ℕ) (t : Text) (bs : List model.Entry) (mss : List (List Mark)) → TextFits t → t.dimension ≡ d → AreBuilt version d t.entries bs → AreSound d bs → AreMarks t.entries mss → length bs ≡ length t.entries → length mss ≡ length t.entries →
    ((k : ℕ) → k < length mss → AreRightMarks d bs mss k) → ((i : ℕ) → i < length bs → HasNoTwin d bs i) → AreRight (IsAcross d) d bs (map (map kept_mark) mss)
right_parts version d t bs mss fits size built sound marks whole lists h g =
    let low = fits.0.0 in
    let high = fits.0.1 in
    let some = fits.1.0.0 in
    parts version d t.entries bs mss (omega (arith, size, low)) (omega (arith, size, high)) (subst (λ (n : ℕ). EntriesFit n 0 t.entries) size fits.1.1) built sound marks whole lists (omega (arith, whole, some)) h g
