-- The text of an atlas of a run is read as the atlas with its entries and crosses.
use Rattle.std.proofs.Common.{◌≡◌, ℕ, zero, suc, ℤ, ◌+◌, ◌<◌, ◌≤◌, inr, refl, sym, ap, ◌∙◌, subst, arith, List, [], ◌∷◌, map, length, get_or}
use Rattle.std.proofs.lemmas.List.{get_or-map, length-map, same_lists}
use Rattle.lt_model.specs.Matrices.{identity}
use Rattle.lt_model.specs.Limits.{input_limit}
use Rattle.lt_model.specs.Walls.{IsAcross}
use Rattle.lt_model.specs.Atlases.{Mark, open_mark, cross, wide, heavy, no_mark, Entry, Atlas, entry_at, mark_at, one_if_stuck, count_in, stuck}
use Rattle.lt_model.specs.RightAtlases.{HasOrigin, AreRight, IsRight, fresh_atlas}
use Rattle.lt_model.proofs.Flat.{rows-flat}
use Rattle.lt_core.proofs.FirstEntry.{none_stuck}
use Rattle.lt_core.proofs.Starting.{kept_fresh}
use Rattle.lt_core.proofs.Undo.{mark_within}
use Rattle.lt_grammar.specs.Texts as spelt
use Rattle.lt_text.specs.Texts.{atlas_text}
use Rattle.lt_text.specs.Values.{mark_value, entry_value, entries_value, value_of, text_in}
use Rattle.lt_text.proofs.AsSpelt.{entries_long, as_spelt}
use Rattle.lt_read.specs.Refused as read
use Rattle.lt_read.specs.Refused.{read_mark}
use Rattle.lt_read.specs.Reading.{IsEntryOf, read_marks, IsAtlasOf, IsRead}
use Rattle.lt_read.specs.Laws.{reopened, resumed, IsOfRun, IsResumed, StartsHaveNoStuckMarks, WhatIsReadHasNoStuckMarks, AtlasesAreResumed}
use Rattle.lt_read.proofs.Plain.{no_mark_is_cross}
use Rattle.lt_read.proofs.Ranged.{text_fits}
use Rattle.lt_read.proofs.Read.{read_not_refused, one_read}

-- ---- marks that are read back

reopened_cross : (m : Mark) (k : ℕ) (u : List (List ℤ)) → reopened m ≡ cross k u → m ≡ cross k u
reopened_cross open_mark k u e = e
reopened_cross (cross j v) k u e = e
reopened_cross (wide s n) k u e = absurd (cc)
reopened_cross (heavy n) k u e = absurd (cc)

module _ (mss : List (List Mark)) where
  abbrev back : List (List Mark)
  back = map (map reopened) mss

  back_row : (k : ℕ) → k < length mss → get_or back k [] ≡ map reopened (get_or mss k [])
  back_row k l = get_or-map (map reopened) mss k [] [] l

  back_there : (p : ℕ × ℕ) → p.0 < length mss → p.1 < length (get_or mss p.0 []) → mark_at back p ≡ reopened (mark_at mss p)
  back_there p l s = ap (λ (ms : List Mark). get_or ms p.1 no_mark) (back_row p.0 l) ∙ get_or-map reopened (get_or mss p.0 []) p.1 no_mark no_mark s

  crossed_back : (p : ℕ × ℕ) (k : ℕ) (u : List (List ℤ)) → mark_at back p ≡ cross k u → mark_at mss p ≡ cross k u
  crossed_back p k u e =
      let w = mark_within back p (cross k u) e (no_mark_is_cross k u) in
      let l : p.0 < length mss = (let a = w.0 in omega (arith, a, length-map mss (map reopened))) in
      let s : p.1 < length (map reopened (get_or mss p.0 [])) = subst (λ (ms : List Mark). p.1 < length ms) (back_row p.0 l) w.1 in
      reopened_cross (mark_at mss p) k u (sym (back_there p l (omega (arith, s, length-map (get_or mss p.0 []) reopened))) ∙ e)

  kept_cross : (p : ℕ × ℕ) (k : ℕ) (u : List (List ℤ)) → mark_at mss p ≡ cross k u → mark_at back p ≡ cross k u
  kept_cross p k u e = let w = mark_within mss p (cross k u) e (no_mark_is_cross k u) in back_there p w.0 w.1 ∙ ap reopened e

  -- the entries and crosses of a right atlas are those of one
  back_right : (Beyond : List (List (List ℤ)) → List ℤ → List (List (List ℤ)) → Type 0) (d : ℕ) (es : List Entry) → AreRight Beyond d es mss → AreRight Beyond d es back
  back_right Beyond d es h = record {
    occupied = h.occupied;
    start = h.start;
    no_origin = h.no_origin;
    lists = length-map mss (map reopened) ∙ h.lists;
    each = λ k l. ap length (back_row k (let n = h.lists in omega (arith, l, n))) ∙ length-map (get_or mss k []) reopened ∙ h.each k l;
    origins = λ k some l. origin k (h.origins k some l);
    crosses = λ p k u e. h.crosses p k u (crossed_back p k u e);
    apart = h.apart;
    entries = h.entries;
  }
    where
      origin : (k : ℕ) → HasOrigin Beyond d es mss k → HasOrigin Beyond d es back k
      origin k o = record { parent = o.parent; facet = o.facet; named = o.named; earlier = o.earlier; within = o.within; across = o.across; mark = kept_cross (o.parent, o.facet) k (identity d) o.mark }

-- ---- what is spelt, and read back

spelt_entry : (version : ℕ) (marks : List (List Mark)) (j : ℕ) (es : List Entry) (k n : ℕ) → k < length es → n ≡ j + k → read.entry_at (entries_value version marks j es) k ≡ entry_value version (entry_at es k) (get_or marks n [])
spelt_entry version marks j [] k n l e = absurd (omega (arith, l))
spelt_entry version marks j (x ∷ es) zero n l e = let s : j ≡ n = omega (arith, e) in ap (λ (i : ℕ). entry_value version x (get_or marks i [])) s
spelt_entry version marks j (x ∷ es) (suc k) n l e = spelt_entry version marks (suc j) es k n (omega (arith, l)) (omega (arith, e))

module _ (version : ℕ) (a : Atlas) (right : AreRight (IsAcross a.dimension) a.dimension a.entries a.marks) where
  abbrev d : ℕ
  d = a.dimension

  abbrev es : List spelt.Entry
  es = entries_value version a.marks 0 a.entries

  spelt_at : (k : ℕ) → k < length a.entries → read.entry_at es k ≡ entry_value version (entry_at a.entries k) (get_or a.marks k [])
  spelt_at k l = spelt_entry version a.marks 0 a.entries k k l (omega arith)

  count : length a.entries ≡ length es
  count = sym (entries_long version a.marks 0 a.entries)

  mark_back : (p : ℕ × ℕ) (m : Mark) → mark_at a.marks p ≡ m → read_mark d (mark_value m) ≡ reopened m
  mark_back p open_mark e = refl
  mark_back p (cross k u) e = ap (cross k) (rows-flat d u (right.crosses p k u e).carries.square)
  mark_back p (wide s n) e = refl
  mark_back p (heavy n) e = refl

  row_back : (k : ℕ) → map (read_mark d) (map mark_value (get_or a.marks k [])) ≡ map reopened (get_or a.marks k [])
  row_back k =
      let row : List Mark = get_or a.marks k [] in
      let one = length-map row mark_value in
      let two = length-map (map mark_value row) (read_mark d) in
      let three = length-map row reopened in
      same_lists (map (read_mark d) (map mark_value row)) (map reopened row) (two ∙ one ∙ sym three) (λ f x l.
      let here : f < length row = omega (arith, l, two, one) in
      get_or-map (read_mark d) (map mark_value row) f (mark_value no_mark) x (omega (arith, here, one))
      ∙ ap (read_mark d) (get_or-map mark_value row f no_mark (mark_value no_mark) here)
      ∙ mark_back (k, f) (mark_at a.marks (k, f)) refl
      ∙ sym (get_or-map reopened row f no_mark x here))

  marks_back : map (map reopened) a.marks ≡ read_marks (value_of version a)
  marks_back =
      let read_row : spelt.Entry → List Mark = λ e. map (read_mark d) e.marks in
      let one = length-map a.marks (map reopened) in
      let two = length-map es read_row in
      let lists = right.lists in
      let c = count in
      same_lists (map (map reopened) a.marks) (map read_row es) (one ∙ lists ∙ c ∙ sym two) (λ k x l.
      let here : k < length a.entries = omega (arith, l, one, lists) in
      get_or-map (map reopened) a.marks k [] x (omega (arith, here, lists))
      ∙ sym (row_back k)
      ∙ ap read_row (sym (spelt_at k here))
      ∙ sym (get_or-map read_row es k read.no_entry x (omega (arith, here, c))))

  entry_back : (k : ℕ) → k < length es → IsEntryOf version (read.entry_at es k) (entry_at a.entries k)
  entry_back k l =
      let c = count in
      subst (λ (e : spelt.Entry). IsEntryOf version e (entry_at a.entries k)) (sym (spelt_at k (omega (arith, l, c)))) (record { cone = refl; origin = refl; listed = refl })

  atlas_back : IsAtlasOf version (value_of version a) (resumed a)
  atlas_back = record { count = count; entries = entry_back; fresh = ap (fresh_atlas d a.entries) marks_back }

-- ---- how a run begins

free_mark : (d : ℕ) (m : spelt.Mark) → one_if_stuck (read_mark d m) ≡ 0
free_mark d spelt.open_mark = refl
free_mark d (spelt.cross k u) = refl
free_mark d (spelt.wide n s) = refl
free_mark d (spelt.heavy w) = refl

free_row : (d : ℕ) (ms : List spelt.Mark) → count_in one_if_stuck (map (read_mark d) ms) ≡ 0
free_row d [] = refl
free_row d (m ∷ ms) = let a = free_mark d m in let b = free_row d ms in omega (arith, a, b)

free_rows : (d : ℕ) (es : List spelt.Entry) → stuck (map (λ e. map (read_mark d) e.marks) es) ≡ 0
free_rows d [] = refl
free_rows d (e ∷ es) = let a = free_row d e.marks in let b = free_rows d es in omega (arith, a, b)

pub read_free : WhatIsReadHasNoStuckMarks
read_free version d bytes a h = ap (λ (z : Atlas). stuck z.marks) h.atlas.fresh ∙ free_rows h.value.dimension h.value.entries

pub start_free : StartsHaveNoStuckMarks
start_free d a h = ap (λ (z : Atlas). stuck z.marks) h.atlas ∙ none_stuck _

pub atlases_resumed : AtlasesAreResumed
atlases_resumed version a known run few short =
    let d = a.dimension in
    let parts = run.kept.right.parts in
    let fits = text_fits version a run.low run.high run.kept run.began few in
    let again : IsRight (IsAcross d) (resumed a) = (kept_fresh (IsAcross d) d a.entries (map (map reopened) a.marks) (back_right a.marks (IsAcross d) d a.entries parts)).right in
    let back : IsRead version d (text_in version a) (resumed a) = record { value = value_of version a; within = short; fits = fits; dimension = refl; spelt = refl; atlas = atlas_back version a parts; right = again } in
    record {
      fits = fits;
      accepted = λ r h. read_not_refused version d (text_in version a) (resumed a) r known back h;
      read = back;
      only = λ b h. one_read version d (text_in version a) b (resumed a) known h back;
    }

-- the same of the text that is written
pub written_resumed : (a : Atlas) → IsOfRun a → length a.entries ≤ 100001 → length (atlas_text a) ≤ input_limit a.dimension → IsResumed 2 a
written_resumed a run few short = atlases_resumed 2 a (inr refl) run few (subst (λ (l : List ℕ). length l ≤ input_limit a.dimension) (as_spelt a) short)
