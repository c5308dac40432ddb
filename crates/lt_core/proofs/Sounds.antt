-- What the type of an atlas keeps, read by the code and after each recording.
use Rattle.std.proofs.Common.{◌≡◌, ℕ, ℤ, zero, suc, ◌+◌, ◌-◌, ◌^◌, ◌<◌, ◌≤◌, refl, ap, arith, sym, ◌∙◌, subst, List, [], ◌∷◌, ◌++◌, length, get_or, map, Vec, vec_capacity, vec_len}
use Rattle.std.proofs.lemmas.List.{get_or-map, length-map, map-append, map-id}
use Rattle.std.specs.Prelude.{true, false, Bool}
use Rattle.std.specs.declared.alloc.Global.{Global}
use Rattle.lt_model.specs.Walls.{IsAcross}
use Rattle.lt_model.specs.Matrices.{identity}
use Rattle.lt_model.specs.Atlases.{undecided, stuck, one_if_open, one_if_stuck}
use Rattle.lt_model.specs.Atlases as model
use Rattle.lt_model.specs.RightAtlases.{IsOpenAt, AreRight, open_places, fresh_atlas}
use Rattle.lt_core.proofs.Starting.{kept_fresh, length-open_places}
use Rattle.lt_model.specs.Logs.{IsLegal, IsCandidate}
use Rattle.lt_core.proofs.Undo.{length_more, same_atlas}
use Rattle.lt_core.proofs.Kept.{kept_push, kept_grow, cause_not_open, legal_new}
use Rattle.lt_core.proofs.Counting.{count-set_mark, count-more, count-opens, open-opens}
use Rattle.lt_core.specs.declared.marks.Mark.{Mark}
use Rattle.lt_core.specs.declared.marks.Mark.TheVariants.{Cross}
use Rattle.std.specs.declared.option.Option.TheVariants.{Some}
use Rattle.lt_model.specs.Cones.{Cone}
use Rattle.lt_core.specs.Candidates.{candidate}
use Rattle.lt_core.specs.declared.marks.Event.{Event}
use Rattle.lt_core.specs.declared.marks.Entry.{Entry}
use Rattle.lt_core.specs.declared.atlas.Atlas.TheInside.{Inside}
use Rattle.lt_model.specs.Flat.{flat}
use Rattle.lt_core.specs.Marks.{mark_of, marks_of, event_of, entry_of, matrix_rows}
use Rattle.lt_core.specs.Sound.{IsSound}
use Rattle.lt_core.specs.Meaning.{value_of, IsSoundInside}

-- ---- the place and the mark at a position, as the code reads them

module _ (i : Inside) (k : IsSoundInside i) (p : ℕ) (x : ℕ × ℕ) (h : p < length (value_of i).queue) (e : x ≡ get_or i.queue.items p x) where
  pub read_place : model.place_at (value_of i).queue p ≡ x
  read_place =
      let l : p < length i.queue.items = simp length-map at h in
      get_or-map (λ (q : ℕ × ℕ). (q.0, q.1)) i.queue.items p x (0, 0) l ∙ sym e

  pub entry_within : x.0 < length (marks_of i.marks.items)
  entry_within = subst (λ (q : ℕ × ℕ). q.0 < length (marks_of i.marks.items)) read_place (k.kept.orderly.entry_within p h)

  pub facet_within : x.1 < length (get_or (marks_of i.marks.items) x.0 [])
  facet_within = subst (λ (q : ℕ × ℕ). q.1 < length (get_or (marks_of i.marks.items) q.0 [])) read_place (k.kept.orderly.facet_within p h)

  pub in_marks : x.0 < vec_len i.marks
  in_marks = let l : x.0 < length i.marks.items = simp length-map at entry_within in omega (arith, i.marks.ok.0)

  module _ (r : Vec Mark Global) (er : r ≡ get_or i.marks.items x.0 r) where
    read_row : get_or (marks_of i.marks.items) x.0 [] ≡ map mark_of r.items
    read_row =
        let l : x.0 < length i.marks.items = simp length-map at entry_within in
        get_or-map (λ (v : Vec Mark Global). map mark_of v.items) i.marks.items x.0 r [] l ∙ ap (λ (v : Vec Mark Global). map mark_of v.items) (sym er)

    row_long : x.1 < length r.items
    row_long = simp length-map at (subst (λ (ms : List model.Mark). x.1 < length ms) read_row facet_within)

    pub in_row : x.1 < vec_len r
    in_row = let l = row_long in omega (arith, r.ok.0)

    pub read_mark : (m : Mark) → m ≡ get_or r.items x.1 m → mark_of m ≡ model.mark_at (value_of i).marks (model.place_at (value_of i).queue p)
    read_mark m em =
        ap mark_of em
        ∙ sym (get_or-map mark_of r.items x.1 m model.no_mark row_long)
        ∙ ap (λ ms. get_or ms x.1 model.no_mark) (sym read_row)
        ∙ ap (model.mark_at (marks_of i.marks.items)) (sym read_place)

-- ---- what the type keeps, after an event

-- one mark fewer is open
undecided-set_mark : (mss : List (List model.Mark)) (p : ℕ × ℕ) (m : model.Mark) → model.mark_at mss p ≡ model.open_mark → one_if_open m ≡ 0 → suc (undecided (model.set_mark mss p m)) ≡ undecided mss
undecided-set_mark mss p m h z = let e = count-set_mark one_if_open mss p m h in omega arith

pub not_open_counts : (m : model.Mark) → (m ≡ model.open_mark → ⊥) → one_if_open m ≡ 0
not_open_counts model.open_mark h = absurd (h refl)
not_open_counts (model.cross k u) h = refl
not_open_counts (model.wide s n) h = refl
not_open_counts (model.heavy n) h = refl

legal_not_open : (a : model.Atlas) (all : List model.Entry) (p : ℕ) (m : model.Mark) (f : Bool) → IsLegal (IsAcross a.dimension) a all (record { position = p; mark = m; fresh = f }) → one_if_open m ≡ 0
legal_not_open a all p m f l = not_open_counts m (cause_not_open a.dimension a.entries all (model.place_at a.queue p) l.across m f l.cause)

pub some_open : (a : model.Atlas) (n x c : ℕ) (all : List model.Entry) (p : ℕ) (m : model.Mark) (f : Bool) → IsSound a n x c → IsLegal (IsAcross a.dimension) a all (record { position = p; mark = m; fresh = f }) → 1 ≤ n
some_open a n x c all p m f s l =
    let e = undecided-set_mark a.marks (model.place_at a.queue p) m l.position.undecided (legal_not_open a all p m f l) in
    let k = s.counted in
    omega arith

pub sound_push : (a : model.Atlas) (n x c c' : ℕ) (p : ℕ) (m : model.Mark) → IsSound a n x c → IsLegal (IsAcross a.dimension) a a.entries (record { position = p; mark = m; fresh = false }) → c ≤ c' → IsSound (model.push a p m) (n - 1) (x + one_if_stuck m) c'
sound_push a n x c c' p m s l lc =
    let e = undecided-set_mark a.marks (model.place_at a.queue p) m l.position.undecided (legal_not_open a a.entries p m false l) in
    let f = count-set_mark one_if_stuck a.marks (model.place_at a.queue p) m l.position.undecided in
    let k = s.counted in
    let j = s.counted_stuck in
    let r = s.room in
    let h = s.few_stuck in
    let one = stuck_once m in
    let g = length_more a.log (record { position = p; mark = m; fresh = false }) in
    record {
      kept = kept_push (IsAcross a.dimension) a p m s.kept l;
      counted = omega arith;
      counted_stuck = omega arith;
      few_stuck = omega arith;
      room = omega arith;
      few = s.few;
      low = s.low;
      high = s.high;
    }
  where
    stuck_once : (m : model.Mark) → one_if_stuck m ≤ 1
    stuck_once model.open_mark = omega arith
    stuck_once (model.cross k u) = omega arith
    stuck_once (model.wide t n) = omega arith
    stuck_once (model.heavy n) = omega arith

-- the fields after an event mean the atlas with that event
pub value_push : (i : Inside) (marks : Vec (Vec Mark Global) Global) (log : Vec Event Global) (n s p : ℕ) (x : ℕ × ℕ) (m : model.Mark) (e : Event) → model.place_at (value_of i).queue p ≡ x → marks_of marks.items ≡ model.set_mark (marks_of i.marks.items) x m → log.items ≡ i.log.items ++ e ∷ [] → event_of e ≡ record { position = p; mark = m; fresh = false } → value_of (record { dimension = i.dimension; entries = i.entries; marks = marks; prints = i.prints; queue = i.queue; log = log; undecided = n; stuck = s }) ≡ model.push (value_of i) p m
value_push i marks log n s p x m e hx hm hl he =
    same_atlas (value_of (record { dimension = i.dimension; entries = i.entries; marks = marks; prints = i.prints; queue = i.queue; log = log; undecided = n; stuck = s })) (model.push (value_of i) p m) refl refl
    (hm ∙ ap (λ q. model.set_mark (marks_of i.marks.items) q m) (sym hx))
    refl
    (ap (map event_of) hl ∙ map-append event_of i.log.items (e ∷ []) ∙ ap (λ y. map event_of i.log.items ++ y ∷ []) he)

pub legal_inside : (i : Inside) (b : model.Atlas) (p : ℕ) (m : model.Mark) → value_of i ≡ b → IsLegal (IsAcross b.dimension) b b.entries (record { position = p; mark = m; fresh = false }) → IsLegal (IsAcross (value_of i).dimension) (value_of i) (value_of i).entries (record { position = p; mark = m; fresh = false })
legal_inside i b p m e l = subst (λ (z : model.Atlas). IsLegal (IsAcross z.dimension) z z.entries (record { position = p; mark = m; fresh = false })) (sym e) l

-- the log has room for one more
pub has_room : (i : Inside) → IsSoundInside i → 1 ≤ i.undecided → vec_len i.log < vec_capacity i.log
has_room i k h =
    let r : length (map event_of i.log.items) + i.undecided ≤ vec_capacity i.log = k.room in
    let r' : length i.log.items + i.undecided ≤ vec_capacity i.log = simp length-map at r in
    omega (arith, i.log.ok.0)

pub queued_inside : (i : Inside) (b : model.Atlas) (p : ℕ) → value_of i ≡ b → p < length b.queue → p < length (value_of i).queue
queued_inside i b p e h = subst (λ (z : model.Atlas). p < length z.queue) (sym e) h

-- ---- an event with an entry

pub identity_rows : (d : ℕ) → 2 ≤ d → d ≤ 6 → matrix_rows (flat (identity d)) ≡ identity d
identity_rows zero low high = absurd (omega arith)
identity_rows (suc zero) low high = absurd (omega arith)
identity_rows (suc (suc zero)) low high = refl
identity_rows (suc (suc (suc zero))) low high = refl
identity_rows (suc (suc (suc (suc zero)))) low high = refl
identity_rows (suc (suc (suc (suc (suc zero))))) low high = refl
identity_rows (suc (suc (suc (suc (suc (suc zero)))))) low high = refl
identity_rows (suc (suc (suc (suc (suc (suc (suc d))))))) low high = absurd (omega arith)

pub sound_grow : (a : model.Atlas) (n z c c' : ℕ) (p : ℕ) (e : model.Entry) → IsSound a n z c → length a.entries < 2 ^ 30 → IsLegal (IsAcross a.dimension) a (a.entries ++ e ∷ []) (record { position = p; mark = model.cross (length a.entries) (identity a.dimension); fresh = true }) → length a.log + n + length (model.facets e) ≤ c' → IsSound (model.grow a p e) (n - 1 + length (model.facets e)) z c'
sound_grow a n z c c' p e s w l lc =
    let it : model.Mark = model.cross (length a.entries) (identity a.dimension) in
    let changed : List (List model.Mark) = model.set_mark a.marks (model.place_at a.queue p) it in
    let f : ℕ = length (model.facets e) in
    let k = s.counted in
    let x : suc (undecided changed) ≡ undecided a.marks = undecided-set_mark a.marks (model.place_at a.queue p) it l.position.undecided refl in
    let y : undecided (changed ++ model.opens f ∷ []) ≡ undecided changed + f = count-more one_if_open changed (model.opens f) ∙ ap (λ z. undecided changed + z) (open-opens f) in
    let q : stuck changed + 0 ≡ stuck a.marks + 0 = count-set_mark one_if_stuck a.marks (model.place_at a.queue p) it l.position.undecided in
    let r : stuck (changed ++ model.opens f ∷ []) ≡ stuck changed + 0 = count-more one_if_stuck changed (model.opens f) ∙ ap (λ z. stuck changed + z) (count-opens one_if_stuck f refl) in
    let j = s.counted_stuck in
    let h = s.few_stuck in
    let g = length_more a.log (record { position = p; mark = it; fresh = true }) in
    record {
      kept = kept_grow (IsAcross a.dimension) a p e s.kept l;
      counted = omega arith;
      counted_stuck = omega arith;
      few_stuck = omega arith;
      room = omega arith;
      few = (let z = length_more a.entries e in omega arith);
      low = s.low;
      high = s.high;
    }

-- the fields after an event with an entry
pub value_grow : (i : Inside) (after : Inside) (p : ℕ) (x : ℕ × ℕ) (e : Entry) (row : Vec Mark Global) (k : ℕ) (u : List (List ℤ)) (v : Event) →
    after.dimension ≡ i.dimension →
    model.place_at (value_of i).queue p ≡ x →
    k ≡ length (value_of i).entries →
    u ≡ identity i.dimension →
    after.entries.items ≡ i.entries.items ++ e ∷ [] →
    (marks : Vec (Vec Mark Global) Global) → marks_of marks.items ≡ model.set_mark (marks_of i.marks.items) x (model.cross k u) →
    after.marks.items ≡ marks.items ++ row ∷ [] →
    map mark_of row.items ≡ model.opens (length (model.facets (entry_of e))) →
    after.queue.items ≡ i.queue.items ++ model.places_from k 0 (length (model.facets (entry_of e))) →
    after.log.items ≡ i.log.items ++ v ∷ [] →
    event_of v ≡ record { position = p; mark = model.cross k u; fresh = true } →
    value_of after ≡ model.grow (value_of i) p (entry_of e)
value_grow i after p x e row k u v hd hx hk hu he marks hm hr hn hq hl hv =
    let n : ℕ = length (model.facets (entry_of e)) in
    let c : model.cross k u ≡ model.cross (length (value_of i).entries) (identity i.dimension) = ap (λ j. model.cross j u) hk ∙ ap (model.cross (length (value_of i).entries)) hu in
    same_atlas (value_of after) (model.grow (value_of i) p (entry_of e)) hd
    (ap (map entry_of) he ∙ map-append entry_of i.entries.items (e ∷ []))
    (ap marks_of hr ∙ map-append (λ (ms : Vec Mark Global). map mark_of ms.items) marks.items (row ∷ [])
    ∙ ap (λ ms. ms ++ map mark_of row.items ∷ []) (hm ∙ ap (λ q. model.set_mark (marks_of i.marks.items) q (model.cross k u)) (sym hx) ∙ ap (model.set_mark (marks_of i.marks.items) (model.place_at (value_of i).queue p)) c)
    ∙ ap (λ r. model.set_mark (marks_of i.marks.items) (model.place_at (value_of i).queue p) (model.cross (length (value_of i).entries) (identity i.dimension)) ++ r ∷ []) hn)
    (ap (map (λ (q : ℕ × ℕ). (q.0, q.1))) hq ∙ map-append (λ (q : ℕ × ℕ). (q.0, q.1)) i.queue.items (model.places_from k 0 n)
    ∙ ap (λ ps. (value_of i).queue ++ ps) (map-id (model.places_from k 0 n) ∙ ap (λ j. model.places_from j 0 n) hk))
    (ap (map event_of) hl ∙ map-append event_of i.log.items (v ∷ []) ∙ ap (λ y. map event_of i.log.items ++ y ∷ []) (hv ∙ ap (λ m. record { position = p; mark = m; fresh = true }) c))

pub some_open_here : (a : model.Atlas) (n x c p : ℕ) → IsSound a n x c → IsOpenAt a p → 1 ≤ n
some_open_here a n x c p s o =
    let e = undecided-set_mark a.marks (model.place_at a.queue p) (model.heavy 0) o.undecided refl in
    let k = s.counted in
    omega arith

pub open_inside : (i : Inside) (b : model.Atlas) (p : ℕ) → value_of i ≡ b → IsOpenAt b p → IsOpenAt (value_of i) p
open_inside i b p e o = subst (λ (z : model.Atlas). IsOpenAt z p) (sym e) o

legal_grow_inside : (i : Inside) (b : model.Atlas) (p : ℕ) (t : List (List (List ℤ))) (cone : Cone) → value_of i ≡ b → IsOpenAt b p → IsCandidate (IsAcross b.dimension) b p (length b.entries) (candidate b p t cone) →
    IsLegal (IsAcross (value_of i).dimension) (value_of i) ((value_of i).entries ++ candidate (value_of i) p t cone ∷ []) (record { position = p; mark = model.cross (length (value_of i).entries) (identity (value_of i).dimension); fresh = true })
legal_grow_inside i b p t cone e o c =
    subst (λ (z : model.Atlas). IsLegal (IsAcross z.dimension) z (z.entries ++ candidate z p t cone ∷ []) (record { position = p; mark = model.cross (length z.entries) (identity z.dimension); fresh = true })) (sym e)
    (legal_new (IsAcross b.dimension) b p (candidate b p t cone) o c refl)

module _ (i after : Inside) (b : model.Atlas) (p : ℕ) (t : List (List (List ℤ))) (cone : Cone) (x : ℕ × ℕ) (row : Vec Mark Global) (u u' : List ℤ) (marks : Vec (Vec Mark Global) Global) (n k : ℕ) (hk : k ≡ vec_len i.entries)
    (hb : value_of i ≡ b) (inv : IsSoundInside i) (o : IsOpenAt b p) (c : IsCandidate (IsAcross b.dimension) b p (length b.entries) (candidate b p t cone))
    (hx : x ≡ get_or i.queue.items p x) (hd : after.dimension ≡ i.dimension) (hu : u ≡ flat (identity i.dimension)) (hu' : u' ≡ flat (identity i.dimension)) (hn : n ≡ length (model.facets_of cone.rows))
    (he : after.entries.items ≡ i.entries.items ++ record { triangulation = t; cone = cone; origin = Some x } ∷ [])
    (hm : marks_of marks.items ≡ model.set_mark (marks_of i.marks.items) x (model.cross k (matrix_rows u)))
    (hr : after.marks.items ≡ marks.items ++ row ∷ []) (ho : map mark_of row.items ≡ model.opens n)
    (hq : after.queue.items ≡ i.queue.items ++ model.places_from k 0 n)
    (hl : after.log.items ≡ i.log.items ++ record { position = p; mark = Cross k u'; fresh = true } ∷ [])
    (hw : length b.entries < 2 ^ 30) (hund : after.undecided ≡ i.undecided - 1 + n) (hst : after.stuck ≡ i.stuck) (hcap : vec_len i.log + (i.undecided + n) ≤ vec_capacity after.log) where
  abbrev new : Entry
  new = record { triangulation = t; cone = cone; origin = Some x }

  pub count_is : k ≡ length (value_of i).entries
  count_is = hk ∙ i.entries.ok.0 ∙ sym (length-map i.entries.items entry_of)

  queue_place : model.place_at (value_of i).queue p ≡ x
  queue_place = read_place i inv p x (open_inside i b p hb o).queued hx

  entry_is : entry_of new ≡ candidate (value_of i) p t cone
  entry_is = ap (λ (q : ℕ × ℕ). let e : model.Entry = record { triangulation = t; cone = cone; origin = Some q } in e) (sym queue_place)

  value_inside : value_of after ≡ model.grow (value_of i) p (candidate (value_of i) p t cone)
  value_inside =
      value_grow i after p x new row k (matrix_rows u) (record { position = p; mark = Cross k u'; fresh = true }) hd queue_place count_is (ap matrix_rows hu ∙ identity_rows i.dimension inv.low inv.high) he marks hm hr (ho ∙ ap model.opens hn) (hq ∙ ap (λ j. i.queue.items ++ model.places_from k 0 j) hn) hl
      (ap (λ (m : List ℤ). let e : model.Event = record { position = p; mark = model.cross k (matrix_rows m); fresh = true } in e) (hu' ∙ sym hu))
      ∙ ap (model.grow (value_of i) p) entry_is

  pub value_extended : value_of after ≡ model.grow b p (candidate b p t cone)
  value_extended = value_inside ∙ ap (λ (z : model.Atlas). model.grow z p (candidate z p t cone)) hb

  pub keeps_extended : IsSoundInside after
  keeps_extended =
      let lg : length (value_of i).log ≡ vec_len i.log = length-map i.log.items event_of ∙ sym i.log.ok.0 in
      let s = sound_grow (value_of i) i.undecided i.stuck (vec_capacity i.log) (vec_capacity after.log) p (candidate (value_of i) p t cone) inv (subst (λ (z : model.Atlas). length z.entries < 2 ^ 30) (sym hb) hw) (legal_grow_inside i b p t cone hb o c) (omega arith) in
      subst (λ (y : ℕ). IsSound (value_of after) after.undecided y (vec_capacity after.log)) (sym hst)
      (subst (λ (j : ℕ). IsSound (value_of after) j i.stuck (vec_capacity after.log)) (ap (λ j. i.undecided - 1 + j) (sym hn) ∙ sym hund)
      (subst (λ (z : model.Atlas). IsSound z (i.undecided - 1 + length (model.facets_of cone.rows)) i.stuck (vec_capacity after.log)) (sym value_inside) s))

-- ---- the start

pub sound_fresh : (d : ℕ) (es : List model.Entry) (ms : List (List model.Mark)) (n c : ℕ) → stuck ms ≡ 0 → 2 ≤ d → d ≤ 6 → AreRight (IsAcross d) d es ms → length es ≤ 100001 → n ≡ length (open_places 0 ms) → n ≤ c → IsSound (fresh_atlas d es ms) n 0 c
sound_fresh d es ms n c none low high h w e l =
    record { low = low; high = high; kept = kept_fresh (IsAcross d) d es ms h; counted = e ∙ length-open_places 0 ms; counted_stuck = sym none; few_stuck = omega arith; room = omega arith; few = omega arith }

pub value_fresh : (i : Inside) → i.queue.items ≡ open_places 0 (marks_of i.marks.items) → i.log.items ≡ [] → value_of i ≡ fresh_atlas i.dimension (map entry_of i.entries.items) (marks_of i.marks.items)
value_fresh i hq hl =
    same_atlas (value_of i) (fresh_atlas i.dimension (map entry_of i.entries.items) (marks_of i.marks.items)) refl refl refl
    (ap (map (λ (q : ℕ × ℕ). (q.0, q.1))) hq ∙ map-id (open_places 0 (marks_of i.marks.items)))
    (ap (map event_of) hl)
