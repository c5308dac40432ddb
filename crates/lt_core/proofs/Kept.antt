-- A legal event keeps a right atlas and a legal log.
use Rattle.std.proofs.Common.{◌≡◌, ◌≢◌, ℕ, suc, ℤ, ◌-◌, ◌<◌, ◌≤◌, refl, ap, arith, sym, ◌∙◌, subst, List, [], ◌∷◌, ◌++◌, length, take, ◌⊎◌, inl, inr}
use Rattle.std.proofs.lemmas.List.{get_or_at, get_or_append_left, take_all}
use Rattle.std.proofs.lemmas.Bool.{cases_lt}
use Rattle.std.specs.Prelude.{true, false, Bool}
use Rattle.std.specs.declared.option.Option.TheVariants.{Some}
use Rattle.lt_model.specs.Matrices.{identity}
use Rattle.lt_model.specs.Atlases.{Classes, Mark, open_mark, cross, wide, heavy, no_event, no_entry, Entry, Event, Atlas, entry_at, mark_at, place_at, event_at, facets, facet_at, set_mark, opens, push, grow, cut}
use Rattle.lt_model.specs.RightAtlases.{IsCrossed, IsRightEntry, IsOpenAt, IsOrderly}
use Rattle.lt_model.specs.Logs.{IsUnlikeAll, IsKnown, IsNew, IsHeavy, IsCause, IsLegal, IsLegalLog, IsKept, IsCandidate, IsNoCross, IsStuck}
use Rattle.lt_core.proofs.Undo.{length_more, open_within, cut_push, cut_grow, cut_now, undo_all-queue}
use Rattle.lt_core.proofs.Recording.{mark_at-set_same, mark_at-set_other, mark_at-more, right_set, right_more}
use Rattle.lt_core.proofs.Steps.{queue_push, queue_grow, orderly_push, orderly_grow, long_changed, old_place, new_open}

-- no event has the mark open
pub cause_not_open : (d : ℕ) (es all : List Entry) (p : ℕ × ℕ) (t : Classes) (m : Mark) (fresh : Bool) → IsCause d es all p t m fresh → m ≡ open_mark → ⊥
cause_not_open d es all p t open_mark fresh c e = c
cause_not_open d es all p t (cross k u) fresh c e = cc
cause_not_open d es all p t (wide s n) fresh c e = cc
cause_not_open d es all p t (heavy n) fresh c e = cc

-- what is legal stays so where the whole atlas has an entry more
cause_more : (d : ℕ) (es all : List Entry) (p : ℕ × ℕ) (t : Classes) (m : Mark) (fresh : Bool) (x : Entry) → IsCause d es all p t m fresh → IsCause d es (all ++ x ∷ []) p t m fresh
cause_more d es all p t (cross k u) true x c =
    let s : entry_at (all ++ x ∷ []) k ≡ entry_at all k = get_or_append_left all (x ∷ []) no_entry k c.present in
    let l = length_more all x in
    record {
      number = c.number;
      matrix = c.matrix;
      new = c.new;
      present = (let y : k < length all = c.present in omega arith);
      entry = ap (λ (e : Entry). e.triangulation) s ∙ c.entry;
      right = subst (IsRightEntry d) (sym s) c.right;
      origin = ap (λ (e : Entry). e.origin) s ∙ c.origin;
    }
cause_more d es all p t (cross k u) false x c = c
cause_more d es all p t (wide s n) true x c = c
cause_more d es all p t (wide s n) false x c = c
cause_more d es all p t (heavy n) true x c = c
cause_more d es all p t (heavy n) false x c = c
cause_more d es all p t open_mark fresh x c = c

stuck_cause : (d : ℕ) (es : List Entry) (n : ℕ) (p : ℕ × ℕ) (t : Classes) (m : Mark) → IsNoCross m → IsCause d (take n es) es p t m false → (((k : ℕ) → m ≡ heavy k → ⊥) ⊎ (length es ≤ n)) → IsCause d es es p t m false
stuck_cause d es n p t open_mark x c h = absurd x
stuck_cause d es n p t (cross k u) x c h = absurd x
stuck_cause d es n p t (wide s w) x c h = c
stuck_cause d es n p t (heavy w) x c h = elim h [ inl f ↦ absurd (f w refl) | inr l ↦ subst (λ (z : List Entry). IsHeavy d z t w) (take_all n es l) c ]

module _ (Beyond : Classes → List ℤ → Classes → Type 0) where
  pub legal_more : (b : Atlas) (all : List Entry) (e : Event) (x : Entry) → IsLegal Beyond b all e → IsLegal Beyond b (all ++ x ∷ []) e
  legal_more b all e x h =
      record {
        position = h.position;
        across = h.across;
        is_across = h.is_across;
        cause = cause_more b.dimension b.entries all (place_at b.queue e.position) h.across e.mark e.fresh x h.cause;
      }

  -- the log of b is that of a and the event e more
  module _ (a b : Atlas) (e : Event) (log : b.log ≡ a.log ++ e ∷ []) (h : IsLegalLog Beyond a) (order : IsOrderly a)
      (cuts : (i : ℕ) → i ≤ length a.log → cut b i ≡ cut a i)
      (more : (c : Atlas) (x : Event) → IsLegal Beyond c a.entries x → IsLegal Beyond c b.entries x)
      (last : IsLegal Beyond a b.entries e)
      (places : (p : ℕ) → p < length a.queue → place_at b.queue p ≡ place_at a.queue p)
      (here : mark_at b.marks (place_at a.queue e.position) ≡ e.mark)
      (others : (q : ℕ × ℕ) → q.0 < length a.marks → (q ≡ place_at a.queue e.position → ⊥) → mark_at b.marks q ≡ mark_at a.marks q)
      (fresh_ones : (p : ℕ) → length a.queue ≤ p → p < length b.queue → mark_at b.marks (place_at b.queue p) ≡ open_mark) where
    old_event : (i : ℕ) → i < length a.log → event_at b.log i ≡ event_at a.log i
    old_event i l = ap (λ x. event_at x i) log ∙ get_or_append_left a.log (e ∷ []) no_event i l

    new_event : (i : ℕ) → length a.log ≡ i → event_at b.log i ≡ e
    new_event i l = ap (λ x. event_at x i) log ∙ get_or_at a.log e [] no_event i l

    long_log : length b.log ≡ suc (length a.log)
    long_log = ap length log ∙ length_more a.log e

    old_or_new : (i : ℕ) → i < length b.log → (i < length a.log) ⊎ (length a.log ≡ i)
    old_or_new i l = let k = long_log in elim (cases_lt i (length a.log)) [ inl x ↦ inl x | inr x ↦ inr (omega arith) ]

    queued : (i : ℕ) → i < length a.log → (event_at a.log i).position < length a.queue
    queued i l = let x = (h.legal i l).position.queued in let y = undo_all-queue (length a.log - i) a in omega arith

    -- the position of the new event is that of no old one
    new_position : (i : ℕ) → i < length a.log → (event_at a.log i).position ≡ e.position → ⊥
    new_position i l s =
        let x : IsLegal Beyond (cut a i) a.entries (event_at a.log i) = h.legal i l in
        cause_not_open (cut a i).dimension (cut a i).entries a.entries (place_at (cut a i).queue (event_at a.log i).position) x.across (event_at a.log i).mark (event_at a.log i).fresh x.cause
        (sym (h.standing i l) ∙ ap (λ p. mark_at a.marks (place_at a.queue p)) s ∙ last.position.undecided)

    -- a position other than the new one keeps its mark
    keeps : (p : ℕ) → p < length a.queue → (p ≡ e.position → ⊥) → mark_at b.marks (place_at b.queue p) ≡ mark_at a.marks (place_at a.queue p)
    keeps p l ne =
        ap (mark_at b.marks) (places p l)
        ∙ others (place_at a.queue p) (order.entry_within p l) (λ s. ne (order.once p e.position l last.position.queued s))

    pub log_more : IsLegalLog Beyond b
    log_more =
        record {
          distinct = λ i j li lj s. elim (old_or_new i li) [
            | inl x ↦ elim (old_or_new j lj) [
              | inl y ↦ h.distinct i j x y (sym (ap (λ (z : Event). z.position) (old_event i x)) ∙ s ∙ ap (λ (z : Event). z.position) (old_event j y))
              | inr y ↦ absurd (new_position i x (sym (ap (λ (z : Event). z.position) (old_event i x)) ∙ s ∙ ap (λ (z : Event). z.position) (new_event j y)))
            ]
            | inr x ↦ elim (old_or_new j lj) [
              | inl y ↦ absurd (new_position j y (sym (ap (λ (z : Event). z.position) (old_event j y)) ∙ sym s ∙ ap (λ (z : Event). z.position) (new_event i x)))
              | inr y ↦ sym x ∙ y
            ]
          ];
          legal = λ i li. elim (old_or_new i li) [
            | inl x ↦ subst (λ (z : Event). IsLegal Beyond (cut b i) b.entries z) (sym (old_event i x)) (subst (λ (c : Atlas). IsLegal Beyond c b.entries (event_at a.log i)) (sym (cuts i (omega arith))) (more (cut a i) (event_at a.log i) (h.legal i x)))
            | inr x ↦ subst (λ (z : Event). IsLegal Beyond (cut b i) b.entries z) (sym (new_event i x)) (subst (λ (c : Atlas). IsLegal Beyond c b.entries e) (sym (cuts i (omega arith) ∙ ap (cut a) (sym x) ∙ cut_now a)) last)
          ];
          standing = λ i li. elim (old_or_new i li) [
            | inl x ↦ subst (λ (z : Event). mark_at b.marks (place_at b.queue z.position) ≡ z.mark) (sym (old_event i x)) (keeps (event_at a.log i).position (queued i x) (new_position i x) ∙ h.standing i x)
            | inr x ↦ subst (λ (z : Event). mark_at b.marks (place_at b.queue z.position) ≡ z.mark) (sym (new_event i x)) (ap (mark_at b.marks) (places e.position last.position.queued) ∙ here)
          ];
          rest = λ p l none. elim (cases_lt p (length a.queue)) [
            | inl x ↦
                let k = long_log in
                let ne : p ≡ e.position → ⊥ = λ s. none (length a.log) (omega arith) (ap (λ (z : Event). z.position) (new_event (length a.log) refl) ∙ sym s) in
                let old : (i : ℕ) → i < length a.log → (event_at a.log i).position ≢ p = λ i y s. none i (omega arith) (ap (λ (z : Event). z.position) (old_event i y) ∙ s) in
                keeps p x ne ∙ h.rest p x old
            | inr x ↦ fresh_ones p x l
          ];
        }

  -- ---- the two recordings keep what an atlas keeps

  crossed : (a : Atlas) (p : ℕ × ℕ) (t : Classes) → Beyond (entry_at a.entries p.0).triangulation (facet_at a.entries p) t → (m : Mark) → IsCause a.dimension a.entries a.entries p t m false →
      (k : ℕ) (u : List (List ℤ)) → m ≡ cross k u → IsCrossed Beyond a.dimension a.entries p k u
  crossed a p t x m c k u e =
      let y : IsKnown a.dimension a.entries t k u = subst (λ (z : Mark). IsCause a.dimension a.entries a.entries p t z false) e c in
      record { present = y.present; across = t; is_across = x; narrow = y.narrow; carries = y.carries }

  pub kept_push : (a : Atlas) (p : ℕ) (m : Mark) → IsKept Beyond a → IsLegal Beyond a a.entries (record { position = p; mark = m; fresh = false }) → IsKept Beyond (push a p m)
  kept_push a p m h l =
      let o : IsOpenAt a p = l.position in
      let w = open_within a.marks (place_at a.queue p) o.undecided in
      record {
        right = record {
          parts = right_set Beyond a.dimension a.entries a.marks (place_at a.queue p) m h.right.parts o.undecided (crossed a (place_at a.queue p) l.across l.is_across m l.cause);
          queue = queue_push a p m o h.right.queue;
        };
        legal = log_more a (push a p m) (record { position = p; mark = m; fresh = false }) refl h.legal h.orderly
            (λ i x. cut_push a p m i o x)
            (λ c x y. y)
            l
            (λ x y. refl)
            (mark_at-set_same a.marks (place_at a.queue p) m w.0 w.1)
            (λ q x ne. mark_at-set_other a.marks (place_at a.queue p) m q w.0 ne)
            (λ x y z. absurd (omega arith));
        orderly = orderly_push a p m o h.orderly;
      }

  pub kept_grow : (a : Atlas) (p : ℕ) (e : Entry) → IsKept Beyond a → IsLegal Beyond a (a.entries ++ e ∷ []) (record { position = p; mark = cross (length a.entries) (identity a.dimension); fresh = true }) → IsKept Beyond (grow a p e)
  kept_grow a p e h l =
      let o : IsOpenAt a p = l.position in
      let q : ℕ × ℕ = place_at a.queue p in
      let it : Mark = cross (length a.entries) (identity a.dimension) in
      let c : IsNew a.dimension a.entries (a.entries ++ e ∷ []) q l.across (length a.entries) (identity a.dimension) = l.cause in
      let s : entry_at (a.entries ++ e ∷ []) (length a.entries) ≡ e = get_or_at a.entries e [] no_entry (length a.entries) refl in
      let t : l.across ≡ e.triangulation = sym c.entry ∙ ap (λ (x : Entry). x.triangulation) s in
      let lists = h.right.parts.lists in
      let w = open_within a.marks q o.undecided in
      let changed : List (List Mark) = set_mark a.marks q it in
      let lc = long_changed a p e o lists in
      record {
        right = record {
          parts = right_more Beyond a.dimension a.entries a.marks q e h.right.parts o.undecided
              (subst (λ (x : Classes). Beyond (entry_at a.entries q.0).triangulation (facet_at a.entries q) x) t l.is_across)
              (subst (λ (x : Classes). IsUnlikeAll a.dimension x a.entries) t c.new)
              (subst (IsRightEntry a.dimension) s c.right)
              (sym (ap (λ (x : Entry). x.origin) s) ∙ c.origin);
          queue = queue_grow a p e o lists h.right.queue;
        };
        legal = log_more a (grow a p e) (record { position = p; mark = it; fresh = true }) refl h.legal h.orderly
            (λ i x. cut_grow a p e i o x)
            (λ c x y. legal_more c a.entries x e y)
            l
            (λ x y. old_place a p e o lists x y)
            (mark_at-more changed (opens (length (facets e))) q (omega arith) ∙ mark_at-set_same a.marks q it w.0 w.1)
            (λ x y ne. mark_at-more changed (opens (length (facets e))) x (omega arith) ∙ mark_at-set_other a.marks q it x w.0 ne)
            (λ x y z. new_open a p e o lists x y z);
        orderly = orderly_grow a p e o lists h.orderly;
      }

  pub legal_new : (a : Atlas) (p : ℕ) (e : Entry) → IsOpenAt a p → IsCandidate Beyond a p (length a.entries) e → e.origin ≡ Some (place_at a.queue p) → IsLegal Beyond a (a.entries ++ e ∷ []) (record { position = p; mark = cross (length a.entries) (identity a.dimension); fresh = true })
  legal_new a p e o c g =
      let s : entry_at (a.entries ++ e ∷ []) (length a.entries) ≡ e = get_or_at a.entries e [] no_entry (length a.entries) refl in
      let l = length_more a.entries e in
      record {
        position = o;
        across = e.triangulation;
        is_across = c.is_across;
        cause = record {
          number = refl;
          matrix = refl;
          new = c.unlike;
          present = omega arith;
          entry = ap (λ (x : Entry). x.triangulation) s;
          right = subst (IsRightEntry a.dimension) (sym s) c.right;
          origin = ap (λ (x : Entry). x.origin) s ∙ g;
        };
      }

  -- a mark that is right for the first n entries is so for all where these are all, or where it is no heavy one
  pub legal_stuck : (a : Atlas) (p n : ℕ) (m : Mark) → IsOpenAt a p → IsStuck Beyond a p n m → (((k : ℕ) → m ≡ heavy k → ⊥) ⊎ (length a.entries ≤ n)) → IsLegal Beyond a a.entries (record { position = p; mark = m; fresh = false })
  legal_stuck a p n m o s h =
      record {
        position = o;
        across = s.across;
        is_across = s.is_across;
        cause = stuck_cause a.dimension a.entries n (place_at a.queue p) s.across m s.no_cross s.cause h;
      }
