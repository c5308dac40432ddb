-- The events of a merged atlas, and one more of them.
use Rattle.std.proofs.Common.{◌≡◌, ℕ, suc, ◌<◌, ◌+◌, ◌⊎◌, ◌∙◌, refl, arith, sym, ap, subst, inl, inr, List, [], ◌∷◌, ◌++◌, length, get_or, length-append}
use Rattle.std.proofs.lemmas.Bool.{cases_lt}
use Rattle.std.proofs.lemmas.List.{get_or_at, get_or_append_left}
use Rattle.lt_model.specs.Atlases.{Atlas, Event, no_event, event_at, cut}
use Rattle.lt_model.specs.Order.{IsBefore}
use Rattle.lt_model.specs.RightAtlases.{IsOpenAt}
use Rattle.lt_core.proofs.Recording.{same_place}
use Rattle.lt_core.proofs.Undo.{length_more, cut_now}
use Rattle.lt_crew.specs.Settled.{IsSettled}
use Rattle.lt_crew.proofs.Steps.{IsNext, settled_next, settled_on}
use Rattle.lt_merge.specs.Turns.{StandsAtImage, AreTurns}

-- ---- the order of facets

pub before_next : (p : ℕ × ℕ) (k f : ℕ) → IsBefore p (k, f) → IsBefore p (k, f + 1)
before_next p k f (inl l) = inl l
before_next p k f (inr h) = let l = h.1 in inr (h.0, omega (arith, l))

pub self_next : (k f : ℕ) → IsBefore (k, f) (k, f + 1)
self_next k f = inr (refl, omega arith)

pub next_cases : (p : ℕ × ℕ) (k f : ℕ) → IsBefore p (k, f + 1) → IsBefore p (k, f) ⊎ ((k, f) ≡ p)
next_cases p k f (inl l) = inl (inl l)
next_cases p k f (inr h) =
    elim (cases_lt p.1 f) [
      | inl l ↦ inl (inr (h.0, l))
      | inr l ↦ (let m = h.1 in inr (same_place (k, f) p (sym h.0) (omega (arith, l, m))))
    ]

pub before_row : (p : ℕ × ℕ) (k f : ℕ) → IsBefore p (k, f) → IsBefore p (k + 1, 0)
before_row p k f (inl l) = inl (omega (arith, l))
before_row p k f (inr h) = let e = h.0 in inl (omega (arith, e))

pub none_before : (p : ℕ × ℕ) → IsBefore p (0, 0) → ⊥
none_before p (inl l) = omega (arith, l)
none_before p (inr h) = let l = h.1 in omega (arith, l)

-- ---- events

pub no_turns : (t : Atlas) (end : ℕ × ℕ) (a : Atlas) → a.log ≡ [] → AreTurns t end a
no_turns t end a e =
    let n : length a.log ≡ 0 = ap length e in
    record {
      sources = [];
      count = sym n;
      before = λ i l. absurd (omega (arith, n, l));
      ascending = λ i j l k. absurd (omega (arith, n, k));
      images = λ i l. absurd (omega (arith, n, l));
      settled = λ i l. absurd (omega (arith, n, l));
    }

pub turns_later : (t : Atlas) (end later : ℕ × ℕ) (a : Atlas) → ((p : ℕ × ℕ) → IsBefore p end → IsBefore p later) → AreTurns t end a → AreTurns t later a
turns_later t end later a h w = record { sources = w.sources; count = w.count; before = λ i l. h (get_or w.sources i (0, 0)) (w.before i l); ascending = w.ascending; images = w.images; settled = w.settled }

module _ (t : Atlas) (k f : ℕ) (a b : Atlas) (x : ℕ) (here : IsOpenAt a x) (s : IsSettled a x b) (image : StandsAtImage t (k, f) a x) (w : AreTurns t (k, f) a) where
  next : IsNext a x b
  next = settled_next a b x here s

  long : length b.log ≡ suc (length a.log)
  long = ap length next.log ∙ length_more a.log next.event

  old_source : (i : ℕ) → i < length a.log → get_or (w.sources ++ (k, f) ∷ []) i (0, 0) ≡ get_or w.sources i (0, 0)
  old_source i l = let c = w.count in get_or_append_left w.sources ((k, f) ∷ []) (0, 0) i (omega (arith, c, l))

  new_source : (i : ℕ) → length a.log ≡ i → get_or (w.sources ++ (k, f) ∷ []) i (0, 0) ≡ (k, f)
  new_source i e = get_or_at w.sources (k, f) [] (0, 0) i (w.count ∙ e)

  old_or_new : (i : ℕ) → i < length b.log → (i < length a.log) ⊎ (length a.log ≡ i)
  old_or_new i l = let n = long in elim (cases_lt i (length a.log)) [ inl h ↦ inl h | inr h ↦ inr (omega (arith, n, l, h)) ]

  old_event : (i : ℕ) → i < length a.log → (event_at b.log i).position ≡ (event_at a.log i).position
  old_event i l = ap (λ (z : List Event). (event_at z i).position) next.log ∙ ap (λ (e : Event). e.position) (get_or_append_left a.log (next.event ∷ []) no_event i l)

  new_event : (i : ℕ) → length a.log ≡ i → (event_at b.log i).position ≡ x
  new_event i e = ap (λ (z : List Event). (event_at z i).position) next.log ∙ ap (λ (z : Event). z.position) (get_or_at a.log next.event [] no_event i e) ∙ next.position

  at_image : (p q : ℕ × ℕ) (c d : Atlas) (y z : ℕ) → q ≡ p → d ≡ c → z ≡ y → StandsAtImage t p c y → StandsAtImage t q d z
  at_image p q c d y z ep ec ey h =
      subst (λ (n : ℕ). StandsAtImage t q d n) (sym ey) (subst (λ (e : Atlas). StandsAtImage t q e y) (sym ec) (subst (λ (r : ℕ × ℕ). StandsAtImage t r c y) (sym ep) h))

  earlier : (p q r s : ℕ × ℕ) → r ≡ p → s ≡ q → IsBefore p q → IsBefore r s
  earlier p q r s ep eq h = subst (λ (z : ℕ × ℕ). IsBefore z s) (sym ep) (subst (λ (z : ℕ × ℕ). IsBefore p z) (sym eq) h)

  pub turns_more : AreTurns t (k, f + 1) b
  turns_more = record {
    sources = w.sources ++ (k, f) ∷ [];
    count = let c = w.count in let n = long in omega (arith, c, n, length-append w.sources ((k, f) ∷ []));
    before = λ i l. elim (old_or_new i l) [
      | inl h ↦ earlier (get_or w.sources i (0, 0)) (k, f + 1) (get_or (w.sources ++ (k, f) ∷ []) i (0, 0)) (k, f + 1) (old_source i h) refl (before_next (get_or w.sources i (0, 0)) k f (w.before i h))
      | inr e ↦ earlier (k, f) (k, f + 1) (get_or (w.sources ++ (k, f) ∷ []) i (0, 0)) (k, f + 1) (new_source i e) refl (self_next k f)
    ];
    ascending = λ i j l m. elim (old_or_new j m) [
      | inl h ↦ earlier (get_or w.sources i (0, 0)) (get_or w.sources j (0, 0)) (get_or (w.sources ++ (k, f) ∷ []) i (0, 0)) (get_or (w.sources ++ (k, f) ∷ []) j (0, 0)) (old_source i (omega (arith, l, h))) (old_source j h) (w.ascending i j l h)
      | inr e ↦ earlier (get_or w.sources i (0, 0)) (k, f) (get_or (w.sources ++ (k, f) ∷ []) i (0, 0)) (get_or (w.sources ++ (k, f) ∷ []) j (0, 0)) (old_source i (omega (arith, l, e))) (new_source j e) (w.before i (omega (arith, l, e)))
    ];
    images = λ i l. elim (old_or_new i l) [
      | inl h ↦ at_image (get_or w.sources i (0, 0)) (get_or (w.sources ++ (k, f) ∷ []) i (0, 0)) (cut a i) (cut b i) (event_at a.log i).position (event_at b.log i).position (old_source i h) (next.past i (omega (arith, h))) (old_event i h) (w.images i h)
      | inr e ↦ at_image (k, f) (get_or (w.sources ++ (k, f) ∷ []) i (0, 0)) a (cut b i) x (event_at b.log i).position (new_source i e) (next.past i (omega (arith, e)) ∙ ap (cut a) (sym e) ∙ cut_now a) (new_event i e) image
    ];
    settled = settled_on a b x here w.settled s;
  }

  pub begin_kept : cut b 0 ≡ cut a 0
  begin_kept = next.past 0 (omega arith)
