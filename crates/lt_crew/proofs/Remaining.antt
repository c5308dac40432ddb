-- The last loop: what is settled stays settled, and each step settles one position more.
use Rattle.std.proofs.Common.{◌≡◌, ◌≢◌, ℕ, suc, ◌+◌, ◌<◌, ◌≤◌, refl, arith, sym, ap, ◌∙◌, subst, inl, inr, List, [], ◌∷◌, length, ◌⊎◌, length-append}
use Rattle.std.proofs.lemmas.List.{get_or_at, get_or_append_left}
use Rattle.std.proofs.lemmas.Bool.{cases_lt}
use Rattle.lt_model.specs.Walls.{IsAcross}
use Rattle.lt_model.specs.Atlases.{open_mark, cross, wide, heavy, Event, Atlas, no_event, facets, mark_at, place_at, event_at, push, grow, cut, begin, places_from}
use Rattle.lt_model.specs.RightAtlases.{IsOpenAt}
use Rattle.lt_model.specs.Logs.{IsLegal, IsKept}
use Rattle.lt_core.specs.Candidates.{candidate}
use Rattle.lt_core.proofs.Kept.{cause_not_open}
use Rattle.lt_crew.specs.Settled.{IsSettled}
use Rattle.lt_crew.specs.Runs.{AreBelow, AreSettled, IsSettledBelow}
use Rattle.lt_crew.proofs.Steps.{IsNext, settled_next, settled_more}
use Rattle.lt_crew.proofs.Events.{IsWithin, below_more}

-- where an event stands the mark is not open
event_settles : (a : Atlas) → IsKept (IsAcross a.dimension) a → (i : ℕ) → i < length a.log → mark_at a.marks (place_at a.queue (event_at a.log i).position) ≡ open_mark → ⊥
event_settles a kept i l o =
    let e : Event = event_at a.log i in
    let legal : IsLegal (IsAcross a.dimension) (cut a i) a.entries e = kept.legal.legal i l in
    cause_not_open (cut a i).dimension (cut a i).entries a.entries (place_at (cut a i).queue e.position) legal.across e.mark e.fresh legal.cause (sym (kept.legal.standing i l) ∙ o)

-- the queue grows
longer_queue : (a b : Atlas) (p : ℕ) → IsSettled a p b → length a.queue ≤ length b.queue
longer_queue a b p s =
    elim s.end [
      | inl w ↦ same b (push a p (wide w.0 w.1)) w.3 (omega arith)
      | inr n ↦ elim n.1 [
        | inl k ↦ same b (push a p (cross k.0 k.1)) k.3 (omega arith)
        | inr o ↦ elim o [
          | inl v ↦ same b (push a p (heavy v.0)) v.2 (omega arith)
          | inr g ↦ same b (grow a p (candidate a p s.across g.0)) g.3 (let l = length-append a.queue (places_from (length a.entries) 0 (length (facets (candidate a p s.across g.0)))) in omega (arith, l))
        ]
      ]
    ]
  where
    same : (b c : Atlas) → b ≡ c → length a.queue ≤ length c.queue → length a.queue ≤ length b.queue
    same b c e h = subst (λ (z : Atlas). length a.queue ≤ length z.queue) (sym e) h

-- of the atlas s, whose events stand below the limit, the atlas a has settled the positions below p
pub record IsRestTo (s a : Atlas) (steps p : ℕ) : Type 0 where
  pub begins : begin a ≡ begin s
  pub within : IsWithin a steps
  pub events : AreSettled a
  pub settled : (q : ℕ) → q < p → (q < length a.queue) × (mark_at a.marks (place_at a.queue q) ≢ open_mark)

-- the mark there was settled already
pub rest_goes_on : (s a : Atlas) (steps p : ℕ) → IsRestTo s a steps p → p < length a.queue → mark_at a.marks (place_at a.queue p) ≢ open_mark → IsRestTo s a steps (p + 1)
rest_goes_on s a steps p r l n = record {
  begins = r.begins;
  within = r.within;
  events = r.events;
  settled = λ q h. elim (cases_lt q p) [
    | inl k ↦ r.settled q k
    | inr k ↦ (let e : p ≡ q = omega (arith, h, k) in subst (λ (z : ℕ). (z < length a.queue) × (mark_at a.marks (place_at a.queue z) ≢ open_mark)) e (l, n))
  ];
}

module _ (a b : Atlas) (p : ℕ) (before : IsKept (IsAcross a.dimension) a) (after : IsKept (IsAcross b.dimension) b) (n : IsNext a p b) (longer : length a.queue ≤ length b.queue) where
  long : length b.log ≡ suc (length a.log)
  long = let e = ap length n.log in let l = length-append a.log (n.event ∷ []) in omega (arith, e, l)

  earlier : (i : ℕ) → i < length a.log → event_at b.log i ≡ event_at a.log i
  earlier i l = ap (λ (z : List Event). event_at z i) n.log ∙ get_or_append_left a.log (n.event ∷ []) no_event i l

  last : (event_at b.log (length a.log)).position ≡ p
  last = ap (λ (z : List Event). (event_at z (length a.log)).position) n.log ∙ ap (λ (z : Event). z.position) (get_or_at a.log n.event [] no_event (length a.log) refl) ∙ n.position

  pub stays : (q : ℕ) → q < length a.queue → mark_at a.marks (place_at a.queue q) ≢ open_mark → mark_at b.marks (place_at b.queue q) ≢ open_mark
  stays q l m o =
      m (before.legal.rest q l (λ i k same.
      let e : (event_at b.log i).position ≡ q = ap (λ (z : Event). z.position) (earlier i k) ∙ same in
      event_settles b after i (omega (arith, k, long)) (ap (λ (z : ℕ). mark_at b.marks (place_at b.queue z)) e ∙ o)))

  pub settles : mark_at b.marks (place_at b.queue p) ≢ open_mark
  settles o = event_settles b after (length a.log) (omega (arith, long)) (ap (λ (z : ℕ). mark_at b.marks (place_at b.queue z)) last ∙ o)

  pub within_next : (steps : ℕ) → IsWithin a steps → p < steps → IsWithin b steps
  within_next steps w h =
      let e = n.entries in
      let f = w.few in record {
        below = subst (λ (z : List Event). AreBelow steps z) (sym n.log) (below_more a.log n.event steps w.below (let k = n.position in omega (arith, k, h)));
        few = omega (arith, e, f, long);
      }

pub rest_steps : (s a b : Atlas) (steps p : ℕ) → IsRestTo s a steps p → IsKept (IsAcross a.dimension) a → IsKept (IsAcross b.dimension) b → p < steps → IsOpenAt a p → IsSettled a p b → IsRestTo s b steps (p + 1)
rest_steps s a b steps p r before after l here settled =
    let n = settled_next a b p here settled in
    let longer = longer_queue a b p settled in
    rest_goes_on s b steps p (record {
      begins = n.past 0 (omega arith) ∙ r.begins;
      within = within_next a b p before after n longer steps r.within l;
      events = settled_more a b p n r.events settled;
      settled = λ q h. let x = r.settled q h in (omega (arith, x.0, longer), stays a b p before after n longer q x.0 x.1);
    }) (let q = here.queued in omega (arith, q, longer)) (settles a b p before after n longer)

pub rest_ends : (s a : Atlas) (steps p : ℕ) → IsRestTo s a steps p → IsKept (IsAcross a.dimension) a → (steps ≤ p ⊎ length a.queue ≤ p) → IsSettledBelow steps a
rest_ends s a steps p r kept end q h = (there, λ l. kept.legal.rest q h (λ i k e. let b = r.within.below i k in omega (arith, l, e, b))) where
  there : mark_at a.marks (place_at a.queue q) ≡ open_mark → steps ≤ q
  there o =
      elim (cases_lt q p) [
        | inl l ↦ absurd ((r.settled q l).1 o)
        | inr l ↦ elim end [
          | inl e ↦ omega (arith, e, l)
          | inr e ↦ absurd (omega (arith, e, l, h))
        ]
      ]
