-- Events at different positions below a limit are at most as many.
use Rattle.std.proofs.Common.{◌≡◌, ◌≢◌, ℕ, suc, ◌+◌, ◌<◌, ◌≤◌, refl, arith, sym, subst, inl, inr, List, [], ◌∷◌, ◌++◌, map, length, true, false, Bool, length-append, eqb, ne_eqb, ◌||◌}
use Rattle.std.specs.List.{IsDistinct, AllByRecursion, list_any}
use Rattle.std.proofs.lemmas.List.{length-map, map-append, get_or_at, get_or_append_left}
use Rattle.std.proofs.lemmas.Bool.{cases_lt}
use Rattle.std.proofs.lemmas.Bool.Decides.{nat_tests}
use Rattle.std.proofs.lemmas.Map.Steps.{length-le_from_distinct_below}
use Rattle.lt_model.specs.Walls.{IsAcross}
use Rattle.lt_model.specs.Atlases.{Classes, Mark, cross, Entry, Event, Atlas, no_event, event_at, push, grow}
use Rattle.lt_model.specs.Matrices.{identity}
use Rattle.lt_crew.specs.Shared.{triangulation_of}
use Rattle.lt_model.specs.Logs.{IsLegalLog}
use Rattle.lt_crew.specs.Runs.{AreBelow}

all_apart : (n : ℕ) (l : List Event) → ((i : ℕ) → i < length l → n ≢ (event_at l i).position) → AllByRecursion (λ y. eqb n y ≡ false) (map (λ (e : Event). e.position) l)
all_apart n [] d = tt
all_apart n (x ∷ l) d = (ne_eqb n x.position (d 0 (omega arith)), all_apart n l (λ i h. d (suc i) (omega arith)))

apart : (l : List Event) → ((i j : ℕ) → i < length l → j < length l → (event_at l i).position ≡ (event_at l j).position → i ≡ j) → IsDistinct eqb (map (λ (e : Event). e.position) l)
unfolding IsDistinct
apart [] d = tt
apart (x ∷ l) d = (
  all_apart x.position l (λ i h same. let e : 0 ≡ suc i = d 0 (suc i) (omega arith) (omega arith) same in absurd (omega (arith, e))),
  apart l (λ i j h k same. let e : suc i ≡ suc j = d (suc i) (suc j) (omega arith) (omega arith) same in omega (arith, e)),
)

below_one : (t more : Bool) (q p steps : ℕ) → eqb q p ≡ t → p < steps → (more ≡ true → q < steps) → (t || more) ≡ true → q < steps
below_one true more q p steps e a rest k = grind (arith, nat_tests)
below_one false more q p steps e a rest k = rest k

below_each : (l : List Event) (steps : ℕ) → AreBelow steps l → (q : ℕ) → list_any (eqb q) (map (λ (e : Event). e.position) l) ≡ true → q < steps
below_each [] steps b q h = absurd (cc)
below_each (x ∷ l) steps b q h =
    below_one (eqb q x.position) (list_any (eqb q) (map (λ (e : Event). e.position) l)) q x.position steps refl (b 0 (omega arith)) (below_each l steps (λ i n. b (suc i) (omega arith)) q) h

pub few_events : (a : Atlas) (steps : ℕ) → IsLegalLog (IsAcross a.dimension) a → AreBelow steps a.log → length a.log ≤ steps
few_events a steps legal below =
    let n = length-le_from_distinct_below (map (λ (e : Event). e.position) a.log) steps (apart a.log legal.distinct) (below_each a.log steps below) in
    let m : length (map (λ (e : Event). e.position) a.log) ≡ length a.log = length-map a.log (λ (e : Event). e.position) in
    omega (arith, n, m)

-- one event more below the limit
pub below_more : (l : List Event) (e : Event) (steps : ℕ) → AreBelow steps l → e.position < steps → AreBelow steps (l ++ e ∷ [])
below_more l e steps below h i k =
    elim (cases_lt i (length l)) [
      | inl x ↦ subst (λ (z : Event). z.position < steps) (sym (get_or_append_left l (e ∷ []) no_event i x)) (below i x)
      | inr x ↦ (let n : i ≡ length l = omega (arith, k, x, length-append l (e ∷ [])) in subst (λ (z : Event). z.position < steps) (sym (get_or_at l e [] no_event i (sym n))) h)
    ]

-- what a desk keeps of its atlas
pub record IsWithin (a : Atlas) (steps : ℕ) : Type 0 where
  pub below : AreBelow steps a.log
  pub few : length a.entries ≤ 100001 + length a.log

pub within_push : (a : Atlas) (p : ℕ) (m : Mark) (steps : ℕ) → IsWithin a steps → p < steps → IsWithin (push a p m) steps
within_push a p m steps w h =
    let e : Event = record { position = p; mark = m; fresh = false } in
    let f = w.few in
    let l = length-append a.log (e ∷ []) in
    record { below = below_more a.log e steps w.below h; few = omega (arith, f, l) }

pub within_grow : (a : Atlas) (p : ℕ) (x : Entry) (steps : ℕ) → IsWithin a steps → p < steps → IsWithin (grow a p x) steps
within_grow a p x steps w h =
    let e : Event = record { position = p; mark = cross (length a.entries) (identity a.dimension); fresh = true } in
    let f = w.few in
    let l = length-append a.log (e ∷ []) in
    let n = length-append a.entries (x ∷ []) in
    record { below = below_more a.log e steps w.below h; few = omega (arith, f, l, n) }

-- ---- what a recording does to what a desk keeps: the number of events, the triangulations, and the limits

abbrev pub Held : Atlas → ℕ → ℕ → List Classes → Type 0
Held b steps events ts = (length b.log ≡ events) × (map triangulation_of b.entries ≡ ts) × IsWithin b steps

held_push : (a : Atlas) (p steps : ℕ) (m : Mark) → IsWithin a steps → p < steps → Held (push a p m) steps (length a.log + 1) (map triangulation_of a.entries)
held_push a p steps m w h = let l = length-append a.log (record { position = p; mark = m; fresh = false } ∷ []) in (omega (arith, l), refl, within_push a p m steps w h)

held_grow : (a : Atlas) (p steps : ℕ) (x : Entry) → IsWithin a steps → p < steps → Held (grow a p x) steps (length a.log + 1) (map triangulation_of a.entries ++ x.triangulation ∷ [])
held_grow a p steps x w h =
    let l = length-append a.log (record { position = p; mark = cross (length a.entries) (identity a.dimension); fresh = true } ∷ []) in
    (omega (arith, l), map-append triangulation_of a.entries (x ∷ []), within_grow a p x steps w h)

pub held_pushed : (a b : Atlas) (p steps : ℕ) (m : Mark) → IsWithin a steps → p < steps → b ≡ push a p m → Held b steps (length a.log + 1) (map triangulation_of a.entries)
held_pushed a b p steps m w h e = subst (λ (z : Atlas). Held z steps (length a.log + 1) (map triangulation_of a.entries)) (sym e) (held_push a p steps m w h)

pub held_grown : (a b : Atlas) (p steps : ℕ) (x : Entry) → IsWithin a steps → p < steps → b ≡ grow a p x → Held b steps (length a.log + 1) (map triangulation_of a.entries ++ x.triangulation ∷ [])
held_grown a b p steps x w h e = subst (λ (z : Atlas). Held z steps (length a.log + 1) (map triangulation_of a.entries ++ x.triangulation ∷ [])) (sym e) (held_grow a p steps x w h)

pub held_same : (a b : Atlas) (steps : ℕ) → IsWithin a steps → b ≡ a → Held b steps (length a.log) (map triangulation_of a.entries)
held_same a b steps w e = subst (λ (z : Atlas). Held z steps (length a.log) (map triangulation_of a.entries)) (sym e) (refl, refl, w)
