-- A drill, turn after turn: each event of its log stands at the position that was drawn.
use Rattle.std.proofs.Common.{◌≡◌, ℕ, suc, ◌+◌, ◌-◌, ◌<◌, ◌≤◌, refl, arith, add-one, sym, ap, ◌∙◌, subst, inl, inr, ◌⊎◌, List, [], ◌∷◌, length}
use Rattle.std.specs.Prelude.{Result, Ok, Err, OnOk}
use Rattle.std.proofs.lemmas.Bool.{cases_lt}
use Rattle.std.proofs.lemmas.List.{get_or_at, get_or_append_left}
use Rattle.lt_model.specs.Atlases.{Event, Atlas, no_event, event_at, cut, begin, undecided}
use Rattle.lt_model.specs.Logs.{IsKept}
use Rattle.lt_model.specs.Walls.{IsAcross}
use Rattle.lt_core.specs.Starts.{IsStarting}
use Rattle.lt_core.proofs.Undo.{length_more, cut_now, undo_all-dimension}
use Rattle.lt_crew.specs.Settled.{IsSettled}
use Rattle.lt_drill.specs.States.{next_state, answer_at, after, drawn}
use Rattle.lt_crew.proofs.Steps.{IsNext, settled_next}
use Rattle.ltypes.specs.Drills.{open_positions, IsOpenNumber, IsTurn, IsDrawnAt, IsDrilled}

-- the drill of s with the seed has taken n turns, and the generator's number is x
pub record IsDrilledTo (s : Atlas) (seed x n : ℕ) (a : Atlas) : Type 0 where
  pub state : x ≡ after n seed
  pub done : length a.log ≡ n
  pub begins : begin a ≡ s
  pub drawn : (i : ℕ) → i < length a.log → IsDrawnAt seed a i
  pub few : length a.entries ≤ 1 + n

pub no_turn : (d seed : ℕ) (s : Atlas) → IsStarting d s → IsDrilledTo s seed seed 0 s
no_turn d seed s start =
    let none : length s.log ≡ 0 = ap (λ (z : Atlas). length z.log) start.atlas in
    let one : length s.entries ≡ 1 = ap (λ (z : Atlas). length z.entries) start.atlas in
    record {
      state = refl;
      done = none;
      begins = subst (λ (n : ℕ). cut s n ≡ s) none (cut_now s);
      drawn = λ i l. absurd (omega (arith, none, l));
      few = omega (arith, one);
    }

module _ (s : Atlas) (seed x n : ℕ) (a b : Atlas) (before : IsDrilledTo s seed x n a) (turn : IsTurn x a b) where
  step : IsNext a turn.position b
  step = settled_next a b turn.position turn.drawn.position turn.settled

  long : length b.log ≡ suc n
  long = ap length step.log ∙ length_more a.log step.event ∙ ap suc before.done

  -- an earlier event, and the atlas that it met
  earlier : (i : ℕ) → i < n → IsDrawnAt seed b i
  earlier i l =
      let h : i < length a.log = omega (arith, l, before.done) in
      let event : event_at b.log i ≡ event_at a.log i = ap (λ (z : List Event). event_at z i) step.log ∙ get_or_append_left a.log (step.event ∷ []) no_event i h in
      subst (λ (c : Atlas). IsOpenNumber c (drawn (suc i) seed (open_positions c)) (event_at b.log i).position) (sym (step.past i (omega (arith, h))))
      (subst (λ (e : Event). IsOpenNumber (cut a i) (drawn (suc i) seed (open_positions (cut a i))) e.position) (sym event) (before.drawn i h))

  -- and the event of the turn
  last : IsDrawnAt seed b n
  last =
      let met : cut b n ≡ a = step.past n (omega (arith, before.done)) ∙ ap (cut a) (sym before.done) ∙ cut_now a in
      let at : (event_at b.log n).position ≡ turn.position = ap (λ (z : List Event). (event_at z n).position) step.log ∙ ap (λ (e : Event). e.position) (get_or_at a.log step.event [] no_event n before.done) ∙ step.position in
      let number : answer_at (next_state x) (open_positions a) ≡ drawn (suc n) seed (open_positions a) = ap (λ (y : ℕ). answer_at (next_state y) (open_positions a)) before.state in
      subst (λ (c : Atlas). IsOpenNumber c (drawn (suc n) seed (open_positions c)) (event_at b.log n).position) (sym met)
      (subst (λ (p : ℕ). IsOpenNumber a (drawn (suc n) seed (open_positions a)) p) (sym at)
      (subst (λ (r : ℕ). IsOpenNumber a r turn.position) number turn.drawn))

  next : IsDrilledTo s seed (next_state x) (suc n) b
  next = record {
    state = ap next_state before.state;
    done = long;
    begins = step.past 0 (omega arith) ∙ before.begins;
    drawn = λ i l. elim (cases_lt i n) [
      | inl h ↦ earlier i h
      | inr h ↦ subst (λ (k : ℕ). IsDrawnAt seed b k) (let same : n ≡ i = omega (arith, h, l, long) in same) last
    ];
    few = let e = step.entries in let f = before.few in omega (arith, e, f);
  }

  pub next_turn : IsDrilledTo s seed (next_state x) (n + 1) b
  next_turn = subst (λ (k : ℕ). IsDrilledTo s seed (next_state x) k b) (sym (add-one n)) next

-- what a turn draws and settles
pub takes : (x y count number p : ℕ) (a b : Atlas) → y ≡ next_state x → number ≡ answer_at y count → count ≡ open_positions a → IsOpenNumber a number p → IsSettled a p b → IsTurn x a b
takes x y count number p a b state answer all here settled =
    let e : number ≡ answer_at (next_state x) (open_positions a) = answer ∙ ap (λ (z : ℕ). answer_at z count) state ∙ ap (λ (z : ℕ). answer_at (next_state x) z) all in
    record { position = p; drawn = subst (λ (r : ℕ). IsOpenNumber a r p) e here; settled = settled }

pub on_ok : {T E : Type 0} {P Q : Type 0} → (r : Result T E) → (P → Q) → OnOk r P → OnOk r Q
on_ok (Ok x) f p = f p
on_ok (Err e) f p = tt

-- the end of the turns
module _ (d seed turns x n : ℕ) (s a : Atlas) (start : IsStarting d s) (h : IsDrilledTo s seed x n a) (kept : IsKept (IsAcross a.dimension) a) where
  in_dimension : a.dimension ≡ d
  in_dimension = sym (undo_all-dimension (length a.log - 0) a) ∙ ap (λ (z : Atlas). z.dimension) h.begins ∙ ap (λ (z : Atlas). z.dimension) start.atlas

  pub is_drilled : (n ≡ turns) ⊎ ((n < turns) × (undecided a.marks ≡ 0)) → IsDrilled d seed turns a
  is_drilled end = record {
    dimension = in_dimension;
    kept = subst (λ (k : ℕ). IsKept (IsAcross k) a) in_dimension kept;
    begins = subst (IsStarting d) (sym h.begins) start;
    drawn = h.drawn;
    ended = subst (λ (k : ℕ). (k ≡ turns) ⊎ ((k < turns) × (undecided a.marks ≡ 0))) (sym h.done) end;
  }
