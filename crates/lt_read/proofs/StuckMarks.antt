-- A wide or heavy mark of an atlas that began without one is that of an event of its log.
use Rattle.std.proofs.Common.{◌≡◌, ℕ, zero, suc, ℤ, ◌+◌, ◌-◌, ◌<◌, ◌≤◌, inl, inr, sym, ap, ◌∙◌, subst, arith, List, [], ◌∷◌, map, drop, length, get_or}
use Rattle.std.specs.List.{Contains}
use Rattle.std.proofs.lemmas.Bool.{cases_lt}
use Rattle.std.proofs.lemmas.List.{length-map, get_or-take, length-take-le, get_or-drop, get_or_default}
use Rattle.std.proofs.lemmas.List.Elements.{Contains-append_left, Contains-append_right}
use Rattle.lt_model.specs.Atlases.{Classes, Mark, open_mark, no_mark, Atlas, mark_at, place_at, event_at, one_if_stuck, count_in, count, stuck, begin}
use Rattle.lt_model.specs.RightAtlases.{all_places, open_places}
use Rattle.lt_model.specs.Logs.{IsKept}
use Rattle.lt_model.proofs.Atlases.{placed_all, event_there}
use Rattle.lt_core.specs.Beginnings.{fresh_events, Stands}
use Rattle.lt_core.proofs.Begun.{placed, begin-lengths}
use Rattle.lt_core.proofs.Undone.{lengths, no_length, all_stand}

-- ---- a number of marks that is 0

none_in : (c : Mark → ℕ) (ms : List Mark) (i : ℕ) → count_in c ms ≡ 0 → i < length ms → c (get_or ms i no_mark) ≡ 0
none_in c [] i e l = absurd (omega (arith, l))
none_in c (m ∷ ms) zero e l = omega (arith, e)
none_in c (m ∷ ms) (suc i) e l = none_in c ms i (omega (arith, e)) (omega (arith, l))

none_of : (c : Mark → ℕ) (mss : List (List Mark)) (p : ℕ × ℕ) → count c mss ≡ 0 → p.0 < length mss → p.1 < length (get_or mss p.0 []) → c (mark_at mss p) ≡ 0
none_of c mss p e l s = at mss p.0 p.1 e l s
  where
    at : (mss : List (List Mark)) (k f : ℕ) → count c mss ≡ 0 → k < length mss → f < length (get_or mss k []) → c (get_or (get_or mss k []) f no_mark) ≡ 0
    at [] k f e l s = absurd (omega (arith, l))
    at (ms ∷ mss) zero f e l s = none_in c ms f (omega (arith, e)) s
    at (ms ∷ mss) (suc k) f e l s = at mss k f (omega (arith, e)) (omega (arith, l)) s

open_is_not_stuck : (m : Mark) → one_if_stuck m ≡ 1 → m ≡ open_mark → ⊥
open_is_not_stuck m h e = let s : one_if_stuck m ≡ 0 = ap one_if_stuck e in omega (arith, h, s)

module _ (Beyond : Classes → List ℤ → Classes → Type 0) (a : Atlas) (kept : IsKept Beyond a) (none : stuck (begin a).marks ≡ 0) (p : ℕ × ℕ) (l : p.0 < length a.marks) (s : p.1 < length (get_or a.marks p.0 [])) (h : one_if_stuck (mark_at a.marks p) ≡ 1) where
  abbrev old : List (List Mark)
  old = (begin a).marks

  -- an old row of marks is as long as it was
  old_row : p.0 < length old → length (get_or old p.0 []) ≡ length (get_or a.marks p.0 [])
  old_row b =
      let long : length (lengths (begin a)) ≡ length old = length-map old length in
      let m = ap length (begin-lengths a) in
      let first = length-take-le (length (lengths a) - fresh_events a.log) (lengths a) (omega arith) in
      let lt : p.0 < length (lengths a) - fresh_events a.log = omega (arith, b, long, m, first) in
      no_length old p.0 ∙ ap (λ (ns : List ℕ). get_or ns p.0 0) (begin-lengths a) ∙ get_or-take (length (lengths a) - fresh_events a.log) (lengths a) p.0 0 lt ∙ sym (no_length a.marks p.0)

  -- an old place of the queue
  old_place : p.0 < length old → Stands (mark_at old p) (mark_at a.marks p) → Contains (open_places 0 old) p
  old_place b (inl o) = let z : 0 + p.0 ≡ p.0 = omega arith in subst (λ (k : ℕ). Contains (open_places 0 old) (k, p.1)) z (placed 0 old p.0 p.1 o)
  old_place b (inr same) =
      let z = none_of one_if_stuck old p none b (let r = old_row b in omega (arith, s, r)) in
      let e = ap one_if_stuck same in
      absurd (omega (arith, z, e, h))

  new_place : length old ≤ p.0 → Contains (all_places (length old) (drop (length old) (map length a.marks))) p
  new_place g =
      let ns : List ℕ = map length a.marks in
      let j : ℕ = p.0 - length old in
      let e : length old + j ≡ p.0 = omega (arith, g) in
      let row : get_or (drop (length old) ns) j 0 ≡ length (get_or a.marks p.0 []) = get_or-drop (length old) ns j 0 ∙ ap (λ (k : ℕ). get_or ns k 0) e ∙ sym (no_length a.marks p.0) in
      subst (λ (k : ℕ). Contains (all_places (length old) (drop (length old) ns)) (k, p.1)) e (placed_all (length old) (drop (length old) ns) j p.1 (omega (arith, s, row)))

  queued : Contains a.queue p
  queued =
      let first = open_places 0 old in
      let more = all_places (length old) (drop (length old) (map length a.marks)) in
      subst (λ (q : List (ℕ × ℕ)). Contains q p) (sym kept.right.queue) (elim (cases_lt p.0 (length old)) [
        | inl b ↦ Contains-append_left first more p (old_place b (all_stand (length a.log - 0) a p b))
        | inr g ↦ Contains-append_right first more p (new_place g)
      ])

  pub from_event : (i : ℕ) × (i < length a.log) × ((event_at a.log i).mark ≡ mark_at a.marks p)
  from_event = at queued
    where
      at : Contains a.queue p → (i : ℕ) × (i < length a.log) × ((event_at a.log i).mark ≡ mark_at a.marks p)
      at (x, b, e) =
          let is : place_at a.queue x ≡ p = get_or_default a.queue x (0, 0) p b ∙ e in
          elim (event_there a.log x (length a.log)) [
            | inl r ↦ (r.0, r.1, sym (kept.legal.standing r.0 r.1) ∙ ap (λ (y : ℕ). mark_at a.marks (place_at a.queue y)) r.2 ∙ ap (mark_at a.marks) is)
            | inr none ↦ absurd (open_is_not_stuck (mark_at a.marks p) h (ap (mark_at a.marks) (sym is) ∙ kept.legal.rest x b none))
          ]
