-- The open positions of a queue: their number is 0 only where no mark is open.
use Rattle.std.proofs.Common.{◌≡◌, ℕ, zero, suc, ◌+◌, ◌-◌, ◌<◌, refl, arith, add-one, ap, ◌∙◌, subst, inl, inr, List, [], ◌∷◌, length, get_or}
use Rattle.std.specs.List.{Contains}
use Rattle.std.proofs.lemmas.Bool.{cases_lt}
use Rattle.std.proofs.lemmas.List.{get_or_default}
use Rattle.lt_model.specs.Atlases.{Mark, open_mark, no_mark, Atlas, mark_at, place_at, one_if_open, count_in, undecided, begin}
use Rattle.lt_model.specs.Logs.{IsKept}
use Rattle.lt_model.specs.Walls.{IsAcross}
use Rattle.lt_core.proofs.Undone.{all_stand}
use Rattle.lt_core.proofs.Sounds.{not_open_counts}
use Rattle.lt_crew.proofs.Queued.{open_is_queued, later_is_queued}
use Rattle.ltypes.specs.Drills.{open_before, open_positions}

pub open_counts : (m : Mark) → m ≡ open_mark → one_if_open m ≡ 1
open_counts m e = ap one_if_open e

-- an open position among the first n is counted
counted : (a : Atlas) (n p : ℕ) → p < n → mark_at a.marks (place_at a.queue p) ≡ open_mark → 0 < open_before a n
counted a zero p l o = absurd (omega (arith, l))
counted a (suc n) p l o =
    elim (cases_lt p n) [
      | inl h ↦ let some = counted a n p h o in omega (arith, some)
      | inr h ↦
          let same : p ≡ n = omega (arith, l, h) in
          let one = open_counts (mark_at a.marks (place_at a.queue n)) (subst (λ (k : ℕ). mark_at a.marks (place_at a.queue k) ≡ open_mark) same o) in
          omega (arith, one)
    ]

-- ---- marks that aren't open

row_counts : (ms : List Mark) → ((f : ℕ) → f < length ms → get_or ms f no_mark ≡ open_mark → ⊥) → count_in one_if_open ms ≡ 0
row_counts [] h = refl
row_counts (m ∷ ms) h =
    let here = not_open_counts m (h 0 (omega arith)) in
    let rest = row_counts ms (λ f l. h (suc f) (omega (arith, l))) in
    omega (arith, here, rest)

all_counts : (mss : List (List Mark)) → ((j f : ℕ) → j < length mss → f < length (get_or mss j []) → mark_at mss (j, f) ≡ open_mark → ⊥) → undecided mss ≡ 0
all_counts [] h = refl
all_counts (ms ∷ mss) h =
    let here = row_counts ms (λ f l. h 0 f (omega arith) l) in
    let rest = all_counts mss (λ j f l k. h (suc j) f (omega (arith, l)) k) in
    omega (arith, here, rest)

module _ (a : Atlas) (kept : IsKept (IsAcross a.dimension) a) where
  -- an open mark stands in the queue
  is_queued : (j f : ℕ) → f < length (get_or a.marks j []) → mark_at a.marks (j, f) ≡ open_mark → Contains a.queue (j, f)
  is_queued j f l o =
      elim (cases_lt j (length (begin a).marks)) [
        | inl h ↦ elim (all_stand (length a.log - 0) a (j, f) h) [
          | inl e ↦ open_is_queued a kept.right.queue j f e
          | inr e ↦ open_is_queued a kept.right.queue j f (e ∙ o)
        ]
        | inr h ↦ later_is_queued a kept.right.queue j f h l
      ]

  -- where no position is open, no mark is
  pub none_undecided : open_positions a ≡ 0 → undecided a.marks ≡ 0
  none_undecided none =
      all_counts a.marks
      (λ j f _ l o.
      let (p, here, e) = is_queued j f l o in
      let there : mark_at a.marks (place_at a.queue p) ≡ open_mark = ap (mark_at a.marks) (get_or_default a.queue p (0, 0) (j, f) here ∙ e) ∙ o in
      let some = counted a (length a.queue) p here there in
      omega (arith, none, some))

-- ---- one position more

pub one_more_open : (a : Atlas) (p : ℕ) → mark_at a.marks (place_at a.queue p) ≡ open_mark → open_before a (p + 1) ≡ open_before a p + 1
one_more_open a p e = let one = open_counts (mark_at a.marks (place_at a.queue p)) e in rw (add-one p) (omega (arith, one))

pub as_many_open : (a : Atlas) (p : ℕ) → (mark_at a.marks (place_at a.queue p) ≡ open_mark → ⊥) → open_before a (p + 1) ≡ open_before a p
as_many_open a p n = let none = not_open_counts (mark_at a.marks (place_at a.queue p)) n in rw (add-one p) (omega (arith, none))
