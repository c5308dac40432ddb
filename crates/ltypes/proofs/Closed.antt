-- An atlas is closed exactly where it has no stuck and no open mark.
use Rattle.std.proofs.Common.{◌≡◌, ℕ, zero, suc, ℤ, ◌+◌, ◌<◌, refl, arith, sym, ap, subst, List, [], ◌∷◌, length, get_or}
use Rattle.lt_model.specs.Atlases.{Mark, open_mark, cross, wide, heavy, no_mark, Atlas, mark_at, one_if_open, one_if_stuck, count_in, undecided, stuck}
use Rattle.lt_model.specs.RightAtlases.{AreRight, IsClosedAtlas}
use Rattle.lt_model.specs.Walls.{IsAcross}

abbrev IsCross : Mark → Type 0
IsCross m = (k : ℕ) × (u : List (List ℤ)) × (m ≡ cross k u)

crossed : (m : Mark) → one_if_open m + one_if_stuck m ≡ 0 → IsCross m
crossed open_mark e = absurd (omega (arith, e))
crossed (cross k u) e = (k, u, refl)
crossed (wide s n) e = absurd (omega (arith, e))
crossed (heavy n) e = absurd (omega (arith, e))

counts_nothing : (m : Mark) → IsCross m → one_if_open m + one_if_stuck m ≡ 0
counts_nothing m (k, u, e) = ap (λ (x : Mark). one_if_open x + one_if_stuck x) e

row_crossed : (ms : List Mark) (f : ℕ) → count_in one_if_open ms + count_in one_if_stuck ms ≡ 0 → f < length ms → IsCross (get_or ms f no_mark)
row_crossed [] f e l = absurd (omega (arith, l))
row_crossed (m ∷ ms) zero e l = crossed m (omega (arith, e))
row_crossed (m ∷ ms) (suc f) e l = row_crossed ms f (omega (arith, e)) (omega (arith, l))

row_counts : (ms : List Mark) → ((f : ℕ) → f < length ms → IsCross (get_or ms f no_mark)) → count_in one_if_open ms + count_in one_if_stuck ms ≡ 0
row_counts [] h = refl
row_counts (m ∷ ms) h =
    let here = counts_nothing m (h 0 (omega arith)) in
    let rest = row_counts ms (λ f l. h (suc f) (omega (arith, l))) in
    omega (arith, here, rest)

all_crossed : (mss : List (List Mark)) (j f : ℕ) → undecided mss + stuck mss ≡ 0 → j < length mss → f < length (get_or mss j []) → IsCross (mark_at mss (j, f))
all_crossed [] j f e l k = absurd (omega (arith, l))
all_crossed (ms ∷ mss) zero f e l k = row_crossed ms f (omega (arith, e)) k
all_crossed (ms ∷ mss) (suc j) f e l k = all_crossed mss j f (omega (arith, e)) (omega (arith, l)) k

all_counts : (mss : List (List Mark)) → ((j f : ℕ) → j < length mss → f < length (get_or mss j []) → IsCross (mark_at mss (j, f))) → undecided mss + stuck mss ≡ 0
all_counts [] h = refl
all_counts (ms ∷ mss) h =
    let here = row_counts ms (λ f l. h 0 f (omega arith) l) in
    let rest = all_counts mss (λ j f l k. h (suc j) f (omega (arith, l)) k) in
    omega (arith, here, rest)

module _ (a : Atlas) (parts : AreRight (IsAcross a.dimension) a.dimension a.entries a.marks) where
  pub closed_by_counts : undecided a.marks ≡ 0 → stuck a.marks ≡ 0 → IsClosedAtlas a
  closed_by_counts o s j f hj hf =
      let h : j < length a.marks = subst (λ (n : ℕ). j < n) (sym parts.lists) hj in
      all_crossed a.marks j f (omega (arith, o, s)) h (subst (λ (n : ℕ). f < n) (sym (parts.each j hj)) hf)

  pub counts_of_closed : IsClosedAtlas a → undecided a.marks + stuck a.marks ≡ 0
  counts_of_closed c =
      all_counts a.marks
      (λ j f hj hf.
      let h : j < length a.entries = subst (λ (n : ℕ). j < n) parts.lists hj in
      c j f h (subst (λ (n : ℕ). f < n) (parts.each j h) hf))
