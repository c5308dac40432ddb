-- The counts of marks after a recording.
use Rattle.std.proofs.Common.{◌≡◌, ℕ, zero, suc, ◌+◌, ◌<◌, refl, ap, arith, List, [], ◌∷◌, ◌++◌, length, get_or, set}
use Rattle.lt_model.specs.Atlases.{Mark, open_mark, no_mark, count_in, count, one_if_open, mark_at, set_mark, opens}
use Rattle.lt_core.proofs.Undo.{open_within}

no_open_there : no_mark ≡ open_mark → ⊥
no_open_there e = cc

row_set : (c : Mark → ℕ) (ms : List Mark) (f : ℕ) (m : Mark) → get_or ms f no_mark ≡ open_mark → count_in c (set ms f m) + c open_mark ≡ count_in c ms + c m
row_set c [] f m h = absurd (no_open_there h)
row_set c (x ∷ ms) zero m h = let e : c x ≡ c open_mark = ap c h in omega arith
row_set c (x ∷ ms) (suc f) m h = let e = row_set c ms f m h in omega arith

rows_set : (c : Mark → ℕ) (mss : List (List Mark)) (j : ℕ) (ms : List Mark) (a b : ℕ) → j < length mss → count_in c ms + a ≡ count_in c (get_or mss j []) + b → count c (set mss j ms) + a ≡ count c mss + b
rows_set c [] j ms a b h e = absurd (omega arith)
rows_set c (x ∷ mss) zero ms a b h e = omega arith
rows_set c (x ∷ mss) (suc j) ms a b h e = let k = rows_set c mss j ms a b (omega arith) e in omega arith

-- an open mark is replaced
pub count-set_mark : (c : Mark → ℕ) (mss : List (List Mark)) (p : ℕ × ℕ) (m : Mark) → mark_at mss p ≡ open_mark → count c (set_mark mss p m) + c open_mark ≡ count c mss + c m
count-set_mark c mss p m h = rows_set c mss p.0 (set (get_or mss p.0 []) p.1 m) (c open_mark) (c m) (open_within mss p h).0 (row_set c (get_or mss p.0 []) p.1 m h)

pub count-more : (c : Mark → ℕ) (mss : List (List Mark)) (ms : List Mark) → count c (mss ++ ms ∷ []) ≡ count c mss + count_in c ms
count-more c [] ms = omega arith
count-more c (x ∷ mss) ms = let e = count-more c mss ms in omega arith

pub count-opens : (c : Mark → ℕ) (n : ℕ) → c open_mark ≡ 0 → count_in c (opens n) ≡ 0
count-opens c zero z = refl
count-opens c (suc n) z = let e = count-opens c n z in omega arith

pub open-opens : (n : ℕ) → count_in one_if_open (opens n) ≡ n
open-opens zero = refl
open-opens (suc n) = let e = open-opens n in omega arith
