-- Counts of marks, one mark and one row after the other.
use Rattle.std.proofs.Common.{◌≡◌, ℕ, zero, suc, ◌+◌, ◌<◌, refl, ap, arith, List, [], ◌∷◌, map, length, get_or, take}
use Rattle.lt_model.specs.Atlases.{Mark, count, count_in}
use Rattle.ltypes.specs.Summaries.{one_for_each}

pub count_in_more : {A : Type 0} → (view : A → Mark) (f : Mark → ℕ) (xs : List A) (i : ℕ) (x : A) → i < length xs → x ≡ get_or xs i x →
    count_in f (map view (take (suc i) xs)) ≡ count_in f (map view (take i xs)) + f (view x)
count_in_more view f [] i x l e = absurd (omega (arith, l))
count_in_more view f (y ∷ xs) zero x l e = let same : f (view x) ≡ f (view y) = ap (λ z. f (view z)) e in omega (arith, same)
count_in_more view f (y ∷ xs) (suc i) x l e = let rest = count_in_more view f xs i x (omega (arith, l)) e in omega (arith, rest)

pub count_more : (f : Mark → ℕ) (mss : List (List Mark)) (k : ℕ) → k < length mss → count f (take (suc k) mss) ≡ count f (take k mss) + count_in f (get_or mss k [])
count_more f [] k l = absurd (omega (arith, l))
count_more f (ms ∷ mss) zero l = omega arith
count_more f (ms ∷ mss) (suc k) l = let rest = count_more f mss k (omega (arith, l)) in omega (arith, rest)

pub each_counts : (ms : List Mark) → count_in one_for_each ms ≡ length ms
each_counts [] = refl
each_counts (m ∷ ms) = let rest = each_counts ms in omega (arith, rest)
