-- Points as they are kept: lists with zeros behind them, their sums and differences.
use Rattle.std.proofs.Common.{◌≡◌, ℕ, zero, suc, ℤ, pos, negsuc, ◌+ℤ◌, ◌-ℤ◌, ◌*ℤ◌, ◌<◌, ◌≤◌, ◌+◌, ◌^◌, refl, ap, sym, subst, arith, ◌∙◌, List, [], ◌∷◌, length, get_or, take, set, add-one}
use Rattle.std.proofs.lemmas.Int.{ints}
use Rattle.std.proofs.lemmas.List.{length-take}
use Rattle.std.specs.List.{All}
use Rattle.std.proofs.lemmas.List.Elements.{All-nil, All-cons, All-head, All-tail}
use Rattle.lt_model.specs.Vectors.{plus, minus, scale, zeros}
use Rattle.lt_model.proofs.Opposite.{length-zeros}
use Rattle.lt_model.proofs.Squares.{length-scale, length-plus}
use Rattle.lt_lattice.specs.Ranges.{IsWithin}
use Rattle.lt_lattice.specs.Points.{filled, IsPoint}
use Rattle.lt_lattice.proofs.Coordinates.{zeros_within}

-- ---- zeros behind a list

pub take-filled : (m : ℕ) (xs : List ℤ) → length xs ≤ m → take (length xs) (filled m xs) ≡ xs
take-filled m [] h = refl
take-filled zero (x ∷ xs) h = absurd (omega arith)
take-filled (suc m) (x ∷ xs) h = ap (λ (ys : List ℤ). x ∷ ys) (take-filled m xs (omega arith))

pub filled_all : (m : ℕ) (xs : List ℤ) → length xs ≡ m → filled m xs ≡ xs
filled_all m [] h = subst (λ (n : ℕ). filled n [] ≡ []) h refl
filled_all zero (x ∷ xs) h = absurd (omega arith)
filled_all (suc m) (x ∷ xs) h = ap (λ (ys : List ℤ). x ∷ ys) (filled_all m xs (omega arith))

pub filled-zeros : (m n : ℕ) → filled m (zeros n) ≡ filled m []
filled-zeros zero n = refl
filled-zeros (suc m) zero = refl
filled-zeros (suc m) (suc n) = ap (λ (ys : List ℤ). pos 0 ∷ ys) (filled-zeros m n)

filled-plus_left : (m : ℕ) (ys : List ℤ) → plus (filled m []) (filled m ys) ≡ filled m ys
filled-plus_left zero ys = refl
filled-plus_left (suc m) [] = ap (λ (zs : List ℤ). pos 0 ∷ zs) (filled-plus_left m [])
filled-plus_left (suc m) (y ∷ ys) = let e : pos 0 +ℤ y ≡ y = omega (arith, ints) in λ i. e i ∷ filled-plus_left m ys i

pub filled-plus : (m : ℕ) (xs ys : List ℤ) → length xs ≡ length ys → plus (filled m xs) (filled m ys) ≡ filled m (plus xs ys)
filled-plus m [] ys h = filled-plus_left m ys
filled-plus m (x ∷ xs) [] h = absurd (omega arith)
filled-plus zero (x ∷ xs) (y ∷ ys) h = refl
filled-plus (suc m) (x ∷ xs) (y ∷ ys) h = ap (λ (zs : List ℤ). (x +ℤ y) ∷ zs) (filled-plus m xs ys (omega arith))

pub filled-scale : (m : ℕ) (c : ℤ) (xs : List ℤ) → scale c (filled m xs) ≡ filled m (scale c xs)
filled-scale zero c xs = refl
filled-scale (suc m) c [] = let e : c *ℤ pos 0 ≡ pos 0 = omega (arith, ints) in λ i. e i ∷ filled-scale m c [] i
filled-scale (suc m) c (x ∷ xs) = ap (λ (ys : List ℤ). (c *ℤ x) ∷ ys) (filled-scale m c xs)

set_take_suc : (m : ℕ) (xs : List ℤ) (i : ℕ) → i < length xs → i < m → set (filled m (take i xs)) i (get_or xs i (pos 0)) ≡ filled m (take (suc i) xs)
set_take_suc m [] i h k = absurd (omega arith)
set_take_suc zero (x ∷ xs) i h k = absurd (omega arith)
set_take_suc (suc m) (x ∷ xs) zero h k = refl
set_take_suc (suc m) (x ∷ xs) (suc i) h k = ap (λ (ys : List ℤ). x ∷ ys) (set_take_suc m xs i (omega arith) (omega arith))

-- one number more
pub set_take : (m : ℕ) (xs : List ℤ) (i : ℕ) → i < length xs → i < m → set (filled m (take i xs)) i (get_or xs i (pos 0)) ≡ filled m (take (i + 1) xs)
set_take m xs i h k = rw add-one (set_take_suc m xs i h k)

pub within-filled : (b m : ℕ) (xs : List ℤ) → All (IsWithin b) xs → All (IsWithin b) (filled m xs)
within-filled b zero xs h = All-nil (IsWithin b)
within-filled b (suc m) [] h = All-cons (IsWithin b) (pos 0) (filled m []) (omega (arith, ints)) (within-filled b m [] h)
within-filled b (suc m) (x ∷ xs) h = All-cons (IsWithin b) x (filled m xs) (All-head (IsWithin b) x xs h) (within-filled b m xs (All-tail (IsWithin b) x xs h))

-- ---- sums and differences, place by place

pub get_or-plus : (i : ℕ) (a b : List ℤ) → length a ≡ length b → i < length a → get_or (plus a b) i (pos 0) ≡ get_or a i (pos 0) +ℤ get_or b i (pos 0)
get_or-plus i [] b h k = absurd (omega arith)
get_or-plus i (x ∷ a) [] h k = absurd (omega arith)
get_or-plus zero (x ∷ a) (y ∷ b) h k = refl
get_or-plus (suc i) (x ∷ a) (y ∷ b) h k = get_or-plus i a b (omega arith) (omega arith)

pub get_or-minus : (k : ℕ) (x y : List ℤ) → length x ≡ length y → k < length x → get_or (minus x y) k (pos 0) ≡ get_or x k (pos 0) -ℤ get_or y k (pos 0)
get_or-minus k [] y l h = absurd (omega arith)
get_or-minus k (a ∷ x) [] l h = absurd (omega arith)
get_or-minus zero (a ∷ x) (b ∷ y) l h = omega (arith, ints)
get_or-minus (suc k) (a ∷ x) (b ∷ y) l h = get_or-minus k x y (omega arith) (omega arith)

pub length-minus : (a b : List ℤ) → length a ≡ length b → length (minus a b) ≡ length a
length-minus a b h = length-plus a (scale (negsuc 0) b) (h ∙ sym (length-scale (negsuc 0) b))

-- ---- points

-- six numbers that are x and zeros are a point
pub point : (x ys : List ℤ) → ys ≡ filled 6 x → 2 ≤ length x → length x ≤ 6 → All (IsWithin (2 ^ 20)) x → IsPoint (length x) ys
point x ys e l h w =
    let back : take (length x) ys ≡ x = ap (take (length x)) e ∙ take-filled 6 x h in
    record { low = l; high = h; padded = e ∙ ap (filled 6) (sym back); within = rw back w }

-- what is known of the fields of a point with the coordinates x
pub record Fields (d : ℕ) (ys x : List ℤ) : Type 0 where
  pub count : length x ≡ d
  pub kept : ys ≡ filled 6 x
  pub all_within : All (IsWithin (2 ^ 20)) ys

pub fields : (d : ℕ) (ys x : List ℤ) → take d ys ≡ x → length ys ≡ 6 → IsPoint d ys → Fields d ys x
fields d ys x e l p =
    let k : ys ≡ filled 6 x = p.padded ∙ ap (filled 6) e in
    let w : All (IsWithin (2 ^ 20)) x = rw e at p.within in
    let t = length-take d ys in
    let q = ap length e in
    let h = p.high in
    record {
      count = omega (arith, t, q, h);
      kept = k;
      all_within = rw k (within-filled (2 ^ 20) 6 x w);
    }

-- the coordinates stand at the front
pub front : (d : ℕ) (ys x : List ℤ) → ys ≡ filled 6 x → length x ≡ d → d ≤ 6 → take d ys ≡ x
front d ys x e l h = subst (λ (n : ℕ). take n ys ≡ x) l (ap (take (length x)) e ∙ take-filled 6 x (omega (arith, l)))

pub refilled : (d : ℕ) (ys x : List ℤ) → ys ≡ filled 6 x → length x ≡ d → d ≤ 6 → ys ≡ filled 6 (take d ys)
refilled d ys x e l h = e ∙ sym (ap (filled 6) (front d ys x e l h))

-- the point 0
pub origin : (d : ℕ) → 2 ≤ d → d ≤ 6 → IsPoint d (filled 6 [])
origin d l h =
    let e : filled 6 [] ≡ filled 6 (zeros d) = sym (filled-zeros 6 d) in
    let n = length-zeros d in
    record {
      low = l;
      high = h;
      padded = refilled d (filled 6 []) (zeros d) e n h;
      within = rw (front d (filled 6 []) (zeros d) e n h) (zeros_within (2 ^ 20) d);
    }

pub origin_front : (d : ℕ) → d ≤ 6 → take d (filled 6 []) ≡ zeros d
origin_front d h = front d (filled 6 []) (zeros d) (sym (filled-zeros 6 d)) (length-zeros d) h

-- six places that hold d coordinates
pub record Holds (d : ℕ) (ys x : List ℤ) : Type 0 where
  pub padded : ys ≡ filled 6 (take d ys)
  pub is : take d ys ≡ x

holds : (d : ℕ) (ys x : List ℤ) → ys ≡ filled 6 x → length x ≡ d → d ≤ 6 → Holds d ys x
holds d ys x e l h = record { padded = refilled d ys x e l h; is = front d ys x e l h }

-- the places of a sum
pub sum_holds : (d e : ℕ) (ys zs x y rs : List ℤ) → Fields d ys x → Fields e zs y → length x ≡ length y → d ≤ 6 → rs ≡ plus ys zs → Holds d rs (plus x y)
sum_holds d e ys zs x y rs a b same h r =
    let k : plus ys zs ≡ filled 6 (plus x y) = rw (a.kept, b.kept) (filled-plus 6 x y same) in
    holds d rs (plus x y) (r ∙ k) (length-plus x y same ∙ a.count) h

-- the places of a difference
pub difference_holds : (d e : ℕ) (ys zs x y rs : List ℤ) → Fields d ys x → Fields e zs y → length x ≡ length y → d ≤ 6 → rs ≡ minus ys zs → Holds d rs (minus x y)
difference_holds d e ys zs x y rs a b same h r =
    let n = length-scale (negsuc 0) y in
    let k : minus ys zs ≡ filled 6 (minus x y) =
    rw (a.kept, b.kept) (ap (plus (filled 6 x)) (filled-scale 6 (negsuc 0) y) ∙ filled-plus 6 x (scale (negsuc 0) y) (same ∙ sym n)) in
    holds d rs (minus x y) (r ∙ k) (length-minus x y same ∙ a.count) h
