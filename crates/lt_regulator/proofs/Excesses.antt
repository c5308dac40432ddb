-- How large the numbers of an excess normal are, and that they are written pair by pair.
use Rattle.std.proofs.Common.{◌≡◌, ℕ, zero, suc, ℤ, negsuc, pos, ◌+ℤ◌, ◌*ℤ◌, ◌<◌, ◌≤◌, ◌+◌, ◌*◌, ◌^◌, refl, ap, ap₂, arith, sym, ◌∙◌, subst, List, [], ◌∷◌, ◌++◌, length, map, take, get_or, nat_abs}
use Rattle.std.proofs.lemmas.Int.{ints}
use Rattle.std.proofs.lemmas.List.{take_more, take_all, length-append}
use Rattle.std.specs.List.{All}
use Rattle.std.proofs.lemmas.List.Elements.{All-nil, All-cons, All-head, All-tail}
use Rattle.lt_model.specs.Cones.{AreBelow}
use Rattle.lt_model.specs.Vectors.{plus, scale, combine}
use Rattle.lt_model.specs.Forms.{squares, numbers_of_form}
use Rattle.lt_model.specs.Walls.{excess_normal}
use Rattle.lt_model.specs.Simplices.{AllOfDimension}
use Rattle.lt_geometry.proofs.Normals.{length-normal}
use Rattle.lt_lattice.specs.Ranges.{IsWithin, IsBelow}
use Rattle.lt_lattice.proofs.Dots.{product_within}
use Rattle.lt_lattice.proofs.Products.{squares_within}
use Rattle.lt_triang.specs.Bounds.{AreWithin}
use Rattle.lt_triang.proofs.Shifts.{within_more}
use Rattle.lt_regulator.specs.Signed.{excess_at}
use Rattle.lt_regulator.proofs.Numbered.{IsRowAt, IsPlaceAt, row_start, row_end, rows_below, place_more, place_below, number_of_excess}

-- ---- sizes

scale_within : (m n : ℕ) (k : ℤ) (x : List ℤ) → nat_abs k ≤ m → All (IsWithin n) x → All (IsWithin (m * n)) (scale k x)
scale_within m n k [] hk h = All-nil (IsWithin (m * n))
scale_within m n k (a ∷ x) hk h =
    All-cons (IsWithin (m * n)) (k *ℤ a) (scale k x) (product_within k a m n hk (All-head (IsWithin n) a x h)) (scale_within m n k x hk (All-tail (IsWithin n) a x h))

plus_within : (m n : ℕ) (x y : List ℤ) → All (IsWithin m) x → All (IsWithin n) y → All (IsWithin (m + n)) (plus x y)
plus_within m n [] y hx hy = within_more n (m + n) y (omega arith) hy
plus_within m n (a ∷ x) [] hx hy = within_more m (m + n) (a ∷ x) (omega arith) hx
plus_within m n (a ∷ x) (b ∷ y) hx hy =
    All-cons (IsWithin (m + n)) (a +ℤ b) (plus x y) (small a b (All-head (IsWithin m) a x hx) (All-head (IsWithin n) b y hy)) (plus_within m n x y (All-tail (IsWithin m) a x hx) (All-tail (IsWithin n) b y hy))
  where
    small : (a b : ℤ) → nat_abs a ≤ m → nat_abs b ≤ n → nat_abs (a +ℤ b) ≤ m + n
    small a b ha hb = omega (arith, ints)

combine_within : (m n : ℕ) (b : List ℤ) (s : List (List ℤ)) → AreBelow m b → AreWithin n s → All (IsWithin (length s * (m * (n * n)))) (combine b (map squares s))
combine_within m n [] s hb hs = All-nil (IsWithin (length s * (m * (n * n))))
combine_within m n (c ∷ b) [] hb hs = All-nil (IsWithin (0 * (m * (n * n))))
combine_within m n (c ∷ b) (v ∷ s) hb hs =
    let size : ℕ = m * (n * n) in
    let first : All (IsWithin size) (scale c (squares v)) = scale_within m (n * n) c (squares v) (less (All-head (λ x. nat_abs x < m) c b hb)) (squares_within n v hs.0) in
    let rest = combine_within m n b s (All-tail (λ x. nat_abs x < m) c b hb) hs.1 in
    within_more (size + length s * size) (suc (length s) * size) (plus (scale c (squares v)) (combine b (map squares s))) (one_more (length s) size) (plus_within size (length s * size) (scale c (squares v)) (combine b (map squares s)) first rest)
  where
    less : {k : ℕ} → k < m → k ≤ m
    less {k} h = omega arith

    one_more : (l w : ℕ) → w + l * w ≤ suc l * w
    one_more l w = omega arith

pub excess_below : (s : List (List ℤ)) (w : List ℤ) (c : ℤ) (b : List ℤ) → length s ≤ 7 → AreWithin 400 s → All (IsWithin 800) w → AreBelow (2 ^ 59) (c ∷ b) → All (IsBelow (2 ^ 80)) (excess_normal s w c b)
excess_below s w c b few near far below =
    let own : All (IsWithin (2 ^ 59 * (800 * 800))) (scale c (squares w)) =
    scale_within (2 ^ 59) (800 * 800) c (squares w) (less (All-head (λ x. nat_abs x < 2 ^ 59) c b below)) (squares_within 800 w far) in
    let size : ℕ = length s * (2 ^ 59 * (400 * 400)) in
    let sum : All (IsWithin size) (combine b (map squares s)) = combine_within (2 ^ 59) 400 b s (All-tail (λ x. nat_abs x < 2 ^ 59) c b below) near in
    let off : All (IsWithin (1 * size)) (scale (negsuc 0) (combine b (map squares s))) = scale_within 1 size (negsuc 0) (combine b (map squares s)) (omega arith) sum in
    λ k e l. small (length s) few (plus_within (2 ^ 59 * (800 * 800)) (1 * size) (scale c (squares w)) (scale (negsuc 0) (combine b (map squares s))) own off k e l)
  where
    less : {k : ℕ} → k < 2 ^ 59 → k ≤ 2 ^ 59
    less {k} h = omega arith

    small : (n : ℕ) {x : ℕ} → n ≤ 7 → x ≤ 2 ^ 59 * (800 * 800) + 1 * (n * (2 ^ 59 * (400 * 400))) → x < 2 ^ 80
    small n {x} h p = omega arith

-- ---- the numbers, pair by pair

-- the first numbers of the excess normal
abbrev pub AreFirst : List (List ℤ) → List ℤ → List ℤ → List ℤ → Type 0
AreFirst s w numbers all = (c : ℤ) (b : List ℤ) → numbers ≡ c ∷ b → all ≡ take (length all) (excess_normal s w c b)

-- what is written before row i
pub record AreRowsTo (d i : ℕ) (s : List (List ℤ)) (w numbers all : List ℤ) : Type 0 where
  pub place : IsRowAt d i (length all)
  pub first : AreFirst s w numbers all

-- what is written before the pair of i and j
pub record AreWrittenTo (d i j : ℕ) (s : List (List ℤ)) (w numbers all : List ℤ) : Type 0 where
  pub place : IsPlaceAt d i j (length all)
  pub first : AreFirst s w numbers all

pub written_start : (d i : ℕ) (s : List (List ℤ)) (w numbers all : List ℤ) → AreRowsTo d i s w numbers all → i < d → AreWrittenTo d i i s w numbers all
written_start d i s w numbers all h p = record { place = row_start d i (length all) h.place p; first = h.first }

pub written_end : (d i j : ℕ) (s : List (List ℤ)) (w numbers all : List ℤ) → AreWrittenTo d i j s w numbers all → d ≤ j → AreRowsTo d (i + 1) s w numbers all
written_end d i j s w numbers all h p = record { place = row_end d i j (length all) h.place p; first = h.first }

module _ (d : ℕ) (s : List (List ℤ)) (w numbers : List ℤ) (count : length s ≡ suc d) (points : AllOfDimension d s) (dimension : length w ≡ d) (each : length numbers ≡ suc (length s)) where
  long : (c : ℤ) (b : List ℤ) → numbers ≡ c ∷ b → length (excess_normal s w c b) ≡ numbers_of_form d
  long c b is = length-normal d s w c b points (omega (arith, count)) dimension (omega (arith, ap length is, each))

  -- one number more
  pub written_more : (i j : ℕ) (all new : List ℤ) (x : ℤ) → AreWrittenTo d i j s w numbers all → j < d → ((c : ℤ) (b : List ℤ) → numbers ≡ c ∷ b → x ≡ excess_at i j s w c b) → new ≡ all ++ x ∷ [] → AreWrittenTo d i (j + 1) s w numbers new
  written_more i j all new x h p value e =
      let k : ℕ = length all in
      let more : length new ≡ k + 1 = ap length e ∙ length-append all (x ∷ []) in
      record {
        place = subst (λ (n : ℕ). IsPlaceAt d i (j + 1) n) (sym more) (place_more d i j k h.place p);
        first = λ c b is.
            let n : List ℤ = excess_normal s w c b in
            let few : k < length n = omega (arith, place_below d i j k h.place p, long c b is) in
            let here : x ≡ get_or n k (pos 0) = value c b is ∙ sym (number_of_excess d i j k h.place p s w c b points dimension) in
            e ∙ ap₂ (λ (l : List ℤ) (z : ℤ). l ++ z ∷ []) (h.first c b is) here ∙ sym (take_more n k (pos 0) few) ∙ ap (λ (m : ℕ). take m n) (sym more);
      }

  -- all of them
  pub written_whole : (i : ℕ) (all : List ℤ) → AreRowsTo d i s w numbers all → d ≤ i → (c : ℤ) (b : List ℤ) → numbers ≡ c ∷ b → all ≡ excess_normal s w c b
  written_whole i all h p c b is =
      h.first c b is ∙ take_all (length all) (excess_normal s w c b) (omega (arith, long c b is, rows_below d i (length all) h.place p))

  -- and they are small
  pub written_below : (i : ℕ) (all : List ℤ) → AreRowsTo d i s w numbers all → d ≤ i → d ≤ 6 → AreWithin 400 s → All (IsWithin 800) w → AreBelow (2 ^ 59) numbers → All (IsBelow (2 ^ 80)) all
  written_below i all h p high near far below =
      let o = opened numbers (omega (arith, each)) in
      subst (λ (l : List ℤ). All (IsBelow (2 ^ 80)) l) (sym (written_whole i all h p o.0 o.1 o.2)) (excess_below s w o.0 o.1 (omega (arith, count, high)) near far (subst (λ (l : List ℤ). AreBelow (2 ^ 59) l) o.2 below))
    where
      opened : (n : List ℤ) → 0 < length n → (c : ℤ) × (b : List ℤ) × (n ≡ c ∷ b)
      opened [] h = absurd (omega arith)
      opened (c ∷ b) h = (c, b, refl)

pub any_default : (s : List (List ℤ)) (i : ℕ) (v : List ℤ) → i < length s → v ≡ get_or s i v → v ≡ get_or s i []
any_default [] i v h e = absurd (omega arith)
any_default (x ∷ s) zero v h e = e
any_default (x ∷ s) (suc i) v h e = any_default s i v (omega arith) e
