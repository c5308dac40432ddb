-- Rows with right verdicts on normals of different rays: one is a wall, and the sum of the walls is not 0.
use Rattle.std.proofs.Common.{◌≡◌, ◌≢◌, ◌⊎◌, inl, inr, refl, sym, ◌∙◌, ap, subst, arith, ℕ, zero, suc, ◌^◌, ◌<◌, ◌≤◌, ℤ, pos, negsuc, ◌+ℤ◌, ◌*ℤ◌, ◌≤ℤ◌, ◌<ℤ◌, List, [], ◌∷◌, length, map, get_or}
use Rattle.std.specs.List.{All}
use Rattle.std.proofs.lemmas.Int.{ints}
use Rattle.std.proofs.lemmas.List.{length-map}
use native.Mathlib.Decide.{ℕ_discrete, dec_le}
use Rattle.lt_model.specs.Padded.{lookup}
use Rattle.lt_model.specs.Vectors.{plus, scale, dot, zeros, combine, IsPrimitive}
use Rattle.lt_model.specs.Forms.{numbers_of_form}
use Rattle.lt_model.specs.Cones.{Row, Verdict, wall, combination, normals, coefficients, places, sum_of_walls, wall_or_none, IsRightCombination, IsRightVerdict}
use Rattle.lt_model.proofs.Integers.{mul_zero_z}
use Rattle.lt_model.proofs.Excess.{dot-nil}
use Rattle.lt_model.proofs.Inequalities.{mul_pos_z}
use Rattle.lt_model.proofs.Opposite.{zeros-dot}
use Rattle.lt_model.proofs.Squares.{length-scale}
use Rattle.lt_model.proofs.Vectors.{dot-plus, dot-scale, dot_comm}
use Rattle.lt_model.proofs.Walk.{length-combine}
use Rattle.lt_tableau.proofs.Sums.{lookup_none, lookup_plus}
use Rattle.lt_lp.specs.Rows.{IsWallOf}
use Rattle.lt_lp.proofs.Combined.{same_lists, all_of_dimension}
use Rattle.lt_lp.proofs.FromZeros.{lookup_from_zeros, dot_from_zeros}
use Rattle.lt_lp.proofs.WallSums.{long_sum, lookup_zeros}
use Rattle.lt_lp.proofs.Extreme.{AreDistinct, extreme}

-- ---- products with the sum of the walls
sum_not_negative : (m : ℕ) (n : List ℤ) (rows : List Row) → ((j : ℕ) (r : Row) (w : List ℤ) → j < length rows → (get_or rows j r).verdict ≡ wall w → pos 0 ≤ℤ dot n w) → pos 0 ≤ℤ dot n (sum_of_walls m rows)
sum_not_negative m n [] h = rw (dot_comm n (zeros m), zeros-dot m n) (omega (arith, ints))
sum_not_negative m n (r ∷ rows) h = with_row r.verdict refl (sum_not_negative m n rows (λ j s w l e. h (suc j) s w (omega arith) e))
  where
    both : (x y : ℤ) → pos 0 ≤ℤ x → pos 0 ≤ℤ y → pos 0 ≤ℤ (x +ℤ y)
    both x y a b = omega (arith, ints)

    with_row : (v : Verdict) → r.verdict ≡ v → pos 0 ≤ℤ dot n (sum_of_walls m rows) → pos 0 ≤ℤ dot n (plus (wall_or_none r.verdict) (sum_of_walls m rows))
    with_row (combination f ts) e s = rw e s
    with_row (wall w) e s = rw (e, dot-plus n w (sum_of_walls m rows)) (both (dot n w) (dot n (sum_of_walls m rows)) (h 0 r w (omega arith) e) s)

sum_positive : (m : ℕ) (n : List ℤ) (rows : List Row) (k : ℕ) (r0 : Row) (w0 : List ℤ) → k < length rows → (get_or rows k r0).verdict ≡ wall w0 → pos 0 <ℤ dot n w0 → ((j : ℕ) (r : Row) (w : List ℤ) → j < length rows → (get_or rows j r).verdict ≡ wall w → pos 0 ≤ℤ dot n w) → pos 0 <ℤ dot n (sum_of_walls m rows)
sum_positive m n [] k r0 w0 l v p h = absurd (omega arith)
sum_positive m n (r ∷ rows) zero r0 w0 l v p h =
    rw (v, dot-plus n w0 (sum_of_walls m rows)) (more (dot n w0) (dot n (sum_of_walls m rows)) p (sum_not_negative m n rows (λ j s w l e. h (suc j) s w (omega arith) e)))
  where
    more : (x y : ℤ) → pos 0 <ℤ x → pos 0 ≤ℤ y → pos 0 <ℤ (x +ℤ y)
    more x y a b = omega (arith, ints)
sum_positive m n (r ∷ rows) (suc k) r0 w0 l v p h = with_row r.verdict refl (sum_positive m n rows k r0 w0 (omega arith) v p (λ j s w l e. h (suc j) s w (omega arith) e))
  where
    more : (x y : ℤ) → pos 0 ≤ℤ x → pos 0 <ℤ y → pos 0 <ℤ (x +ℤ y)
    more x y a b = omega (arith, ints)

    with_row : (u : Verdict) → r.verdict ≡ u → pos 0 <ℤ dot n (sum_of_walls m rows) → pos 0 <ℤ dot n (plus (wall_or_none r.verdict) (sum_of_walls m rows))
    with_row (combination f ts) e s = rw e s
    with_row (wall w) e s = rw (e, dot-plus n w (sum_of_walls m rows)) (more (dot n w) (dot n (sum_of_walls m rows)) (h 0 r w (omega arith) e) s)

-- ---- zeros
some_or_none : (xs : List ℤ) → ((q : ℕ) × (lookup xs q ≢ pos 0)) ⊎ ((q : ℕ) → lookup xs q ≡ pos 0)
some_or_none [] = inr lookup_none
some_or_none (pos (suc n) ∷ xs) = inl (0, other n)
  where
    other : (n : ℕ) → pos (suc n) ≡ pos 0 → ⊥
    other n e = omega (arith, ints)
some_or_none (negsuc n ∷ xs) = inl (0, other n)
  where
    other : (n : ℕ) → negsuc n ≡ pos 0 → ⊥
    other n e = omega (arith, ints)
some_or_none (pos zero ∷ xs) = pick (some_or_none xs)
  where
    pick : ((q : ℕ) × (lookup xs q ≢ pos 0)) ⊎ ((q : ℕ) → lookup xs q ≡ pos 0) → ((q : ℕ) × (lookup (pos 0 ∷ xs) q ≢ pos 0)) ⊎ ((q : ℕ) → lookup (pos 0 ∷ xs) q ≡ pos 0)
    pick (inl s) = inl (suc s.0, s.1)
    pick (inr z) = inr (λ q. each q)
      where
        each : (q : ℕ) → lookup (pos 0 ∷ xs) q ≡ pos 0
        each zero = refl
        each (suc q) = z q

dot_none : (n xs : List ℤ) → ((q : ℕ) → lookup xs q ≡ pos 0) → dot n xs ≡ pos 0
dot_none [] xs z = refl
dot_none (a ∷ n) [] z = refl
dot_none (a ∷ n) (x ∷ xs) z =
    let h : x ≡ pos 0 = z 0 in
    rw (h, mul_zero_z a, dot_none n xs (λ q. z (suc q))) refl

zeros_doubled : (xs : List ℤ) → ((q : ℕ) → lookup xs q ≡ pos 0) → xs ≡ scale (pos 2) xs
zeros_doubled [] z = refl
zeros_doubled (x ∷ xs) z =
    let h : x ≡ pos 0 = z 0 in
    let e : x ≡ pos 2 *ℤ x = rw (h, mul_zero_z (pos 2)) refl in
    let r = zeros_doubled xs (λ q. z (suc q)) in
    ap (λ (y : ℤ). y ∷ xs) e ∙ ap (λ (ys : List ℤ). (pos 2 *ℤ x) ∷ ys) r

pub not_primitive : (xs : List ℤ) → ((q : ℕ) → lookup xs q ≡ pos 0) → IsPrimitive xs → ⊥
not_primitive xs z p = let e = p 2 xs (zeros_doubled xs z) in absurd (omega arith)

-- ---- the sum of the walls is not 0
only : (m : ℕ) (rows : List Row) (r : Row) (w : List ℤ) → length rows ≡ 1 → (get_or rows 0 r).verdict ≡ wall w → (p : ℕ) → lookup (sum_of_walls m rows) p ≡ lookup w p
only m [] r w l v p = absurd (omega arith)
only m (x ∷ []) r w l v p = rw (v, lookup_plus w (zeros m) p, lookup_zeros m p) (and_zero (lookup w p))
  where
    and_zero : (x : ℤ) → x +ℤ pos 0 ≡ x
    and_zero x = omega (arith, ints)
only m (x ∷ y ∷ rows) r w l v p = absurd (omega arith)

has_wall_row : (d : ℕ) (q : List ℤ) (ns : List (List ℤ)) (rows : List Row) (r : Row) → AreDistinct (numbers_of_form d) q ns → 1 ≤ numbers_of_form d → 0 < length ns → length rows ≡ length ns → ((k : ℕ) (r : Row) → k < length rows → IsRightVerdict d ns k (get_or rows k r).verdict) →
    (k : ℕ) × (k < length rows) × (w : List ℤ) × ((get_or rows k r).verdict ≡ wall w)
has_wall_row d q ns rows r dis one some same right =
    let x = extreme (numbers_of_form d) q ns dis one some in
    let l : x.0 < length rows = rw same x.1 in
    let f = found x.0 x.1 x.2 (get_or rows x.0 r).verdict (right x.0 r l) in
    (x.0, l, f.0, f.1)
  where
    -- the zeros change no sum of terms, and there are terms, since a multiple of the normal is positive at the form
    without_zeros : (k : ℕ) → k < length ns → (f : ℤ) (ts : List (ℕ × ℤ)) → IsRightCombination d ns k f ts → combine (coefficients ts) (map (λ i. get_or ns i []) (places ts)) ≡ scale f (get_or ns k [])
    without_zeros k lk f [] c =
        let e : pos 0 ≡ f *ℤ dot q (get_or ns k []) = sym (dot_from_zeros q (length (get_or ns k [])) [] ∙ dot-nil q) ∙ ap (dot q) c.sum ∙ dot-scale q f (get_or ns k []) in
        let m = mul_pos_z f (dot q (get_or ns k [])) c.some (subst (λ (z : ℤ). pos 0 <ℤ z) (dot_comm (get_or ns k []) q) (dis.positive k lk)) in
        absurd (omega (arith, ints))
    without_zeros k lk f (t ∷ us) c =
        let ts = t ∷ us in
        let vs = map (λ i. get_or ns i []) (places ts) in
        let n = numbers_of_form d in
        let one_each : length (coefficients ts) ≡ length vs = length-map ts (λ p. p.1) ∙ sym (length-map (places ts) (λ i. get_or ns i []) ∙ length-map ts (λ p. p.0)) in
        let long = length-combine n (coefficients ts) vs (all_of_dimension n ns (places ts) (λ j l. dis.lengths j [] l) c.within) one_each (rw (sym one_each) (omega arith)) in
        same_lists (combine (coefficients ts) vs) (scale f (get_or ns k [])) (long ∙ sym (length-scale f (get_or ns k []) ∙ dis.lengths k [] lk))
        (λ j b. sym (lookup_from_zeros (length (get_or ns k [])) (combine (coefficients ts) vs) j) ∙ ap (λ (v : List ℤ). lookup v j) c.sum)

    found : (k : ℕ) → k < length ns → ((factor : ℤ) (ts : List (ℕ × ℤ)) → All (λ i. i < length ns) (places ts) → All (λ i. i ≢ k) (places ts) → All (λ x. pos 0 <ℤ x) (coefficients ts) → combine (coefficients ts) (map (λ i. get_or ns i []) (places ts)) ≡ scale factor (get_or ns k []) → ⊥) → (v : Verdict) → IsRightVerdict d ns k v → (w : List ℤ) × (v ≡ wall w)
    found k lk never (wall w) c = (w, refl)
    found k lk never (combination f ts) c = absurd (never f ts c.within c.other c.positive (without_zeros k lk f ts c))

pub some_sum : (d : ℕ) (q : List ℤ) (ns : List (List ℤ)) (rows : List Row) (r : Row) → AreDistinct (numbers_of_form d) q ns → 1 ≤ numbers_of_form d → 0 < length ns → length rows ≡ length ns → ((k : ℕ) (r : Row) → k < length rows → IsRightVerdict d ns k (get_or rows k r).verdict) →
    (p : ℕ) × (lookup (sum_of_walls (numbers_of_form d) rows) p ≢ pos 0)
some_sum d q ns rows r dis one some same right = pick (some_or_none (sum_of_walls (numbers_of_form d) rows))
  where
    right_wall : (j : ℕ) (s : Row) (w : List ℤ) → j < length rows → (get_or rows j s).verdict ≡ wall w → IsRightVerdict d ns j (wall w)
    right_wall j s w l e = subst (IsRightVerdict d ns j) e (right j s l)

    at_least : (i : ℕ) → i < length ns → (j : ℕ) (s : Row) (w : List ℤ) → j < length rows → (get_or rows j s).verdict ≡ wall w → pos 0 ≤ℤ dot (get_or ns i []) w
    at_least i li j s w l e = by (ℕ_discrete i j)
      where
        weak : (x : ℤ) → pos 0 <ℤ x → pos 0 ≤ℤ x
        weak x h = omega (arith, ints)

        by : Dec (i ≡ j) → pos 0 ≤ℤ dot (get_or ns i []) w
        by (yes z) = let h = (right_wall j s w l e).zero_there in rw (z, h) (omega (arith, ints))
        by (no z) = weak (dot (get_or ns i []) w) ((right_wall j s w l e).others i li z)

    clash : (i k : ℕ) (w : List ℤ) → i < length ns → k < length rows → i ≢ k → (get_or rows k r).verdict ≡ wall w → ((p : ℕ) → lookup (sum_of_walls (numbers_of_form d) rows) p ≡ pos 0) → ⊥
    clash i k w li lk ne e z =
        let a = sum_positive (numbers_of_form d) (get_or ns i []) rows k r w lk e ((right_wall k r w lk e).others i li ne) (at_least i li) in
        let b = dot_none (get_or ns i []) (sum_of_walls (numbers_of_form d) rows) z in
        not_both (dot (get_or ns i []) (sum_of_walls (numbers_of_form d) rows)) a b
      where
        not_both : (x : ℤ) → pos 0 <ℤ x → x ≡ pos 0 → ⊥
        not_both x a b = omega (arith, ints)

    none : ((p : ℕ) → lookup (sum_of_walls (numbers_of_form d) rows) p ≡ pos 0) → (x : (k : ℕ) × (k < length rows) × (w : List ℤ) × ((get_or rows k r).verdict ≡ wall w)) → ⊥
    none z x = by (dec_le (length rows) 1) (ℕ_discrete x.0 0)
      where
        by : Dec (length rows ≤ 1) → Dec (x.0 ≡ 0) → ⊥
        by (yes b) c =
            let k0 : x.0 ≡ 0 = omega (arith, x.1) in
            let v : (get_or rows 0 r).verdict ≡ wall x.2 = subst (λ (m : ℕ). (get_or rows m r).verdict ≡ wall x.2) k0 x.3 in
            let o = only (numbers_of_form d) rows r x.2 (omega (arith, x.1)) v in
            not_primitive x.2 (λ p. sym (o p) ∙ z p) (right_wall x.0 r x.2 x.1 x.3).primitive
        by (no b) (yes c) = clash 1 x.0 x.2 (omega (arith, same)) x.1 (λ f. absurd (omega arith)) x.3 z
        by (no b) (no c) = clash 0 x.0 x.2 (omega (arith, same)) x.1 (λ f. absurd (c (sym f))) x.3 z

    pick : ((p : ℕ) × (lookup (sum_of_walls (numbers_of_form d) rows) p ≢ pos 0)) ⊎ ((p : ℕ) → lookup (sum_of_walls (numbers_of_form d) rows) p ≡ pos 0) → (p : ℕ) × (lookup (sum_of_walls (numbers_of_form d) rows) p ≢ pos 0)
    pick (inl s) = s
    pick (inr z) = absurd (none z (has_wall_row d q ns rows r dis one some same right))

-- ---- what the rows have
pub walls_long : (d n : ℕ) (rows : List Row) → n ≡ numbers_of_form d → All (λ r. IsWallOf d r.verdict) rows → length (sum_of_walls n rows) ≡ n
walls_long d n rows e walls = long_sum n rows (λ k r w l v. (subst (IsWallOf d) v (walls k r l)).0 ∙ sym e)

pub record IsConeReady (d : ℕ) (rows : List Row) : Type 0 where
  pub few : length rows ≤ 2 ^ 29
  pub walls : (k : ℕ) (r : Row) → k < length rows → IsWallOf d (get_or rows k r).verdict
  pub some : (p : ℕ) × (lookup (sum_of_walls (numbers_of_form d) rows) p ≢ pos 0)

wall_numbers : (d : ℕ) (ns : List (List ℤ)) (k : ℕ) (v : Verdict) → IsRightVerdict d ns k v → IsWallOf d v
wall_numbers d ns k (wall w) r = (r.numbers, r.below)
wall_numbers d ns k (combination f ts) r = tt

no_row : Row
no_row = record { normal = []; verdict = wall [] }

some_numbers : (d : ℕ) → 2 ≤ d → 1 ≤ numbers_of_form d
some_numbers zero h = absurd (omega arith)
some_numbers (suc d) h = omega arith

pub cone_ready : (d : ℕ) (q : List ℤ) (ns : List (List ℤ)) (rows : List Row) → 2 ≤ d → AreDistinct (numbers_of_form d) q ns → 0 < length ns → length ns ≤ 2 ^ 29 → normals rows ≡ ns → ((k : ℕ) (r : Row) → k < length rows → IsRightVerdict d ns k (get_or rows k r).verdict) → IsConeReady d rows
cone_ready d q ns rows low dis occupied few names right = record {
  few = rw long few;
  walls = λ i r l. wall_numbers d ns i (get_or rows i r).verdict (right i r l);
  some = some;
}
  where
    long : length rows ≡ length ns
    long = sym (length-map rows (λ (r : Row). r.normal)) ∙ ap (length {A = List ℤ}) names

    some : (p : ℕ) × (lookup (sum_of_walls (numbers_of_form d) rows) p ≢ pos 0)
    some = some_sum d q ns rows no_row dis (some_numbers d low) occupied long right
