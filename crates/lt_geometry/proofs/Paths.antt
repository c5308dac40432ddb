-- The path of an order of places: its points, what the reading is there, and that it is a simplex.
use Rattle.std.proofs.Common.{◌≡◌, ◌≢◌, ℕ, zero, suc, ℤ, pos, ◌+ℤ◌, ◌-ℤ◌, ◌*ℤ◌, ◌<ℤ◌, ◌≤ℤ◌, ◌<◌, refl, ap, ap₂, arith, sym, ◌∙◌, subst, List, [], ◌∷◌, length, map, get_or, ◌⊎◌, inl, inr}
use Rattle.std.proofs.lemmas.Int.{ints}
use Rattle.std.specs.List.{Contains, AllByRecursion}
use Rattle.std.specs.List.Sorted.{IsStrictlySortedBy}
use Rattle.std.specs.declared.cmp.Ordering.TheVariants.{Less, Equal}
use Rattle.std.specs.Ordering.{int_cmp}
use Rattle.std.specs.Cmp.{int_cmp_is}
use Rattle.lt_model.specs.Order.{number_list_cmp}
use Rattle.lt_model.proofs.Integers.{mul_zero_z, zero_mul_z}
use Rattle.lt_model.proofs.Inequalities.{mul_nonneg_z, cancel_z}
use Rattle.lt_model.proofs.Ring.{ring, var, ◌⊕◌, ◌⊖◌, ◌⊗◌}
use Rattle.lt_model.proofs.Squares.{length-plus}
use Rattle.lt_model.proofs.Vectors.{dot-scale}
use Rattle.lt_model.proofs.Excess.{dot-combine, dot-constant}
use Rattle.lt_model.proofs.Walk.{number_at-plus}
use Rattle.lt_model.proofs.Opposite.{length-unit, length-zeros}
use Rattle.lt_model.proofs.Expressions.{number_at-zeros}
use Rattle.lt_model.proofs.Sets.{Contains-head, Contains-tail, Contains-cases, Contains-none, number_list_cmp_total}
use Rattle.lt_model.specs.Vectors.{plus, dot, total, zeros, unit}
use Rattle.lt_model.specs.Forms.{value}
use Rattle.lt_model.specs.Simplices.{AllOfDimension, AreIndependent, IsClass, IsExpression, IsStrictlyEmpty, excess}
use Rattle.lt_model.specs.Facets.{number_at}
use Rattle.lt_model.specs.Principal.{IsOrder, path_from, principal_class, principal_rows}
use Rattle.lt_model.proofs.Flat.{number_at-combine, number_at-unit_same}
use Rattle.lt_geometry.proofs.Places.{AreDifferent, order_whole}
use Rattle.lt_geometry.proofs.Reading.{read, excess_of, excesses, slopes, value_read, slopes_linear, step_zero, step_not_negative, row_not_negative, excesses_not_negative}

-- ---- numbers of unit vectors

pub unit_other : (d k j : ℕ) → j ≢ k → number_at j (unit d k) ≡ pos 0
unit_other zero k j n = refl
unit_other (suc d) zero zero n = absurd (n refl)
unit_other (suc d) zero (suc j) n = number_at-zeros d j
unit_other (suc d) (suc k) zero n = refl
unit_other (suc d) (suc k) (suc j) n = unit_other d k j (λ e. n (ap suc e))

pub step_own : (d k : ℕ) (u : List ℤ) → k < d → number_at k (plus u (unit d k)) ≡ number_at k u +ℤ pos 1
step_own d k u h = number_at-plus k u (unit d k) ∙ ap (λ n. number_at k u +ℤ n) (number_at-unit_same d k h)

pub step_other : (d k j : ℕ) (u : List ℤ) → j ≢ k → number_at j (plus u (unit d k)) ≡ number_at j u
step_other d k j u n = number_at-plus j u (unit d k) ∙ ap (λ m. number_at j u +ℤ m) (unit_other d k j n) ∙ (omega (arith, ints))

pub length-step : (d k : ℕ) (u : List ℤ) → length u ≡ d → length (plus u (unit d k)) ≡ d
length-step d k u lu = length-plus u (unit d k) (lu ∙ sym (length-unit d k)) ∙ lu

-- ---- the points of a path

pub length-path : (d : ℕ) (u : List ℤ) (p : List ℕ) → length (path_from d u p) ≡ suc (length p)
length-path d u [] = refl
length-path d u (k ∷ p) = ap suc (length-path d (plus u (unit d k)) p)

pub path_all : (d : ℕ) (u : List ℤ) (p : List ℕ) → length u ≡ d → AllOfDimension d (path_from d u p)
path_all d u [] lu = (lu, tt)
path_all d u (k ∷ p) lu = (lu, path_all d (plus u (unit d k)) p (length-step d k u lu))

pub path_first : (d : ℕ) (u : List ℤ) (p : List ℕ) → get_or (path_from d u p) 0 [] ≡ u
path_first d u [] = refl
path_first d u (k ∷ p) = refl

pub path_has_first : (d : ℕ) (u : List ℤ) (p : List ℕ) → Contains (path_from d u p) u
path_has_first d u [] = Contains-head u []
path_has_first d u (k ∷ p) = Contains-head u (path_from d (plus u (unit d k)) p)

-- a place that is not in the order keeps its number
pub path_keeps : (d j : ℕ) (u : List ℤ) (p : List ℕ) → (Contains p j → ⊥) → map (number_at j) (path_from d u p) ≡ map (λ v. number_at j u) (path_from d u p)
path_keeps d j u [] n = refl
path_keeps d j u (k ∷ p) n =
    let other : j ≢ k = λ e. n (subst (λ (x : ℕ). Contains (k ∷ p) x) (sym e) (Contains-head k p)) in
    let e : number_at j (plus u (unit d k)) ≡ number_at j u = step_other d k j u other in
    let h : map (number_at j) (path_from d (plus u (unit d k)) p) ≡ map (λ v. number_at j (plus u (unit d k))) (path_from d (plus u (unit d k)) p) = path_keeps d j (plus u (unit d k)) p (λ c. n (Contains-tail k p j c)) in
    ap (λ l. number_at j u ∷ l) (h ∙ ap (λ m. map (λ v. m) (path_from d (plus u (unit d k)) p)) e)

-- ---- what a path asks: the places differ, are below d, and the first point has 0 there

pub record IsFree (d : ℕ) (u : List ℤ) (p : List ℕ) : Type 0 where
  pub dimension : length u ≡ d
  pub different : AreDifferent p
  pub below : (k : ℕ) → Contains p k → k < d
  pub empty : (k : ℕ) → Contains p k → number_at k u ≡ pos 0

pub free_next : (d k : ℕ) (u : List ℤ) (p : List ℕ) → IsFree d u (k ∷ p) → IsFree d (plus u (unit d k)) p
free_next d k u p h = record {
  dimension = length-step d k u h.dimension;
  different = h.different.1;
  below = λ j c. h.below j (Contains-tail k p j c);
  empty = λ j c. step_other d k j u (λ e. h.different.0 (subst (λ (x : ℕ). Contains p x) e c)) ∙ h.empty j (Contains-tail k p j c);
}

pub free_order : (d : ℕ) (p : List ℕ) → IsOrder d p → IsFree d (zeros d) p
free_order d p o =
    let w = order_whole d p o in
    record { dimension = length-zeros d; different = w.different; below = w.below; empty = λ k c. number_at-zeros d k }

-- ---- independent

independent_path : (d : ℕ) (u : List ℤ) (p : List ℕ) (b : List ℤ) → IsFree d u p → length b ≡ length (path_from d u p) → total b ≡ pos 0 → ((k : ℕ) → dot b (map (number_at k) (path_from d u p)) ≡ pos 0) → b ≡ zeros (length (path_from d u p))
independent_path d u [] [] h lb sum none = absurd (omega arith)
independent_path d u [] (a ∷ []) h lb sum none =
    let e : a ≡ pos 0 = omega (arith, ints, sum) in
    ap (λ n. n ∷ []) e
independent_path d u [] (a ∷ a' ∷ b) h lb sum none = absurd (omega arith)
independent_path d u (k ∷ p) [] h lb sum none = absurd (omega arith)
independent_path d u (k ∷ p) (a ∷ b) h lb sum none =
    let next = plus u (unit d k) in
    let path = path_from d next p in
    let lb' : length b ≡ length path = omega arith in
    let at_u : number_at k u ≡ pos 0 = h.empty k (Contains-head k p) in
    let at_next : number_at k next ≡ pos 1 = step_own d k u (h.below k (Contains-head k p)) ∙ (omega (arith, ints, at_u)) in
    let e1 : dot b (map (number_at k) path) ≡ total b *ℤ pos 1 =
    ap (dot b) (path_keeps d k next p h.different.0) ∙ dot-constant b (number_at k next) path lb' ∙ ap (λ n. total b *ℤ n) at_next
    in
    let e2 : a *ℤ number_at k u ≡ pos 0 = ap (λ n. a *ℤ n) at_u ∙ mul_zero_z a in
    let tail_sum : total b ≡ pos 0 = omega (arith, ints, e1, e2, none k) in
    let first : a ≡ pos 0 = omega (arith, ints, sum, tail_sum) in
    let rest : b ≡ zeros (length path) = independent_path d next p b (free_next d k u p h) lb' tail_sum (λ j. omega (arith, ints, none j, ap (λ n. n *ℤ number_at j u) first ∙ zero_mul_z (number_at j u))) in
    ap₂ (λ (x : ℤ) (l : List ℤ). x ∷ l) first rest

pub path_independent : (d : ℕ) (u : List ℤ) (p : List ℕ) → IsFree d u p → AreIndependent d (path_from d u p)
path_independent d u p h b lb sum none =
    independent_path d u p b h lb sum (λ j. sym (number_at-combine j b (path_from d u p)) ∙ ap (number_at j) none ∙ number_at-zeros d j)

-- ---- ascending

less_step : (d k : ℕ) (u : List ℤ) → length u ≡ d → k < d → number_list_cmp u (plus u (unit d k)) ≡ Less
less_step zero k u lu h = absurd (omega arith)
less_step (suc d) k [] lu h = absurd (omega arith)
less_step (suc d) zero (a ∷ u) lu h =
    let e : Less ≡ int_cmp a (a +ℤ pos 1) = int_cmp_is a (a +ℤ pos 1) Less (omega (arith, ints)) in
    rw (← e) refl
less_step (suc d) (suc k) (a ∷ u) lu h =
    let e : Equal ≡ int_cmp a (a +ℤ pos 0) = int_cmp_is a (a +ℤ pos 0) Equal (omega (arith, ints)) in
    rw (← e) (less_step d k u (omega arith) (omega arith))

above_path : (d : ℕ) (v u : List ℤ) (p : List ℕ) → IsFree d u p → number_list_cmp v u ≡ Less → AllByRecursion (λ z. number_list_cmp v z ≡ Less) (path_from d u p)
above_path d v u [] h l = (l, tt)
above_path d v u (k ∷ p) h l =
    (l, above_path d v (plus u (unit d k)) p (free_next d k u p h) (number_list_cmp_total.trans v u (plus u (unit d k)) l (less_step d k u h.dimension (h.below k (Contains-head k p)))))

pub path_ascending : (d : ℕ) (u : List ℤ) (p : List ℕ) → IsFree d u p → IsStrictlySortedBy number_list_cmp (path_from d u p)
unfolding IsStrictlySortedBy
path_ascending d u [] h = (tt, tt)
path_ascending d u (k ∷ p) h =
    (above_path d u (plus u (unit d k)) p (free_next d k u p h) (less_step d k u h.dimension (h.below k (Contains-head k p))), path_ascending d (plus u (unit d k)) p (free_next d k u p h))

-- the path of an order is a class
pub principal_is_class : (d : ℕ) (p : List ℕ) → IsOrder d p → IsClass d (principal_class d p)
principal_is_class d p o = record {
  simplex = record {
    count = length-path d (zeros d) p ∙ ap suc o.count;
    points = path_all d (zeros d) p (length-zeros d);
    independent = path_independent d (zeros d) p (free_order d p o);
  };
  ascending = path_ascending d (zeros d) p (free_order d p o);
  first = path_first d (zeros d) p;
}

-- ---- at the points of the path the reading has no excess

abbrev pub IsBit : ℤ → Type 0
IsBit z = (z ≡ pos 0) ⊎ (z ≡ pos 1)

pub record IsFlat (l : List ℤ) : Type 0 where
  pub none : excesses l ≡ pos 0
  pub bits : AllByRecursion IsBit l

zero_above : (l : List ℤ) → AllByRecursion (λ z. z ≡ pos 0) l → excess_of (pos 0) l ≡ pos 0
zero_above [] h = refl
zero_above (t ∷ l) h = let e : (pos 0 -ℤ t) *ℤ (pos 0 -ℤ t -ℤ pos 1) ≡ pos 0 = rw h.0 refl in omega (arith, ints, e, zero_above l h.1)

one_above : (l : List ℤ) → AllByRecursion IsBit l → excess_of (pos 1) l ≡ pos 0
one_above [] h = refl
one_above (t ∷ l) h =
    let e : (pos 1 -ℤ t) *ℤ (pos 1 -ℤ t -ℤ pos 1) ≡ pos 0 = elim h.0 [ inl z ↦ rw z refl | inr z ↦ rw z refl ] in
    omega (arith, ints, e, one_above l h.1)

read_zeros : (u : List ℤ) (p : List ℕ) → ((k : ℕ) → Contains p k → number_at k u ≡ pos 0) → AllByRecursion (λ z. z ≡ pos 0) (read p u)
read_zeros u [] h = (refl, tt)
read_zeros u (k ∷ p) h = (h k (Contains-head k p), read_zeros u p (λ j c. h j (Contains-tail k p j c)))

zeros_flat : (l : List ℤ) → AllByRecursion (λ z. z ≡ pos 0) l → IsFlat l
zeros_flat [] h = record { none = refl; bits = tt }
zeros_flat (z ∷ l) h =
    let r = zeros_flat l h.1 in
    let e : excess_of z l ≡ pos 0 = ap (λ n. excess_of n l) h.0 ∙ zero_above l h.1 in
    record { none = omega (arith, ints, e, r.none); bits = (inl h.0, r.bits) }

-- as `path_keeps`, for one point
pub point_keeps : (d j : ℕ) (u v : List ℤ) (p : List ℕ) → (Contains p j → ⊥) → Contains (path_from d u p) v → number_at j v ≡ number_at j u
point_keeps d j u v [] n c = elim (Contains-cases u [] v c) [ inl e ↦ ap (number_at j) (sym e) | inr r ↦ Contains-none v r ]
point_keeps d j u v (k ∷ p) n c =
    elim (Contains-cases u (path_from d (plus u (unit d k)) p) v c) [
      | inl e ↦ ap (number_at j) (sym e)
      | inr r ↦ point_keeps d j (plus u (unit d k)) v p (λ i. n (Contains-tail k p j i)) r ∙ step_other d k j u (λ e. n (subst (λ (x : ℕ). Contains (k ∷ p) x) (sym e) (Contains-head k p)))
    ]

pub path_flat : (d : ℕ) (u v : List ℤ) (p : List ℕ) → IsFree d u p → Contains (path_from d u p) v → IsFlat (read p v)
path_flat d u v [] h c = record { none = refl; bits = (inl refl, tt) }
path_flat d u v (k ∷ p) h c =
    elim (Contains-cases u (path_from d (plus u (unit d k)) p) v c) [
      | inl e ↦ subst (λ (w : List ℤ). IsFlat (read (k ∷ p) w)) e (zeros_flat (read (k ∷ p) u) (read_zeros u (k ∷ p) h.empty))
      | inr r ↦ later r (path_flat d (plus u (unit d k)) v p (free_next d k u p h) r)
    ]
  where
    later : Contains (path_from d (plus u (unit d k)) p) v → IsFlat (read p v) → IsFlat (read (k ∷ p) v)
    later r f =
        let at_u : number_at k u ≡ pos 0 = h.empty k (Contains-head k p) in
        let one : number_at k v ≡ pos 1 = point_keeps d k (plus u (unit d k)) v p h.different.0 r ∙ step_own d k u (h.below k (Contains-head k p)) ∙ (omega (arith, ints, at_u)) in
        let e : excess_of (number_at k v) (read p v) ≡ pos 0 = ap (λ n. excess_of n (read p v)) one ∙ one_above (read p v) f.bits in
        record { none = omega (arith, ints, e, f.none); bits = (inr one, f.bits) }

-- ---- and only there

row_last : (z : ℤ) (p : List ℕ) (x : List ℤ) → excess_of z (read p x) ≡ pos 0 → IsBit z
row_last z [] x h =
    let e : z -ℤ pos 0 ≡ z = omega (arith, ints) in
    let k : z *ℤ (z -ℤ pos 1) ≡ pos 0 = omega (arith, ints, ap (λ n. n *ℤ (n -ℤ pos 1)) (sym e), h) in
    step_zero z k
row_last z (k ∷ p) x h =
    let e = step_not_negative (z -ℤ number_at k x) in
    let f = row_not_negative z (read p x) in
    row_last z p x (omega (arith, ints, e, f, h))

-- below a 0 all are 0
row_zeros : (l : List ℤ) → excess_of (pos 0) l ≡ pos 0 → AllByRecursion IsBit l → AllByRecursion (λ z. z ≡ pos 0) l
row_zeros [] h b = tt
row_zeros (t ∷ l) h b =
    let e = step_not_negative (pos 0 -ℤ t) in
    let f = row_not_negative (pos 0) l in
    let own : (pos 0 -ℤ t) *ℤ (pos 0 -ℤ t -ℤ pos 1) ≡ pos 0 = omega (arith, ints, e, f, h) in
    let rest : excess_of (pos 0) l ≡ pos 0 = omega (arith, ints, e, f, h) in
    (elim b.0 [ inl z ↦ z | inr z ↦ absurd (not_one z own) ], row_zeros l rest b.1)
  where
    not_one : t ≡ pos 1 → (pos 0 -ℤ t) *ℤ (pos 0 -ℤ t -ℤ pos 1) ≡ pos 0 → ⊥
    not_one z h =
        let k : (pos 0 -ℤ pos 1) *ℤ (pos 0 -ℤ pos 1 -ℤ pos 1) ≡ pos 0 = rw z at h in
        omega (arith, ints, k)

flat_from_none : (p : List ℕ) (x : List ℤ) → excesses (read p x) ≡ pos 0 → AllByRecursion IsBit (read p x)
flat_from_none [] x h = (inl refl, tt)
flat_from_none (k ∷ p) x h =
    let e = row_not_negative (number_at k x) (read p x) in
    let f = excesses_not_negative (read p x) in
    (row_last (number_at k x) p x (omega (arith, ints, e, f, h)), flat_from_none p x (omega (arith, ints, e, f, h)))

pub same_numbers : (n : ℕ) (x y : List ℤ) → length x ≡ n → length y ≡ n → ((j : ℕ) → j < n → number_at j x ≡ number_at j y) → x ≡ y
same_numbers zero [] [] lx ly h = refl
same_numbers zero (a ∷ x) y lx ly h = absurd (omega arith)
same_numbers zero [] (b ∷ y) lx ly h = absurd (omega arith)
same_numbers (suc n) [] y lx ly h = absurd (omega arith)
same_numbers (suc n) (a ∷ x) [] lx ly h = absurd (omega arith)
same_numbers (suc n) (a ∷ x) (b ∷ y) lx ly h =
    ap₂ (λ (c : ℤ) (l : List ℤ). c ∷ l) (h 0 (omega arith)) (same_numbers n x y (omega arith) (omega arith) (λ j l. h (suc j) (omega arith)))

read_at : (p : List ℕ) (x : List ℤ) (P : ℤ → Type 0) (j : ℕ) → AllByRecursion P (read p x) → Contains p j → P (number_at j x)
read_at [] x P j h c = Contains-none j c
read_at (k ∷ p) x P j h c = elim (Contains-cases k p j c) [ inl e ↦ subst (λ (i : ℕ). P (number_at i x)) e h.0 | inr r ↦ read_at p x P j h.1 r ]

pub same_or_not : (j k : ℕ) → (j ≡ k) ⊎ (j ≢ k)
same_or_not zero zero = inl refl
same_or_not zero (suc k) = inr (λ e. absurd (omega arith))
same_or_not (suc j) zero = inr (λ e. absurd (omega arith))
same_or_not (suc j) (suc k) = elim (same_or_not j k) [ inl e ↦ inl (ap suc e) | inr n ↦ inr (λ e. n (omega arith)) ]

pub on_path : (d : ℕ) (u x : List ℤ) (p : List ℕ) → IsFree d u p → length x ≡ d → ((j : ℕ) → j < d → Contains p j ⊎ (number_at j x ≡ number_at j u)) → excesses (read p x) ≡ pos 0 → Contains (path_from d u p) x
on_path d u x [] h lx others none =
    let e : u ≡ x = same_numbers d u x h.dimension lx (λ j l. elim (others j l) [ inl c ↦ Contains-none j c | inr e ↦ sym e ]) in
    subst (λ (w : List ℤ). Contains (u ∷ []) w) e (Contains-head u [])
on_path d u x (k ∷ p) h lx others none =
    let a = row_not_negative (number_at k x) (read p x) in
    let b = excesses_not_negative (read p x) in
    let row : excess_of (number_at k x) (read p x) ≡ pos 0 = omega (arith, ints, a, b, none) in
    let rest : excesses (read p x) ≡ pos 0 = omega (arith, ints, a, b, none) in
    elim (row_last (number_at k x) p x row) [ inl z ↦ here z row rest | inr z ↦ there z (λ g. on_path d (plus u (unit d k)) x p (free_next d k u p h) lx g rest) ]
  where
    here : number_at k x ≡ pos 0 → excess_of (number_at k x) (read p x) ≡ pos 0 → excesses (read p x) ≡ pos 0 → Contains (path_from d u (k ∷ p)) x
    here z row rest =
        let row' : excess_of (pos 0) (read p x) ≡ pos 0 = ap (λ n. excess_of n (read p x)) (sym z) ∙ row in
        let all = row_zeros (read p x) row' (flat_from_none p x rest) in
        let e : u ≡ x = same_numbers d u x h.dimension lx (λ j l. elim (others j l) [ inl c ↦ both j c all | inr e ↦ sym e ]) in
        subst (λ (w : List ℤ). Contains (path_from d u (k ∷ p)) w) e (path_has_first d u (k ∷ p))
      where
        both : (j : ℕ) → Contains (k ∷ p) j → AllByRecursion (λ z. z ≡ pos 0) (read p x) → number_at j u ≡ number_at j x
        both j c all = h.empty j c ∙ sym (elim (Contains-cases k p j c) [ inl e ↦ ap (λ i. number_at i x) (sym e) ∙ z | inr r ↦ read_at p x (λ z. z ≡ pos 0) j all r ])

    there : number_at k x ≡ pos 1 → (((j : ℕ) → j < d → Contains p j ⊎ (number_at j x ≡ number_at j (plus u (unit d k)))) → Contains (path_from d (plus u (unit d k)) p) x) → Contains (path_from d u (k ∷ p)) x
    there z next = Contains-tail u (path_from d (plus u (unit d k)) p) x (next (λ j l. agrees j (others j l)))
      where
        at_k : (j : ℕ) → k ≡ j → number_at j x ≡ number_at j (plus u (unit d k))
        at_k j e =
            let at_u : number_at k u ≡ pos 0 = h.empty k (Contains-head k p) in
            let one : number_at k (plus u (unit d k)) ≡ pos 1 = step_own d k u (h.below k (Contains-head k p)) ∙ (omega (arith, ints, at_u)) in
            subst (λ (i : ℕ). number_at i x ≡ number_at i (plus u (unit d k))) e (z ∙ sym one)

        apart : (j : ℕ) → (j ≡ k) ⊎ (j ≢ k) → number_at j x ≡ number_at j u → number_at j x ≡ number_at j (plus u (unit d k))
        apart j (inl e) g = at_k j (sym e)
        apart j (inr n) g = g ∙ sym (step_other d k j u n)

        agrees : (j : ℕ) → Contains (k ∷ p) j ⊎ (number_at j x ≡ number_at j u) → Contains p j ⊎ (number_at j x ≡ number_at j (plus u (unit d k)))
        agrees j (inl c) = elim (Contains-cases k p j c) [ inl e ↦ inr (at_k j e) | inr r ↦ inl r ]
        agrees j (inr g) = inr (apart j (same_or_not j k) g)

-- ---- strictly empty

flat_value : (d : ℕ) (p : List ℕ) (v : List ℤ) → IsOrder d p → length v ≡ d → Contains (principal_class d p) v → value (principal_rows d d) v ≡ slopes (read p v)
flat_value d p v o lv c =
    let f = path_flat d (zeros d) v p (free_order d p o) c in
    omega (arith, ints, value_read d p v o lv, f.none)

map_same_in : (d : ℕ) (f g : List ℤ → ℤ) (vs : List (List ℤ)) → AllOfDimension d vs → ((v : List ℤ) → length v ≡ d → Contains vs v → f v ≡ g v) → map f vs ≡ map g vs
map_same_in d f g [] all h = refl
map_same_in d f g (v ∷ vs) all h = rw (h v all.0 (Contains-head v vs), map_same_in d f g vs all.1 (λ w l c. h w l (Contains-tail v vs w c))) refl

-- the excess over the class of an order is that of the reading
pub principal_excess : (d : ℕ) (p : List ℕ) (x : List ℤ) (c : ℤ) (b : List ℤ) → IsOrder d p → length x ≡ d → IsExpression (principal_class d p) x c b → excess (principal_rows d d) (principal_class d p) x c b ≡ c *ℤ excesses (read p x)
principal_excess d p x c b o lx e =
    let vs = principal_class d p in
    let q = principal_rows d d in
    let all : AllOfDimension d vs = path_all d (zeros d) p (length-zeros d) in
    let line = slopes_linear d p in
    let same : map (value q) vs ≡ map (dot line.vector) vs = map_same_in d (value q) (dot line.vector) vs all (λ v lv h. flat_value d p v o lv h ∙ line.is v lv) in
    let e1 : dot b (map (value q) vs) ≡ c *ℤ slopes (read p x) =
    ap (dot b) same ∙ sym (dot-combine line.vector b vs) ∙ ap (dot line.vector) e.point ∙ dot-scale line.vector c x ∙ ap (λ n. c *ℤ n) (sym (line.is x lx))
    in
    rw (e1, value_read d p x o lx) (end c (excesses (read p x)) (slopes (read p x)))
  where
    end : (c s t : ℤ) → c *ℤ (s +ℤ t) -ℤ c *ℤ t ≡ c *ℤ s
    end c s t = ring (c ∷ s ∷ t ∷ []) (var 0 ⊗ (var 1 ⊕ var 2) ⊖ var 0 ⊗ var 2) (var 0 ⊗ var 1) tt

zero_factor : (c x : ℤ) → pos 0 <ℤ c → c *ℤ x ≡ pos 0 → x ≡ pos 0
zero_factor c x h e = cancel_z c x (pos 0) h (e ∙ sym (mul_zero_z c))

pub principal_is_empty : (d : ℕ) (p : List ℕ) → IsOrder d p → IsStrictlyEmpty d (principal_rows d d) (principal_class d p)
principal_is_empty d p o = record {
  outside = λ x c b lx e. rw (principal_excess d p x c b o lx e) (mul_nonneg_z c (excesses (read p x)) (weak c e.positive) (excesses_not_negative (read p x)));
  touches = λ x c b lx e z. on_path d (zeros d) x p (free_order d p o) lx (λ j l. inl (o.each j l)) (zero_factor c (excesses (read p x)) e.positive (sym (principal_excess d p x c b o lx e) ∙ z));
}
  where
    weak : (c : ℤ) → pos 0 <ℤ c → pos 0 ≤ℤ c
    weak c h = omega (arith, ints)
