-- Of normals on different rays that a form makes positive, one is no combination of the others: the lexicographically least,
-- where each normal is taken over its value at the form.
use Rattle.std.proofs.Common.{◌≡◌, ◌≢◌, ◌⊎◌, inl, inr, refl, sym, ◌∙◌, ap, ℕ, zero, suc, ◌≤◌, ◌<◌, ℤ, pos, negsuc, neg_ℤ, ◌+ℤ◌, ◌-ℤ◌, ◌*ℤ◌, ◌≤ℤ◌, ◌<ℤ◌, arith, List, [], ◌∷◌, length, map, get_or}
use Rattle.std.specs.List.{All}
use Rattle.std.proofs.lemmas.Int.{ints, by_lt_z}
use Rattle.std.proofs.lemmas.List.Elements.{All-head, All-tail}
use native.Mathlib.Decide.{ℕ_discrete, dec_le}
use Rattle.lt_model.specs.Padded.{lookup}
use Rattle.lt_model.specs.Vectors.{plus, scale, dot, combine}
use Rattle.lt_model.specs.Cones.{coefficients, places}
use Rattle.lt_model.proofs.Integers.{mul_zero_z}
use Rattle.lt_model.proofs.Ring.{ring, ring_by, var, num, neg, ◌⊕◌, ◌⊖◌, ◌⊗◌}
use Rattle.lt_model.proofs.Inequalities.{mul_pos_z, mul_le_mul_z, cancel_z}
use Rattle.lt_model.proofs.Squares.{length-scale}
use Rattle.lt_model.proofs.Excess.{scale-dot, plus-dot}
use Rattle.lt_model.proofs.Walk.{plus-nil}
use Rattle.lt_tableau.specs.Numbers.{column_at}
use Rattle.lt_tableau.proofs.Sums.{lookup_plus, lookup_scale}
use Rattle.lt_lp.specs.Positive.{IsPositiveAt}
use Rattle.lt_lp.proofs.Combined.{same_lists}
use Rattle.lt_lp.specs.Rows.{HaveDifferentRays}

-- ---- numbers of which the first that isn't 0 is positive
pub record IsUp (f : ℕ → ℤ) : Type 0 where
  pub at : ℕ
  pub positive : pos 0 <ℤ f at
  pub before : (m : ℕ) → m < at → f m ≡ pos 0

up_sum : (f g h : ℕ → ℤ) → IsUp f → IsUp g → ((m : ℕ) → h m ≡ f m +ℤ g m) → IsUp h
up_sum f g h a b e = pick (dec_le a.at b.at)
  where
    both : (x y : ℤ) → x ≡ pos 0 → y ≡ pos 0 → x +ℤ y ≡ pos 0
    both x y p q = omega (arith, ints)

    plus : (x y : ℤ) → pos 0 <ℤ x → pos 0 ≤ℤ y → pos 0 <ℤ (x +ℤ y)
    plus x y p q = omega (arith, ints)

    plus_right : (x y : ℤ) → x ≡ pos 0 → pos 0 <ℤ y → pos 0 <ℤ (x +ℤ y)
    plus_right x y p q = omega (arith, ints)

    at_least : Dec (b.at ≤ a.at) → a.at ≤ b.at → pos 0 ≤ℤ g a.at
    at_least (yes l) k = let s : b.at ≡ a.at = omega arith in let p = b.positive in rw (sym s) (weak (g b.at) p)
      where
        weak : (x : ℤ) → pos 0 <ℤ x → pos 0 ≤ℤ x
        weak x p = omega (arith, ints)
    at_least (no l) k = rw (b.before a.at (omega arith)) (omega (arith, ints))

    pick : Dec (a.at ≤ b.at) → IsUp h
    pick (yes l) = record {
      at = a.at;
      positive = rw (e a.at) (plus (f a.at) (g a.at) a.positive (at_least (dec_le b.at a.at) l));
      before = λ m k. e m ∙ both (f m) (g m) (a.before m k) (b.before m (omega arith));
    }
    pick (no l) = record {
      at = b.at;
      positive = rw (e b.at) (plus_right (f b.at) (g b.at) (a.before b.at (omega arith)) b.positive);
      before = λ m k. e m ∙ both (f m) (g m) (a.before m (omega arith)) (b.before m k);
    }

up_times : (c : ℤ) (f h : ℕ → ℤ) → pos 0 <ℤ c → IsUp f → ((m : ℕ) → h m ≡ c *ℤ f m) → IsUp h
up_times c f h p a e = record {
  at = a.at;
  positive = rw (e a.at) (mul_pos_z c (f a.at) p a.positive);
  before = λ m k. e m ∙ ap (λ (x : ℤ). c *ℤ x) (a.before m k) ∙ mul_zero_z c;
}

up_over : (c : ℤ) (f h : ℕ → ℤ) → pos 0 <ℤ c → IsUp h → ((m : ℕ) → h m ≡ c *ℤ f m) → IsUp f
up_over c f h p a e = record {
  at = a.at;
  positive = factor (f a.at) (rw (sym (e a.at)) a.positive);
  before = λ m k. cancel_z c (f m) (pos 0) p (sym (e m) ∙ a.before m k ∙ sym (mul_zero_z c));
}
  where
    factor : (x : ℤ) → pos 0 <ℤ (c *ℤ x) → pos 0 <ℤ x
    factor x h = by_lt_z (pos 0) x (λ l. l) (λ l. (let m = mul_le_mul_z c x (pos 0) (omega (arith, ints, p)) l in let z = mul_zero_z c in absurd (omega (arith, ints))))

-- the first n numbers are 0, or they are up, or their opposites are
up_or : (n : ℕ) (f : ℕ → ℤ) → ((m : ℕ) → m < n → f m ≡ pos 0) ⊎ (IsUp f ⊎ IsUp (λ (m : ℕ). neg_ℤ (f m)))
up_or zero f = inl (λ m l. absurd (omega arith))
up_or (suc n) f = pick (up_or n f)
  where
    opposite : (x : ℤ) → x ≡ pos 0 → neg_ℤ x ≡ pos 0
    opposite x e = omega (arith, ints)

    last : ((m : ℕ) → m < n → f m ≡ pos 0) → (x : ℤ) → f n ≡ x → ((m : ℕ) → m < suc n → f m ≡ pos 0) ⊎ (IsUp f ⊎ IsUp (λ (m : ℕ). neg_ℤ (f m)))
    last h (pos zero) e = inl (λ m l. each m l (ℕ_discrete m n))
      where
        each : (m : ℕ) → m < suc n → Dec (m ≡ n) → f m ≡ pos 0
        each m l (yes q) = rw q e
        each m l (no q) = h m (omega arith)
    last h (pos (suc k)) e = inr (inl record { at = n; positive = rw e (omega (arith, ints)); before = h })
    last h (negsuc k) e = inr (inr record { at = n; positive = rw e (omega (arith, ints)); before = λ m l. opposite (f m) (h m l) })

    pick : ((m : ℕ) → m < n → f m ≡ pos 0) ⊎ (IsUp f ⊎ IsUp (λ (m : ℕ). neg_ℤ (f m))) → ((m : ℕ) → m < suc n → f m ≡ pos 0) ⊎ (IsUp f ⊎ IsUp (λ (m : ℕ). neg_ℤ (f m)))
    pick (inl h) = last h (f n) refl
    pick (inr h) = inr h

-- ---- the difference of two normals over their values at the form
abbrev pub apart : List ℤ → List ℤ → List ℤ → ℕ → ℤ
apart form a b m = lookup b m *ℤ dot a form -ℤ lookup a m *ℤ dot b form

apart_back : (form a b : List ℤ) (m : ℕ) → apart form b a m ≡ neg_ℤ (apart form a b m)
apart_back form a b m = ring (lookup a m ∷ lookup b m ∷ dot a form ∷ dot b form ∷ []) (var 0 ⊗ var 3 ⊖ var 1 ⊗ var 2) (neg (var 1 ⊗ var 2 ⊖ var 0 ⊗ var 3)) tt

up_far : (form a b c : List ℤ) → pos 0 <ℤ dot a form → pos 0 <ℤ dot b form → pos 0 <ℤ dot c form → IsUp (apart form a b) → IsUp (apart form b c) → IsUp (apart form a c)
up_far form a b c pa pb pc x y =
    up_over (dot b form) (apart form a c) (λ (m : ℕ). dot c form *ℤ apart form a b m +ℤ dot a form *ℤ apart form b c m) pb
    (up_sum (λ (m : ℕ). dot c form *ℤ apart form a b m) (λ (m : ℕ). dot a form *ℤ apart form b c m) (λ (m : ℕ). dot c form *ℤ apart form a b m +ℤ dot a form *ℤ apart form b c m)
    (up_times (dot c form) (apart form a b) (λ (m : ℕ). dot c form *ℤ apart form a b m) pc x (λ m. refl))
    (up_times (dot a form) (apart form b c) (λ (m : ℕ). dot a form *ℤ apart form b c m) pa y (λ m. refl)) (λ m. refl))
    (λ m. ring (lookup a m ∷ lookup b m ∷ lookup c m ∷ dot a form ∷ dot b form ∷ dot c form ∷ [])
    (var 5 ⊗ (var 1 ⊗ var 3 ⊖ var 0 ⊗ var 4) ⊕ var 3 ⊗ (var 2 ⊗ var 4 ⊖ var 1 ⊗ var 5)) (var 4 ⊗ (var 2 ⊗ var 3 ⊖ var 0 ⊗ var 5)) tt)

-- normals of n numbers on different rays that the form makes positive
pub record AreDistinct (n : ℕ) (form : List ℤ) (ns : List (List ℤ)) : Type 0 where
  pub lengths : All (λ x. length x ≡ n) ns
  pub positive : IsPositiveAt form ns
  pub rays : HaveDifferentRays ns

positive_pos : (x : ℤ) → pos 0 <ℤ x → (g : ℕ) × (0 < g) × (x ≡ pos g)
positive_pos (pos zero) h = absurd (omega (arith, ints))
positive_pos (pos (suc g)) h = (suc g, omega arith, refl)
positive_pos (negsuc g) h = absurd (omega (arith, ints))

-- normals with the same numbers over their values lie on one ray
tied : (n : ℕ) (form a b : List ℤ) → length a ≡ n → length b ≡ n → pos 0 <ℤ dot a form → pos 0 <ℤ dot b form → ((m : ℕ) → m < n → apart form a b m ≡ pos 0) →
    (g : ℕ) × (h : ℕ) × (0 < g) × (0 < h) × (scale (pos g) a ≡ scale (pos h) b)
tied n form a b la lb da db z =
    let g = positive_pos (dot b form) db in
    let h = positive_pos (dot a form) da in
    let e : scale (dot b form) a ≡ scale (dot a form) b = same_lists (scale (dot b form) a) (scale (dot a form) b) (length-scale (dot b form) a ∙ la ∙ sym (length-scale (dot a form) b ∙ lb))
    (λ q l. (let k : q < n = rw (length-scale (dot a form) b, lb) at l in let y = z q k in lookup_scale (dot b form) a q ∙ even (lookup b q) (dot a form) (lookup a q) (dot b form) y ∙ sym (lookup_scale (dot a form) b q))) in
    (g.0, h.0, g.1, h.1, ap (λ (x : ℤ). scale x a) (sym g.2) ∙ e ∙ ap (λ (x : ℤ). scale x b) h.2)
  where
    even : (x y u v : ℤ) → x *ℤ y -ℤ u *ℤ v ≡ pos 0 → v *ℤ u ≡ y *ℤ x
    even x y u v e = ring_by (x ∷ y ∷ u ∷ v ∷ []) (var 3 ⊗ var 2) (var 1 ⊗ var 0) (num (negsuc 0)) (var 0 ⊗ var 1 ⊖ var 2 ⊗ var 3) (num (pos 0)) tt e

-- one of two is less
less_or : (n : ℕ) (form : List ℤ) (ns : List (List ℤ)) (i j : ℕ) → AreDistinct n form ns → i < length ns → j < length ns → i ≢ j → IsUp (apart form (column_at ns i) (column_at ns j)) ⊎ IsUp (apart form (column_at ns j) (column_at ns i))
less_or n form ns i j d li lj ne = pick (up_or n (apart form (column_at ns i) (column_at ns j)))
  where
    back : IsUp (λ (m : ℕ). neg_ℤ (apart form (column_at ns i) (column_at ns j) m)) → IsUp (apart form (column_at ns j) (column_at ns i))
    back u = record { at = u.at; positive = rw (apart_back form (column_at ns i) (column_at ns j) u.at) u.positive; before = λ m k. apart_back form (column_at ns i) (column_at ns j) m ∙ u.before m k }

    pick : ((m : ℕ) → m < n → apart form (column_at ns i) (column_at ns j) m ≡ pos 0) ⊎ (IsUp (apart form (column_at ns i) (column_at ns j)) ⊎ IsUp (λ (m : ℕ). neg_ℤ (apart form (column_at ns i) (column_at ns j) m))) → IsUp (apart form (column_at ns i) (column_at ns j)) ⊎ IsUp (apart form (column_at ns j) (column_at ns i))
    pick (inl z) =
        let s = tied n form (column_at ns i) (column_at ns j) (d.lengths i [] li) (d.lengths j [] lj) (d.positive i li) (d.positive j lj) z in
        absurd (d.rays i j li lj ne s.0 s.1 s.2 s.3 s.4)
    pick (inr (inl u)) = inl u
    pick (inr (inr u)) = inr (back u)

-- the least of the first m
pub record IsLeast (form : List ℤ) (ns : List (List ℤ)) (m k : ℕ) : Type 0 where
  pub inside : k < m
  pub least : (i : ℕ) → i < m → i ≢ k → IsUp (apart form (column_at ns k) (column_at ns i))

least_of : (n : ℕ) (form : List ℤ) (ns : List (List ℤ)) (m : ℕ) → AreDistinct n form ns → suc m ≤ length ns → (k : ℕ) × IsLeast form ns (suc m) k
least_of n form ns zero d l = (0, record { inside = omega arith; least = λ i h e. absurd (omega arith) })
least_of n form ns (suc m) d l = pick (least_of n form ns m d (omega arith))
  where
    pick : (k : ℕ) × IsLeast form ns (suc m) k → (k : ℕ) × IsLeast form ns (suc (suc m)) k
    pick r = choose (less_or n form ns r.0 (suc m) d (let a = r.1.inside in omega arith) (omega arith) (λ e. (let a = r.1.inside in absurd (omega arith))))
      where
        choose : IsUp (apart form (column_at ns r.0) (column_at ns (suc m))) ⊎ IsUp (apart form (column_at ns (suc m)) (column_at ns r.0)) → (k : ℕ) × IsLeast form ns (suc (suc m)) k
        choose (inl u) = (r.0, record { inside = (let a = r.1.inside in omega arith); least = λ i h e. each i h e (ℕ_discrete i (suc m)) })
          where
            each : (i : ℕ) → i < suc (suc m) → i ≢ r.0 → Dec (i ≡ suc m) → IsUp (apart form (column_at ns r.0) (column_at ns i))
            each i h e (yes q) = rw q u
            each i h e (no q) = r.1.least i (omega arith) e
        choose (inr u) = (suc m, record { inside = omega arith; least = λ i h e. each i h e (ℕ_discrete i r.0) })
          where
            each : (i : ℕ) → i < suc (suc m) → i ≢ suc m → Dec (i ≡ r.0) → IsUp (apart form (column_at ns (suc m)) (column_at ns i))
            each i h e (yes q) = rw q u
            each i h e (no q) = up_far form (column_at ns (suc m)) (column_at ns r.0) (column_at ns i) (d.positive (suc m) (omega arith)) (d.positive r.0 (let a = r.1.inside in omega arith)) (d.positive i (omega arith)) u (r.1.least i (omega arith) q)

-- ---- sums of terms
terms_up : (form : List ℤ) (ns : List (List ℤ)) (k : ℕ) (t : ℕ × ℤ) (ts : List (ℕ × ℤ)) → ((i : ℕ) → i < length ns → i ≢ k → IsUp (apart form (column_at ns k) (column_at ns i))) →
    All (λ i. i < length ns) (places (t ∷ ts)) → All (λ i. i ≢ k) (places (t ∷ ts)) → All (λ x. pos 0 <ℤ x) (coefficients (t ∷ ts)) →
    IsUp (λ (m : ℕ). lookup (combine (coefficients (t ∷ ts)) (map (λ i. get_or ns i []) (places (t ∷ ts)))) m *ℤ dot (column_at ns k) form -ℤ lookup (column_at ns k) m *ℤ dot (combine (coefficients (t ∷ ts)) (map (λ i. get_or ns i []) (places (t ∷ ts)))) form)
terms_up form ns k t [] h w o p =
    up_times t.1 (apart form (column_at ns k) (column_at ns t.0)) _ (All-head (λ x. pos 0 <ℤ x) t.1 [] p) (h t.0 (All-head (λ i. i < length ns) t.0 [] w) (All-head (λ i. i ≢ k) t.0 [] o))
    (λ m. rw (one (scale t.1 (get_or ns t.0 [])), lookup_scale t.1 (get_or ns t.0 []) m, scale-dot t.1 (get_or ns t.0 []) form) (ring (t.1 ∷ lookup (get_or ns t.0 []) m ∷ dot (column_at ns k) form ∷ lookup (column_at ns k) m ∷ dot (get_or ns t.0 []) form ∷ [])
    (var 0 ⊗ var 1 ⊗ var 2 ⊖ var 3 ⊗ (var 0 ⊗ var 4)) (var 0 ⊗ (var 1 ⊗ var 2 ⊖ var 3 ⊗ var 4)) tt))
  where
    one : (x : List ℤ) → plus x [] ≡ x
    one x = plus-nil x
terms_up form ns k t (u ∷ ts) h w o p =
    let r = terms_up form ns k u ts h (All-tail (λ i. i < length ns) t.0 (places (u ∷ ts)) w) (All-tail (λ i. i ≢ k) t.0 (places (u ∷ ts)) o) (All-tail (λ x. pos 0 <ℤ x) t.1 (coefficients (u ∷ ts)) p) in
    let rest = combine (coefficients (u ∷ ts)) (map (λ i. get_or ns i []) (places (u ∷ ts))) in
    let own = get_or ns t.0 [] in
    let x = column_at ns k in
    up_sum (λ (m : ℕ). t.1 *ℤ apart form x own m) (λ (m : ℕ). lookup rest m *ℤ dot x form -ℤ lookup x m *ℤ dot rest form) _
    (up_times t.1 (apart form x own) (λ (m : ℕ). t.1 *ℤ apart form x own m) (All-head (λ x. pos 0 <ℤ x) t.1 (coefficients (u ∷ ts)) p) (h t.0 (All-head (λ i. i < length ns) t.0 (places (u ∷ ts)) w) (All-head (λ i. i ≢ k) t.0 (places (u ∷ ts)) o)) (λ m. refl))
    r
    (λ m. rw (lookup_plus (scale t.1 own) rest m, lookup_scale t.1 own m, plus-dot (scale t.1 own) rest form, scale-dot t.1 own form)
    (ring (t.1 ∷ lookup own m ∷ dot x form ∷ lookup x m ∷ dot own form ∷ lookup rest m ∷ dot rest form ∷ [])
    ((var 0 ⊗ var 1 ⊕ var 5) ⊗ var 2 ⊖ var 3 ⊗ (var 0 ⊗ var 4 ⊕ var 6)) (var 0 ⊗ (var 1 ⊗ var 2 ⊖ var 3 ⊗ var 4) ⊕ (var 5 ⊗ var 2 ⊖ var 3 ⊗ var 6)) tt))

never_up : (f : ℕ → ℤ) → IsUp f → ((m : ℕ) → f m ≡ pos 0) → ⊥
never_up f u z = let a = u.positive in let b = z u.at in absurd (omega (arith, ints))

-- one of the normals is no combination of the others
pub extreme : (n : ℕ) (form : List ℤ) (ns : List (List ℤ)) → AreDistinct n form ns → 1 ≤ n → 0 < length ns →
    (k : ℕ) × (k < length ns) × ((factor : ℤ) (ts : List (ℕ × ℤ)) → All (λ i. i < length ns) (places ts) → All (λ i. i ≢ k) (places ts) → All (λ x. pos 0 <ℤ x) (coefficients ts) → combine (coefficients ts) (map (λ i. get_or ns i []) (places ts)) ≡ scale factor (get_or ns k []) → ⊥)
extreme n form [] d o h = absurd (omega arith)
extreme n form (x ∷ xs) d o h =
    let r = least_of n form (x ∷ xs) (length xs) d (omega arith) in
    (r.0, r.1.inside, λ factor ts w e p s. none r.0 (d.lengths r.0 [] r.1.inside) r.1.least factor ts w e p s)
  where
    none : (k : ℕ) → length (column_at (x ∷ xs) k) ≡ n → ((i : ℕ) → i < length (x ∷ xs) → i ≢ k → IsUp (apart form (column_at (x ∷ xs) k) (column_at (x ∷ xs) i))) → (factor : ℤ) (ts : List (ℕ × ℤ)) → All (λ i. i < length (x ∷ xs)) (places ts) → All (λ i. i ≢ k) (places ts) → All (λ x. pos 0 <ℤ x) (coefficients ts) →
        combine (coefficients ts) (map (λ i. get_or (x ∷ xs) i []) (places ts)) ≡ scale factor (get_or (x ∷ xs) k []) → ⊥
    none k l least factor [] w e p s =
        let a : 0 ≡ length (scale factor (get_or (x ∷ xs) k [])) = ap (length {A = ℤ}) s in
        let b = length-scale factor (get_or (x ∷ xs) k []) in
        absurd (omega arith)
    none k l least factor (t ∷ ts) w e p s =
        never_up _ (terms_up form (x ∷ xs) k t ts least w e p)
        (λ m. rw (s, lookup_scale factor (get_or (x ∷ xs) k []) m, scale-dot factor (get_or (x ∷ xs) k []) form)
        (ring (factor ∷ lookup (get_or (x ∷ xs) k []) m ∷ dot (get_or (x ∷ xs) k []) form ∷ []) (var 0 ⊗ var 1 ⊗ var 2 ⊖ var 1 ⊗ (var 0 ⊗ var 2)) (num (pos 0)) tt))
