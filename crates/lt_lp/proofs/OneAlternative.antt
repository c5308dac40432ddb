-- For each normal of a list with a form positive at all: a wall form, or a combination of the others, and never both.
use Rattle.std.proofs.Common.{subst, ◌≡◌, ◌≢◌, ◌⊎◌, inl, inr, refl, sym, ◌∙◌, ap, ap₂, ℕ, zero, suc, ◌+◌, ◌-◌, ◌≤◌, ◌<◌, ℤ, pos, negsuc, ◌+ℤ◌, ◌*ℤ◌, ◌≤ℤ◌, ◌<ℤ◌, arith, List, [], ◌∷◌, map, length, get_or}
use Rattle.std.specs.Prelude.{remove}
use Rattle.std.specs.List.{All}
use Rattle.std.proofs.lemmas.Int.{ints}
use Rattle.std.proofs.lemmas.List.{length-map}
use Rattle.std.proofs.lemmas.List.Edits.{length-remove, get_or-remove_above, get_or-remove_below}
use Rattle.std.proofs.lemmas.List.Elements.{All-head, All-tail}
use native.Mathlib.Decide.{dec_le}
use Rattle.lt_model.specs.Padded.{tail_z, lookup}
use Rattle.lt_model.specs.Vectors.{plus, scale, dot, zeros, combine}
use Rattle.lt_model.specs.Simplices.{AllOfDimension}
use Rattle.lt_model.specs.Forms.{numbers_of_form}
use Rattle.lt_model.specs.Cones.{Verdict, wall, combination, coefficients, places, IsRightVerdict}
use Rattle.lt_model.proofs.Integers.{mul_zero_z}
use Rattle.lt_model.proofs.Ring.{ring, ring_by, var, num, ◌⊕◌, ◌⊗◌}
use Rattle.lt_model.proofs.Inequalities.{mul_pos_z, mul_nonneg_z}
use Rattle.lt_model.proofs.Vectors.{dot-scale, dot_comm}
use Rattle.lt_model.proofs.Squares.{length-scale}
use Rattle.lt_model.proofs.Excess.{dot-nil, plus-dot, scale-dot}
use Rattle.lt_model.proofs.Walk.{length-combine}
use Rattle.lt_model.proofs.Hadamard.{dot_nonneg}
use Rattle.lt_tableau.specs.Numbers.{column_at}
use Rattle.lt_lattice.specs.Points.{filled}
use Rattle.lt_tableau.proofs.Sums.{lookup_none, lookup_scale, lookup_combine, sum_same}
use Rattle.lt_lp.specs.Positive.{IsPositiveAt}
use Rattle.lt_lp.specs.Terms.{terms_from}
use Rattle.lt_lp.specs.Alternatives.{IsWallForm, IsCombination, HasWallForm, IsCombined, IsNoWall, EveryPlaceHasOneAlternative}
use Rattle.lt_lp.proofs.FromZeros.{lookup_from_zeros, dot_from_zeros, length_from_zeros}
use Rattle.lt_lp.proofs.Terms.{terms_ascend, terms_within, terms_other, terms_positive, terms_sum}
use Rattle.lt_lp.proofs.Combined.{same_lists, combine-scale, all_of_dimension}
use Rattle.lt_lp.proofs.Gordan.{AllAbove, Same, IsRelation, Alternative, gordan, turned, turned_positive, combine_turned, dot_combine_pos, dot_self_zero, same_dot}
use Rattle.lt_lp.proofs.Mixes.{positive_first}

-- ---- a vector and others
wall_of : (w u : List ℤ) (vs : List (List ℤ)) → AllAbove w (map (turned (scale (negsuc 0) u) u (dot u u)) vs) → (x : List ℤ) × (dot x u ≡ pos 0) × AllAbove x vs
wall_of w u vs p =
    let c = dot u u in
    let x = plus (scale c w) (scale (negsuc 0 *ℤ dot w u) u) in
    let dx : (v : List ℤ) → dot x v ≡ c *ℤ dot w v +ℤ negsuc 0 *ℤ dot w u *ℤ dot u v = λ v. plus-dot (scale c w) (scale (negsuc 0 *ℤ dot w u) u) v ∙ ap₂ (λ (y z : ℤ). y +ℤ z) (scale-dot c w v) (scale-dot (negsuc 0 *ℤ dot w u) u v) in (
      x,
      dx u ∙ ring (dot u u ∷ dot w u ∷ []) (var 0 ⊗ var 1 ⊕ num (negsuc 0) ⊗ var 1 ⊗ var 0) (num (pos 0)) tt,
      λ i h.
          let v = column_at vs i in
          let t = turned_positive w (scale (negsuc 0) u) u c vs p i h in
          let e : dot (scale (negsuc 0) u) v *ℤ dot w u +ℤ c *ℤ dot w v ≡ dot x v =
          ap (λ (z : ℤ). z *ℤ dot w u +ℤ c *ℤ dot w v) (scale-dot (negsuc 0) u v)
          ∙ ring (dot u v ∷ dot w u ∷ c ∷ dot w v ∷ []) (num (negsuc 0) ⊗ var 0 ⊗ var 1 ⊕ var 2 ⊗ var 3) (var 2 ⊗ var 3 ⊕ num (negsuc 0) ⊗ var 1 ⊗ var 0) tt
          ∙ sym (dx v) in
          subst (λ (z : ℤ). pos 0 <ℤ z) e t,
    )

-- a positive multiple of u as a combination of the others
record IsSum (u : List ℤ) (vs : List (List ℤ)) (multiple : ℤ) (ts : List ℤ) : Type 0 where
  pub positive : pos 0 <ℤ multiple
  pub not_negative : (i : ℕ) → pos 0 ≤ℤ lookup ts i
  pub sum : Same (combine ts vs) (scale multiple u)

sum_of : (q u ts : List ℤ) (vs : List (List ℤ)) → pos 0 <ℤ dot q u → pos 0 <ℤ dot u u → AllAbove q vs → IsRelation (map (turned (scale (negsuc 0) u) u (dot u u)) vs) ts → (s : ℤ) × (xs : List ℤ) × IsSum u vs s xs
sum_of q u ts vs h k p r =
    let a = scale (negsuc 0) u in
    let c = dot u u in
    let s = negsuc 0 *ℤ dot a (combine ts vs) in
    let l : r.at < length vs = rw (length-map vs (turned a u c)) at r.at_in in
    let n : (i : ℕ) → pos 0 ≤ℤ lookup (scale c ts) i = λ i. rw (lookup_scale c ts i) (mul_nonneg_z c (lookup ts i) (omega (arith, ints)) (r.not_negative i)) in
    let same : Same (combine (scale c ts) vs) (scale s u) = λ i.
    let z : dot a (combine ts vs) *ℤ lookup u i +ℤ c *ℤ lookup (combine ts vs) i ≡ pos 0 = sym (combine_turned a u c ts vs i) ∙ r.sum i ∙ lookup_none i in
    combine-scale c ts vs i
    ∙ ring_by (c ∷ lookup (combine ts vs) i ∷ dot a (combine ts vs) ∷ lookup u i ∷ []) (var 0 ⊗ var 1) (num (negsuc 0) ⊗ var 2 ⊗ var 3) (num (pos 1)) (var 2 ⊗ var 3 ⊕ var 0 ⊗ var 1) (num (pos 0)) tt z
    ∙ sym (lookup_scale s u i) in
    let d = dot_combine_pos q (scale c ts) vs r.at p n l (rw (lookup_scale c ts r.at) (mul_pos_z c (lookup ts r.at) k r.positive)) in
    let e : dot q (combine (scale c ts) vs) ≡ s *ℤ dot q u = same_dot q (combine (scale c ts) vs) (scale s u) same ∙ dot-scale q s u in
    (s, scale c ts, record { positive = positive_first s (dot q u) (subst (λ (z : ℤ). pos 0 <ℤ z) e d) h; not_negative = n; sum = same })

square_positive : (q u : List ℤ) → pos 0 <ℤ dot q u → pos 0 <ℤ dot u u
square_positive q u h = pick (dot u u) refl
  where
    pick : (z : ℤ) → dot u u ≡ z → pos 0 <ℤ dot u u
    pick (pos (suc n)) e = omega (arith, ints)
    pick (pos zero) e = let d = same_dot q u [] (dot_self_zero u e) ∙ dot-nil q in absurd (omega (arith, ints))
    pick (negsuc n) e = let b = dot_nonneg u in absurd (omega (arith, ints))

-- Gordan's alternative for the vectors turned at u
one_of : (q u : List ℤ) (vs : List (List ℤ)) → pos 0 <ℤ dot q u → AllAbove q vs → ((x : List ℤ) × (dot x u ≡ pos 0) × AllAbove x vs) ⊎ ((s : ℤ) × (ts : List ℤ) × IsSum u vs s ts)
one_of q u vs h p = pick (gordan (length vs) (map (turned (scale (negsuc 0) u) u (dot u u)) vs) (length-map vs (turned (scale (negsuc 0) u) u (dot u u))))
  where
    pick : Alternative (map (turned (scale (negsuc 0) u) u (dot u u)) vs) → ((x : List ℤ) × (dot x u ≡ pos 0) × AllAbove x vs) ⊎ ((s : ℤ) × (ts : List ℤ) × IsSum u vs s ts)
    pick (inl a) = inl (wall_of a.0 u vs a.1)
    pick (inr a) = inr (sum_of q u a.0 vs h (square_positive q u h) p a.1)

-- a form positive at all is positive at those without the k-th
fewer_positive : (w : List ℤ) (vs : List (List ℤ)) (k : ℕ) → k < length vs → AllAbove w vs → AllAbove w (remove vs k)
fewer_positive w vs k h p i l = pick (dec_le k i)
  where
    pick : Dec (k ≤ i) → pos 0 <ℤ dot w (column_at (remove vs k) i)
    pick (yes a) = let e = length-remove vs k h in rw (get_or-remove_above vs k [] i a h) (p (i + 1) (omega arith))
    pick (no a) = rw (get_or-remove_below vs k [] i (omega arith) h) (p i (omega arith))

others_positive : (w : List ℤ) (vs : List (List ℤ)) (k : ℕ) → k < length vs → AllAbove w (remove vs k) → (i : ℕ) → i < length vs → i ≢ k → pos 0 <ℤ dot w (column_at vs i)
others_positive w vs k h p i l n = pick (dec_le k i)
  where
    pick : Dec (k ≤ i) → pos 0 <ℤ dot w (column_at vs i)
    pick (yes a) =
        let e = length-remove vs k h in
        let j : (i - 1) + 1 ≡ i = omega arith in
        let g : column_at (remove vs k) (i - 1) ≡ column_at vs i = get_or-remove_above vs k [] (i - 1) (omega arith) h ∙ ap (column_at vs) j in
        subst (λ (v : List ℤ). pos 0 <ℤ dot w v) g (p (i - 1) (omega arith))
    pick (no a) =
        let e = length-remove vs k h in
        subst (λ (v : List ℤ). pos 0 <ℤ dot w v) (get_or-remove_below vs k [] i (omega arith) h) (p i (omega arith))

above_all : (form : List ℤ) (ns : List (List ℤ)) → IsPositiveAt form ns → AllAbove form ns
above_all form ns p i h = rw (dot_comm form (column_at ns i)) (p i h)

-- ---- the wall form, with as many numbers as the normals have
length-filled : (n : ℕ) (x : List ℤ) → length (filled n x) ≡ n
length-filled zero x = refl
length-filled (suc n) x = ap suc (length-filled n (tail_z x))

dot-filled : (v x : List ℤ) → dot v (filled (length v) x) ≡ dot v x
dot-filled [] x = refl
dot-filled (a ∷ v) [] = let e = dot-filled v [] ∙ dot-nil v in let z = mul_zero_z a in omega (arith, ints)
dot-filled (a ∷ v) (b ∷ x) = ap (λ (z : ℤ). a *ℤ b +ℤ z) (dot-filled v x)

length_at : (n : ℕ) (ns : List (List ℤ)) → AllOfDimension n ns → (i : ℕ) → i < length ns → length (column_at ns i) ≡ n
length_at n [] a i h = absurd (omega arith)
length_at n (v ∷ ns) a zero h = a.0
length_at n (v ∷ ns) a (suc i) h = length_at n ns a.1 i (omega arith)

at_normal : (n : ℕ) (ns : List (List ℤ)) (x : List ℤ) → AllOfDimension n ns → (i : ℕ) → i < length ns → dot x (column_at ns i) ≡ dot (column_at ns i) (filled n x)
at_normal n ns x a i h =
    dot_comm x (column_at ns i) ∙ sym (dot-filled (column_at ns i) x) ∙ ap (λ (m : ℕ). dot (column_at ns i) (filled m x)) (length_at n ns a i h)

wall_form : (n : ℕ) (ns : List (List ℤ)) (k : ℕ) (x : List ℤ) → AllOfDimension n ns → k < length ns → dot x (column_at ns k) ≡ pos 0 → AllAbove x (remove ns k) → IsWallForm n ns k (filled n x)
wall_form n ns k x a h z p = record {
  numbers = length-filled n x;
  zero_there = sym (at_normal n ns x a k h) ∙ z;
  others = λ i l m. subst (λ (y : ℤ). pos 0 <ℤ y) (at_normal n ns x a i l) (others_positive x ns k h p i l m);
}

-- ---- the terms of a combination of the others
sum_of_terms : (ns : List (List ℤ)) (k : ℕ) (ts : List ℤ) (q : ℕ) → k < length ns →
    lookup (combine (coefficients (terms_from k (lookup ts) 0 (length (remove ns k)))) (map (λ i. get_or ns i []) (places (terms_from k (lookup ts) 0 (length (remove ns k)))))) q ≡ lookup (combine ts (remove ns k)) q
sum_of_terms ns k ts q h =
    let e = length-remove ns k h in
    let f : ℕ → ℤ = λ (i : ℕ). lookup ts (0 + i) *ℤ lookup (column_at (remove ns k) (0 + i)) q in
    let g : ℕ → ℤ = λ (i : ℕ). lookup ts i *ℤ lookup (column_at (remove ns k) i) q in
    terms_sum ns k (lookup ts) 0 (length (remove ns k)) q h (omega arith)
    ∙ sum_same (length (remove ns k)) f g (λ i l. ap g (let z : 0 + i ≡ i = omega arith in z))
    ∙ sym (lookup_combine ts (remove ns k) q)

some_terms : (form cs : List ℤ) (vs : List (List ℤ)) → pos 0 <ℤ dot form (combine cs vs) → 0 < length cs
some_terms form [] vs h = let e = dot-nil form in absurd (omega (arith, ints))
some_terms form (c ∷ cs) vs h = omega arith

combined : (n : ℕ) (ns : List (List ℤ)) (k : ℕ) (form : List ℤ) → AllOfDimension n ns → k < length ns → AllAbove form ns → (s : ℤ) (ts : List ℤ) → IsSum (column_at ns k) (remove ns k) s ts → IsCombination ns k s (terms_from k (lookup ts) 0 (length (remove ns k)))
combined n ns k form a h p s ts r = record {
  some = r.positive;
  ascending = terms_ascend k (lookup ts) 0 (length (remove ns k));
  within = within;
  other = terms_other k (lookup ts) 0 (length (remove ns k));
  positive = terms_positive k (lookup ts) 0 (length (remove ns k)) r.not_negative;
  sum = same_lists (plus (zeros (length (column_at ns k))) (combine (coefficients terms) vs)) (scale s (column_at ns k))
      (length_from_zeros (length (column_at ns k)) (combine (coefficients terms) vs) (inl (long ∙ sym (length_at n ns a k h))) ∙ sym (length-scale s (column_at ns k)))
      (λ q l. lookup_from_zeros (length (column_at ns k)) (combine (coefficients terms) vs) q ∙ same q);
}
  where
    terms : List (ℕ × ℤ)
    terms = terms_from k (lookup ts) 0 (length (remove ns k))

    vs : List (List ℤ)
    vs = map (λ i. get_or ns i []) (places terms)

    within : All (λ i. i < length ns) (places (terms_from k (lookup ts) 0 (length (remove ns k))))
    within = let e = length-remove ns k h in terms_within k (length ns) (lookup ts) 0 (length (remove ns k)) (omega arith)

    same : Same (combine (coefficients terms) vs) (scale s (column_at ns k))
    same q = sum_of_terms ns k ts q h ∙ r.sum q

    above : pos 0 <ℤ dot form (combine (coefficients terms) vs)
    above = rw (same_dot form (combine (coefficients terms) vs) (scale s (column_at ns k)) same ∙ dot-scale form s (column_at ns k)) (mul_pos_z s (dot form (column_at ns k)) r.positive (p k h))

    one_each : length (coefficients terms) ≡ length vs
    one_each = length-map terms (λ p. p.1) ∙ sym (length-map (places terms) (λ i. get_or ns i []) ∙ length-map terms (λ p. p.0))

    long : length (combine (coefficients terms) vs) ≡ n
    long = length-combine n (coefficients terms) vs (all_of_dimension n ns (places terms) (length_at n ns a) within) one_each (rw (sym one_each) (some_terms form (coefficients terms) vs above))

at_least_one : (n : ℕ) (ns : List (List ℤ)) (k : ℕ) (form : List ℤ) → AllOfDimension n ns → k < length ns → AllAbove form ns → HasWallForm n ns k ⊎ IsCombined ns k
at_least_one n ns k form a h p = pick (one_of form (column_at ns k) (remove ns k) (p k h) (fewer_positive form ns k h p))
  where
    pick : ((x : List ℤ) × (dot x (column_at ns k) ≡ pos 0) × AllAbove x (remove ns k)) ⊎ ((s : ℤ) × (ts : List ℤ) × IsSum (column_at ns k) (remove ns k) s ts) → HasWallForm n ns k ⊎ IsCombined ns k
    pick (inl x) = inl (filled n x.0, wall_form n ns k x.0 a h x.1 x.2)
    pick (inr x) = inr (x.0, terms_from k (lookup x.1) 0 (length (remove ns k)), combined n ns k form a h p x.0 x.1 x.2)

-- ---- never both: the wall form would be positive at the sum
lookup_nonneg : (cs : List ℤ) → All (λ x. pos 0 <ℤ x) cs → (i : ℕ) → pos 0 ≤ℤ lookup cs i
lookup_nonneg [] a i = rw (lookup_none i) (omega (arith, ints))
lookup_nonneg (c ∷ cs) a zero = let h = All-head (λ x. pos 0 <ℤ x) c cs a in omega (arith, ints)
lookup_nonneg (c ∷ cs) a (suc i) = lookup_nonneg cs (All-tail (λ x. pos 0 <ℤ x) c cs a) i

above_places : (n : ℕ) (ns : List (List ℤ)) (k : ℕ) (w : List ℤ) (ps : List ℕ) → IsWallForm n ns k w → All (λ i. i < length ns) ps → All (λ i. i ≢ k) ps → AllAbove w (map (λ i. get_or ns i []) ps)
above_places n ns k w [] f a b i h = absurd (omega arith)
above_places n ns k w (p ∷ ps) f a b zero h = rw (dot_comm w (get_or ns p [])) (f.others p (All-head (λ i. i < length ns) p ps a) (All-head (λ i. i ≢ k) p ps b))
above_places n ns k w (p ∷ ps) f a b (suc i) h = above_places n ns k w ps f (All-tail (λ i. i < length ns) p ps a) (All-tail (λ i. i ≢ k) p ps b) i (omega arith)

never_both : (n : ℕ) (ns : List (List ℤ)) (k : ℕ) (form : List ℤ) → k < length ns → AllAbove form ns → (w : List ℤ) → IsWallForm n ns k w → (factor : ℤ) (terms : List (ℕ × ℤ)) → IsCombination ns k factor terms → ⊥
never_both n ns k form h p w f factor [] c =
    let e : pos 0 ≡ factor *ℤ dot form (column_at ns k) = sym (dot_from_zeros form (length (column_at ns k)) [] ∙ dot-nil form) ∙ ap (dot form) c.sum ∙ dot-scale form factor (column_at ns k) in
    let m = mul_pos_z factor (dot form (column_at ns k)) c.some (p k h) in
    absurd (omega (arith, ints))
never_both n ns k form h p w f factor (t ∷ terms) c =
    let vs : List (List ℤ) = map (λ i. get_or ns i []) (places (t ∷ terms)) in
    let e : dot w (combine (coefficients (t ∷ terms)) vs) ≡ pos 0 = sym (dot_from_zeros w (length (column_at ns k)) (combine (coefficients (t ∷ terms)) vs)) ∙ ap (dot w) c.sum ∙ dot-scale w factor (column_at ns k) ∙ ap (λ (z : ℤ). factor *ℤ z) (dot_comm w (column_at ns k) ∙ f.zero_there) ∙ mul_zero_z factor in
    let m = dot_combine_pos w (coefficients (t ∷ terms)) vs 0 (above_places n ns k w (places (t ∷ terms)) f c.within c.other) (lookup_nonneg (coefficients (t ∷ terms)) c.positive) (omega arith) (All-head (λ x. pos 0 <ℤ x) t.1 (coefficients terms) c.positive) in
    absurd (omega (arith, ints))

pub one_alternative : EveryPlaceHasOneAlternative
one_alternative n ns k form a h p =
    let q = above_all form ns p in
    (at_least_one n ns k form a h q, λ w c. never_both n ns k form h q w.0 w.1 c.0 c.1 c.2)

-- a right combination excludes a wall form
pub no_wall : (d : ℕ) (ns : List (List ℤ)) (k : ℕ) (form : List ℤ) (v : Verdict) → k < length ns → IsPositiveAt form ns → IsRightVerdict d ns k v → IsNoWall d ns k v
no_wall d ns k form (wall w) h p r = tt
no_wall d ns k form (combination factor terms) h p r = λ w.
    never_both (numbers_of_form d) ns k form h (above_all form ns p) w.0 w.1 factor terms (record {
      some = r.some;
      ascending = r.ascending;
      within = r.within;
      other = r.other;
      positive = r.positive;
      sum = r.sum;
    })
