-- Gordan's alternative: a form positive at all vectors of a list, or a combination of them that is 0.
use Rattle.std.proofs.Common.{subst, ◌≡◌, ◌⊎◌, inl, inr, refl, sym, ◌∙◌, ap, ap₂, ℕ, zero, suc, ◌+◌, ◌<◌, ℤ, pos, negsuc, ◌+ℤ◌, ◌*ℤ◌, ◌≤ℤ◌, ◌<ℤ◌, unsigned_abs, arith, List, [], ◌∷◌, map, length}
use Rattle.std.proofs.lemmas.Int.{ints}
use Rattle.std.proofs.lemmas.List.{length-map, get_or-map}
use Rattle.lt_model.specs.Padded.{head_z, tail_z, lookup}
use Rattle.lt_model.specs.Vectors.{plus, scale, dot, combine}
use Rattle.lt_model.proofs.Integers.{mul_zero_z, zero_mul_z, zero_add_z}
use Rattle.lt_model.proofs.Ring.{ring, var, num, ◌⊕◌, ◌⊗◌}
use Rattle.lt_model.proofs.Inequalities.{mul_pos_z, mul_nonneg_z, mul_le_mul_z, square_nonneg_z}
use Rattle.lt_model.proofs.Vectors.{dot-plus, dot-scale}
use Rattle.lt_model.proofs.Excess.{dot-nil, plus-dot, scale-dot}
use Rattle.lt_model.proofs.Hadamard.{dot_nonneg}
use Rattle.lt_tableau.specs.Numbers.{column_at}
use Rattle.lt_tableau.proofs.Sums.{lookup_none, lookup_plus, lookup_scale}
use Rattle.lt_lp.proofs.Combined.{combine-scale}

-- the form is positive at each of the vectors
abbrev pub AllAbove : List ℤ → List (List ℤ) → Type 0
AllAbove w vs = (i : ℕ) → i < length vs → pos 0 <ℤ dot w (column_at vs i)

-- lists that stand for the same numbers, followed by zeros
abbrev pub Same : List ℤ → List ℤ → Type 0
Same x y = (q : ℕ) → lookup x q ≡ lookup y q

-- a relation: the numbers are not negative, one is positive, and they combine the vectors to 0
pub record IsRelation (vs : List (List ℤ)) (ts : List ℤ) : Type 0 where
  pub not_negative : (i : ℕ) → pos 0 ≤ℤ lookup ts i
  pub at : ℕ
  pub at_in : at < length vs
  pub positive : pos 0 <ℤ lookup ts at
  pub sum : Same (combine ts vs) []

-- ---- vectors with the same numbers
dot_first : (a : ℤ) (w x : List ℤ) → dot (a ∷ w) x ≡ a *ℤ head_z x +ℤ dot w (tail_z x)
dot_first a w [] = let e = dot-nil w in let z = mul_zero_z a in omega (arith, ints)
dot_first a w (b ∷ x) = refl

pub same_dot : (w x y : List ℤ) → Same x y → dot w x ≡ dot w y
same_dot [] x y s = refl
same_dot (a ∷ w) x y s =
    dot_first a w x ∙ ap₂ (λ (p q : ℤ). a *ℤ p +ℤ q) (s 0) (same_dot w (tail_z x) (tail_z y) (λ q. s (suc q))) ∙ sym (dot_first a w y)

square_zero : (x : ℤ) → x *ℤ x ≡ pos 0 → x ≡ pos 0
square_zero (pos zero) e = refl
square_zero (pos (suc n)) e =
    let a = mul_pos_z (pos (suc n)) (pos (suc n)) (omega (arith, ints)) (omega (arith, ints)) in
    absurd (omega (arith, ints))
square_zero (negsuc n) e =
    let a = mul_pos_z (pos (suc n)) (pos (suc n)) (omega (arith, ints)) (omega (arith, ints)) in
    absurd (omega (arith, ints))

pub dot_self_zero : (u : List ℤ) → dot u u ≡ pos 0 → Same u []
dot_self_zero [] e q = refl
dot_self_zero (x ∷ u) e zero =
    let a = square_nonneg_z x in
    let b = dot_nonneg u in
    square_zero x (omega (arith, ints))
dot_self_zero (x ∷ u) e (suc q) =
    let a = square_nonneg_z x in
    let b = dot_nonneg u in
    dot_self_zero u (omega (arith, ints)) q ∙ lookup_none q ∙ sym (lookup_none (suc q))

-- ---- the form over a combination
dot_combine : (w : List ℤ) (t : ℤ) (ts v : List ℤ) (vs : List (List ℤ)) → dot w (combine (t ∷ ts) (v ∷ vs)) ≡ t *ℤ dot w v +ℤ dot w (combine ts vs)
dot_combine w t ts v vs = dot-plus w (scale t v) (combine ts vs) ∙ ap (λ (z : ℤ). z +ℤ dot w (combine ts vs)) (dot-scale w t v)

dot_combine_nonneg : (w ts : List ℤ) (vs : List (List ℤ)) → AllAbove w vs → ((i : ℕ) → pos 0 ≤ℤ lookup ts i) → pos 0 ≤ℤ dot w (combine ts vs)
dot_combine_nonneg w [] vs p n = rw (dot-nil w) (omega (arith, ints))
dot_combine_nonneg w (t ∷ ts) [] p n = rw (dot-nil w) (omega (arith, ints))
dot_combine_nonneg w (t ∷ ts) (v ∷ vs) p n =
    let a = dot_combine_nonneg w ts vs (λ i h. p (suc i) (omega arith)) (λ i. n (suc i)) in
    let pv : pos 0 <ℤ dot w v = p 0 (omega arith) in
    let b = mul_nonneg_z t (dot w v) (n 0) (omega (arith, ints)) in
    rw (dot_combine w t ts v vs) (omega (arith, ints))

pub dot_combine_pos : (w ts : List ℤ) (vs : List (List ℤ)) (at : ℕ) → AllAbove w vs → ((i : ℕ) → pos 0 ≤ℤ lookup ts i) → at < length vs → pos 0 <ℤ lookup ts at → pos 0 <ℤ dot w (combine ts vs)
dot_combine_pos w [] vs at p n h t = let e = lookup_none at in absurd (omega (arith, ints))
dot_combine_pos w (x ∷ ts) [] at p n h t = absurd (omega arith)
dot_combine_pos w (x ∷ ts) (v ∷ vs) zero p n h t =
    let a = dot_combine_nonneg w ts vs (λ i h. p (suc i) (omega arith)) (λ i. n (suc i)) in
    let b = mul_pos_z x (dot w v) t (p 0 (omega arith)) in
    rw (dot_combine w x ts v vs) (omega (arith, ints))
dot_combine_pos w (x ∷ ts) (v ∷ vs) (suc at) p n h t =
    let a = dot_combine_pos w ts vs at (λ i h. p (suc i) (omega arith)) (λ i. n (suc i)) (omega arith) t in
    let pv : pos 0 <ℤ dot w v = p 0 (omega arith) in
    let b = mul_nonneg_z x (dot w v) (n 0) (omega (arith, ints)) in
    rw (dot_combine w x ts v vs) (omega (arith, ints))

-- ---- each vector turned: ⟨a, v⟩ u + c v
abbrev pub turned : List ℤ → List ℤ → ℤ → List ℤ → List ℤ
turned a u c v = plus (scale (dot a v) u) (scale c v)

dot_turned : (w a u : List ℤ) (c : ℤ) (v : List ℤ) → dot w (turned a u c v) ≡ dot a v *ℤ dot w u +ℤ c *ℤ dot w v
dot_turned w a u c v = dot-plus w (scale (dot a v) u) (scale c v) ∙ ap₂ (λ (x y : ℤ). x +ℤ y) (dot-scale w (dot a v) u) (dot-scale w c v)

pub combine_turned : (a u : List ℤ) (c : ℤ) (ts : List ℤ) (vs : List (List ℤ)) (q : ℕ) → lookup (combine ts (map (turned a u c) vs)) q ≡ dot a (combine ts vs) *ℤ lookup u q +ℤ c *ℤ lookup (combine ts vs) q
combine_turned a u c [] vs q = rw (dot-nil a, lookup_none q) (ring (lookup u q ∷ c ∷ []) (num (pos 0)) (num (pos 0) ⊗ var 0 ⊕ var 1 ⊗ num (pos 0)) tt)
combine_turned a u c (t ∷ ts) [] q = rw (dot-nil a, lookup_none q) (ring (lookup u q ∷ c ∷ []) (num (pos 0)) (num (pos 0) ⊗ var 0 ⊕ var 1 ⊗ num (pos 0)) tt)
combine_turned a u c (t ∷ ts) (v ∷ vs) q =
    let e = combine_turned a u c ts vs q in
    let l : lookup (combine (t ∷ ts) (map (turned a u c) (v ∷ vs))) q ≡ t *ℤ (dot a v *ℤ lookup u q +ℤ c *ℤ lookup v q) +ℤ lookup (combine ts (map (turned a u c) vs)) q =
    lookup_plus (scale t (turned a u c v)) (combine ts (map (turned a u c) vs)) q
    ∙ ap (λ (z : ℤ). z +ℤ lookup (combine ts (map (turned a u c) vs)) q) (lookup_scale t (turned a u c v) q ∙ ap (λ (z : ℤ). t *ℤ z) (lookup_plus (scale (dot a v) u) (scale c v) q ∙ ap₂ (λ (x y : ℤ). x +ℤ y) (lookup_scale (dot a v) u q) (lookup_scale c v q))) in
    let d : dot a (combine (t ∷ ts) (v ∷ vs)) ≡ t *ℤ dot a v +ℤ dot a (combine ts vs) =
    dot_combine a t ts v vs in
    let m : lookup (combine (t ∷ ts) (v ∷ vs)) q ≡ t *ℤ lookup v q +ℤ lookup (combine ts vs) q =
    lookup_plus (scale t v) (combine ts vs) q ∙ ap (λ (z : ℤ). z +ℤ lookup (combine ts vs) q) (lookup_scale t v q) in
    l ∙ ap (λ (z : ℤ). t *ℤ (dot a v *ℤ lookup u q +ℤ c *ℤ lookup v q) +ℤ z) e
    ∙ ring (t ∷ dot a v ∷ lookup u q ∷ c ∷ lookup v q ∷ dot a (combine ts vs) ∷ lookup (combine ts vs) q ∷ [])
    (var 0 ⊗ (var 1 ⊗ var 2 ⊕ var 3 ⊗ var 4) ⊕ (var 5 ⊗ var 2 ⊕ var 3 ⊗ var 6))
    ((var 0 ⊗ var 1 ⊕ var 5) ⊗ var 2 ⊕ var 3 ⊗ (var 0 ⊗ var 4 ⊕ var 6)) tt
    ∙ ap₂ (λ (x y : ℤ). x *ℤ lookup u q +ℤ c *ℤ y) (sym d) (sym m)

-- a form positive at the turned vectors
pub turned_positive : (w a u : List ℤ) (c : ℤ) (vs : List (List ℤ)) → AllAbove w (map (turned a u c) vs) → (i : ℕ) → i < length vs → pos 0 <ℤ (dot a (column_at vs i) *ℤ dot w u +ℤ c *ℤ dot w (column_at vs i))
turned_positive w a u c vs p i h =
    let x = p i (rw (length-map vs (turned a u c)) h) in
    let y : pos 0 <ℤ dot w (turned a u c (column_at vs i)) = rw (← get_or-map (turned a u c) vs i [] [] h) x in
    subst (λ (z : ℤ). pos 0 <ℤ z) (dot_turned w a u c (column_at vs i)) y

-- ---- a number above a form at all of the vectors
above : (w : List ℤ) (vs : List (List ℤ)) → (m : ℕ) × ((i : ℕ) → i < length vs → dot w (column_at vs i) <ℤ pos m)
above w [] = (0, λ i h. absurd (omega arith))
above w (v ∷ vs) =
    let r = above w vs in
    (suc (unsigned_abs (dot w v)) + r.0, step r.0 r.1)
  where
    step : (m : ℕ) → ((i : ℕ) → i < length vs → dot w (column_at vs i) <ℤ pos m) → (i : ℕ) → i < length (v ∷ vs) → dot w (column_at (v ∷ vs) i) <ℤ pos (suc (unsigned_abs (dot w v)) + m)
    step m f zero h = omega (arith, ints)
    step m f (suc i) h = let g = f i (omega arith) in omega (arith, ints)

-- m w + x for a large m, where w is positive
lifted : (w x : List ℤ) (vs : List (List ℤ)) → AllAbove w vs → (m : ℕ) × AllAbove (plus (scale (pos m) w) x) vs
lifted w x vs p =
    let r = above (scale (negsuc 0) x) vs in
    (r.0, λ i h. step r.0 i (r.1 i h) (p i h))
  where
    step : (m i : ℕ) → dot (scale (negsuc 0) x) (column_at vs i) <ℤ pos m → pos 0 <ℤ dot w (column_at vs i) → pos 0 <ℤ dot (plus (scale (pos m) w) x) (column_at vs i)
    step m i a b =
        let v = column_at vs i in
        let e = scale-dot (negsuc 0) x v in
        let k = mul_le_mul_z (pos m) (pos 1) (dot w v) (omega (arith, ints)) (omega (arith, ints)) in
        rw (plus-dot (scale (pos m) w) x v, scale-dot (pos m) w v) (omega (arith, ints))

-- ---- the alternative
abbrev pub Alternative : List (List ℤ) → Type 0
Alternative vs = ((w : List ℤ) × AllAbove w vs) ⊎ ((ts : List ℤ) × IsRelation vs ts)

cons_positive : (w u : List ℤ) (vs : List (List ℤ)) → pos 0 <ℤ dot w u → AllAbove w vs → AllAbove w (u ∷ vs)
cons_positive w u vs h p zero l = h
cons_positive w u vs h p (suc i) l = p i (omega arith)

-- the new vector, where a form is positive at the others and negative at it: from a form at the turned vectors
from_form : (w w' u : List ℤ) (vs : List (List ℤ)) → dot w u <ℤ pos 0 → AllAbove w' (map (turned w u (negsuc 0 *ℤ dot w u)) vs) → (x : List ℤ) × AllAbove x (u ∷ vs)
from_form w w' u vs n p =
    let c = negsuc 0 *ℤ dot w u in
    let a = dot w' u in
    let y = plus (scale a w) (scale c w') in
    let dy : (v : List ℤ) → dot y v ≡ a *ℤ dot w v +ℤ c *ℤ dot w' v = λ v. plus-dot (scale a w) (scale c w') v ∙ ap₂ (λ (x z : ℤ). x +ℤ z) (scale-dot a w v) (scale-dot c w' v) in
    let py : AllAbove y vs = λ i h.
    let v = column_at vs i in
    let t : pos 0 <ℤ (dot w v *ℤ a +ℤ c *ℤ dot w' v) = turned_positive w' w u c vs p i h in
    subst (λ (z : ℤ). pos 0 <ℤ z) (ring (dot w v ∷ a ∷ c ∷ dot w' v ∷ []) (var 0 ⊗ var 1 ⊕ var 2 ⊗ var 3) (var 1 ⊗ var 0 ⊕ var 2 ⊗ var 3) tt ∙ sym (dy v)) t in
    let r = lifted y (scale (negsuc 0) w) vs py in
    let e : dot (plus (scale (pos r.0) y) (scale (negsuc 0) w)) u ≡ negsuc 0 *ℤ dot w u =
    plus-dot (scale (pos r.0) y) (scale (negsuc 0) w) u
    ∙ ap₂ (λ (x z : ℤ). x +ℤ z) (scale-dot (pos r.0) y u ∙ ap (λ (z : ℤ). pos r.0 *ℤ z) (dy u)) (scale-dot (negsuc 0) w u)
    ∙ ring (pos r.0 ∷ dot w' u ∷ dot w u ∷ []) (var 0 ⊗ (var 1 ⊗ var 2 ⊕ num (negsuc 0) ⊗ var 2 ⊗ var 1) ⊕ num (negsuc 0) ⊗ var 2) (num (negsuc 0) ⊗ var 2) tt in
    (plus (scale (pos r.0) y) (scale (negsuc 0) w), cons_positive (plus (scale (pos r.0) y) (scale (negsuc 0) w)) u vs (omega (arith, ints)) r.1)

-- .. from a relation of the turned vectors
from_relation : (w u ts : List ℤ) (vs : List (List ℤ)) → AllAbove w vs → dot w u <ℤ pos 0 → IsRelation (map (turned w u (negsuc 0 *ℤ dot w u)) vs) ts → (x : List ℤ) × IsRelation (u ∷ vs) x
from_relation w u ts vs p n r =
    let c = negsuc 0 *ℤ dot w u in
    let s = dot w (combine ts vs) in
    let l : r.at < length vs = rw (length-map vs (turned w u c)) at r.at_in in
    let sp : pos 0 <ℤ s = dot_combine_pos w ts vs r.at p r.not_negative l r.positive in
    let cn : pos 0 ≤ℤ c = omega (arith, ints) in (
      s ∷ scale c ts,
      record {
        not_negative = signs c s cn sp r.not_negative;
        at = 0;
        at_in = omega arith;
        positive = sp;
        sum = λ q. lookup_plus (scale s u) (combine (scale c ts) vs) q ∙ ap₂ (λ (x z : ℤ). x +ℤ z) (lookup_scale s u q) (combine-scale c ts vs q) ∙ sym (combine_turned w u c ts vs q) ∙ r.sum q;
      },
    )
  where
    signs : (c s : ℤ) → pos 0 ≤ℤ c → pos 0 <ℤ s → ((i : ℕ) → pos 0 ≤ℤ lookup ts i) → (i : ℕ) → pos 0 ≤ℤ lookup (s ∷ scale c ts) i
    signs c s a b f zero = omega (arith, ints)
    signs c s a b f (suc i) = let m = mul_nonneg_z c (lookup ts i) a (f i) in rw (lookup_scale c ts i) m

gordan_step : (u w : List ℤ) (vs : List (List ℤ)) → pos 0 <ℤ dot u u → AllAbove w vs → Alternative (map (turned w u (negsuc 0 *ℤ dot w u)) vs) → Alternative (u ∷ vs)
gordan_step u w vs h p alt = pick (dot w u) refl
  where
    pick : (z : ℤ) → dot w u ≡ z → Alternative (u ∷ vs)
    pick (pos (suc n)) e = inl (w, cons_positive w u vs (omega (arith, ints)) p)
    pick (pos zero) e =
        let r = lifted w u vs p in
        let d : dot (plus (scale (pos r.0) w) u) u ≡ dot u u = plus-dot (scale (pos r.0) w) u u ∙ ap (λ (z : ℤ). z +ℤ dot u u) (scale-dot (pos r.0) w u ∙ ap (λ (z : ℤ). pos r.0 *ℤ z) e ∙ mul_zero_z (pos r.0)) ∙ zero_add_z (dot u u) in
        inl (plus (scale (pos r.0) w) u, cons_positive (plus (scale (pos r.0) w) u) u vs (omega (arith, ints)) r.1)
    pick (negsuc n) e = elim alt [
      | inl a ↦ inl (from_form w a.0 u vs (omega (arith, ints)) a.1)
      | inr a ↦ inr (from_relation w u a.0 vs p (omega (arith, ints)) a.1)
    ]

-- a new relation from one of fewer vectors, and from a vector that is 0
later_relation : (u ts : List ℤ) (vs : List (List ℤ)) → IsRelation vs ts → IsRelation (u ∷ vs) (pos 0 ∷ ts)
later_relation u ts vs r = record {
  not_negative = signs r.not_negative;
  at = suc r.at;
  at_in = let a = r.at_in in omega arith;
  positive = r.positive;
  sum = λ q. lookup_plus (scale (pos 0) u) (combine ts vs) q ∙ ap₂ (λ (x z : ℤ). x +ℤ z) (lookup_scale (pos 0) u q ∙ zero_mul_z (lookup u q)) (r.sum q) ∙ zero_add_z (lookup [] q);
}
  where
    signs : ((i : ℕ) → pos 0 ≤ℤ lookup ts i) → (i : ℕ) → pos 0 ≤ℤ lookup (pos 0 ∷ ts) i
    signs f zero = omega (arith, ints)
    signs f (suc i) = f i

zero_relation : (u : List ℤ) (vs : List (List ℤ)) → Same u [] → IsRelation (u ∷ vs) (pos 1 ∷ [])
zero_relation u vs s = record {
  not_negative = signs;
  at = 0;
  at_in = omega arith;
  positive = omega (arith, ints);
  sum = λ q. lookup_plus (scale (pos 1) u) (combine [] vs) q ∙ ap₂ (λ (x z : ℤ). x +ℤ z) (lookup_scale (pos 1) u q ∙ ap (λ (z : ℤ). pos 1 *ℤ z) (s q ∙ lookup_none q)) (lookup_none q) ∙ sym (lookup_none q);
}
  where
    signs : (i : ℕ) → pos 0 ≤ℤ lookup (pos 1 ∷ []) i
    signs zero = omega (arith, ints)
    signs (suc i) = rw (lookup_none i) (omega (arith, ints))

pub gordan : (m : ℕ) (vs : List (List ℤ)) → length vs ≡ m → Alternative vs
gordan m [] e = inl ([], λ i h. absurd (omega arith))
gordan zero (u ∷ vs) e = absurd (omega arith)
gordan (suc m) (u ∷ vs) e = start (dot u u) refl (gordan m vs (omega arith)) (λ (w : List ℤ). gordan m (map (turned w u (negsuc 0 *ℤ dot w u)) vs) (length-map vs (turned w u (negsuc 0 *ℤ dot w u)) ∙ omega arith))
  where
    start : (z : ℤ) → dot u u ≡ z → Alternative vs → ((w : List ℤ) → Alternative (map (turned w u (negsuc 0 *ℤ dot w u)) vs)) → Alternative (u ∷ vs)
    start (negsuc n) e a f = let b = dot_nonneg u in absurd (omega (arith, ints))
    start (pos zero) e a f = inr (pos 1 ∷ [], zero_relation u vs (dot_self_zero u e))
    start (pos (suc n)) e (inl a) f = gordan_step u a.0 vs (omega (arith, ints)) a.1 (f a.0)
    start (pos (suc n)) e (inr a) f = inr (pos 0 ∷ a.0, later_relation u a.0 vs a.1)
