-- The entries of a text are refused for one reason at most.
use Rattle.std.proofs.Common.{◌≡◌, ◌≢◌, ◌⊎◌, ℕ, zero, suc, ℤ, ◌*◌, ◌<◌, ◌≤◌, inl, inr, refl, sym, ap, ◌∙◌, subst, arith, List, [], length, get_or}
use Rattle.std.proofs.lemmas.Bool.{cases_lt, cases_order}
use Rattle.std.proofs.lemmas.List.Elements.{Contains-get_or}
use Rattle.lt_model.specs.Cones.{IsRightCone}
use Rattle.lt_model.specs.Flat.{rows, flat}
use Rattle.lt_model.specs.Walls.{AreRegulators}
use Rattle.lt_model.specs.Atlases.{Classes}
use Rattle.lt_model.specs.Order.{IsBefore}
use Rattle.lt_model.proofs.Flat.{flat-rows}
use Rattle.lt_cone.specs.Faults.{IsFault}
use Rattle.lt_cone.specs.declared.error.ConeFault.TheVariants.{Wrong}
use Rattle.lt_cone.proofs.NoFault.{none_wrong}
use Rattle.lt_read.proofs.OneFault.{one_fault}
use Rattle.lt_core.proofs.Crossings.{HasForm, across_form, across_laws}
use Rattle.lt_core.proofs.Reaching.{classes_of_form}
use Rattle.lt_laws.proofs.RegulatorLists.{has_regulators}
use Rattle.lt_match.specs.Matches.{IsFirstMatch}
use Rattle.lt_grammar.specs.Texts.{Entry}
use Rattle.lt_read.specs.Refused.{entry_at, at, HasOrigin, IsListed, HavePassed, IsCrossed, AreTwins, IsRefused}
use Rattle.lt_read.specs.declared.refusals.Refusal.{Refusal}
use Rattle.lt_read.specs.declared.refusals.Refusal.TheVariants.{TooLong, Syntax, OtherDimension, NotPrincipal, BadOrigin, BadSimplices, BadCone, BadCross, Twin}
use Rattle.lt_read.proofs.Passing.{listed_same}
use Rattle.lt_read.proofs.OnePassing.{one_listed, one_passed}
use Rattle.lt_read.proofs.Earlier.{front_passed, same_front}
use Rattle.lt_match.proofs.OneMatch.{one_match}

-- ---- places in order

pub places_cases : (p q : ℕ × ℕ) → ((p.0 ≡ q.0) × (p.1 ≡ q.1)) ⊎ (IsBefore p q ⊎ IsBefore q p)
places_cases p q =
    elim (cases_order p.0 q.0) [
      | inr (inl l) ↦ inr (inl (inl l))
      | inr (inr l) ↦ inr (inr (inl l))
      | inl e ↦ elim (cases_order p.1 q.1) [
        | inl f ↦ inl (e, f)
        | inr (inl l) ↦ inr (inl (inr (e, l)))
        | inr (inr l) ↦ inr (inr (inr (sym e, l)))
      ]
    ]

-- ---- entries at which reading stops

listed_origin : (version d : ℕ) (es : List Entry) (ts : List Classes) (k : ℕ) (t : Classes) → k ≢ 0 → IsListed version d es ts k t → HasOrigin d es k
listed_origin version d es ts zero t ne h = absurd (ne refl)
listed_origin version d es ts (suc k) t ne h = h.0

listed_form : (version d : ℕ) (es : List Entry) (ts : List Classes) (k : ℕ) (t : Classes) → 2 ≤ d → IsListed version d es ts k t → HasForm d t
listed_form version d es ts zero t low h = (across_laws d low).principal t h.0
listed_form version d es ts (suc k) t low h = across_form d _ t _ h.1

module _ (version d : ℕ) (es : List Entry) (low : 2 ≤ d) (some : 0 < length es) where
  abbrev Passed : ℕ → Type 0
  Passed n = (ts : List Classes) × HavePassed version d es ts n

  -- the entries before have passed, and this one doesn't
  record Stops (k : ℕ) : Type 0 where
    before : Passed k
    within : k < length es
    here : Passed (suc k) → ⊥

  not_farther : (k n : ℕ) → Stops k → Passed n → n ≤ k
  not_farther k n s (ts, h) =
      elim (cases_lt k n) [
        | inl l ↦ absurd (s.here (_, front_passed version d es ts (suc k) n (omega (arith, l)) h))
        | inr le ↦ le
      ]

  one_stop : (k l : ℕ) → Stops k → Stops l → k ≡ l
  one_stop k l s r = let a = not_farther k l s r.before in let b = not_farther l k r s.before in omega (arith, a, b)

  none_stops : (k : ℕ) → Stops k → Passed (length es) → ⊥
  none_stops k s p = let a = not_farther k (length es) s p in let b = s.within in omega (arith, a, b)

  -- what is listed after different ones that have passed is the same
  listed_on : (k : ℕ) (us ts : List Classes) (t : Classes) → HavePassed version d es us k → HavePassed version d es ts (suc k) → IsListed version d es us k t → t ≡ at ts k
  listed_on k us ts t g h x = one_listed version d es us ts k t (at ts k) low (same_front version d es us ts k (suc k) low (omega arith) g h) x (h.listed k (omega arith))

  -- the entry at which a refusal of an entry stops
  abbrev entry_of : Refusal → ℕ
  entry_of NotPrincipal = 0
  entry_of (BadOrigin k) = k
  entry_of (BadSimplices k) = k
  entry_of (BadCone k row) = k
  entry_of _ = 0

  abbrev IsOfEntry : Refusal → Type 0
  IsOfEntry NotPrincipal = Unit {0}
  IsOfEntry (BadOrigin k) = Unit {0}
  IsOfEntry (BadSimplices k) = Unit {0}
  IsOfEntry (BadCone k row) = Unit {0}
  IsOfEntry _ = ⊥

  stops : (r : Refusal) → IsOfEntry r → IsRefused version d es r → Stops (entry_of r)
  stops NotPrincipal o x = record {
    before = ([], record { long = refl; listed = λ k l. absurd (omega (arith, l)); cones = λ k l. absurd (omega (arith, l)) });
    within = some;
    here = λ p. x (at p.0 0) (p.1.listed 0 (omega arith));
  }
  stops (BadOrigin k) o (us, g, l, ne, none) = record {
    before = (us, g);
    within = l;
    here = λ p. none (listed_origin version d es p.0 k (at p.0 k) ne (p.1.listed k (omega arith)));
  }
  stops (BadSimplices k) o (us, g, l, origin, none) = record {
    before = (us, g);
    within = l;
    here = λ p. none (at p.0 k) (listed_same version d es p.0 us k (at p.0 k) (λ i s. sym (same_front version d es us p.0 k (suc k) low (omega arith) g p.1 i s)) (p.1.listed k (omega arith)));
  }
  stops (BadCone k row) o (us, g, l, (t, x, f)) = record {
    before = (us, g);
    within = l;
    here = λ p.
        let is : t ≡ at p.0 k = listed_on k us p.0 t g p.1 x in
        let right = subst (λ (z : Classes). IsRightCone d z (entry_at es k).cone) (sym is) (p.1.cones k (omega arith)) in
        none_wrong d t (entry_at es k).cone _ row right.regulators right (f _ right.regulators);
  }
  stops TooLong o x = absurd x
  stops (Syntax line) o x = absurd x
  stops (OtherDimension found) o x = absurd x
  stops (BadCross k f) o x = absurd o
  stops (Twin i j u) o x = absurd o

  -- ---- two refusals of one entry

  principal_listed : (k : ℕ) (us : List Classes) (t : Classes) → 0 ≡ k → IsRefused version d es NotPrincipal → IsListed version d es us k t → ⊥
  principal_listed zero us t e x y = x t y
  principal_listed (suc k) us t e x y = absurd (omega (arith, e))

  first_has_none : (k : ℕ) → 0 ≡ k → HasOrigin d es k → ⊥
  first_has_none k e o = let l = o.earlier in absurd (omega (arith, l, e))

  origin_listed : (k l row : ℕ) → k ≡ l → IsRefused version d es (BadOrigin k) → IsRefused version d es (BadCone l row) → ⊥
  origin_listed k l row e (us, g, s, ne, none) (ts, h, r, (t, x, f)) = none (subst (HasOrigin d es) (sym e) (listed_origin version d es ts l t (λ z. ne (e ∙ z)) x))

  simplices_listed : (k l row : ℕ) → k ≡ l → IsRefused version d es (BadSimplices k) → IsRefused version d es (BadCone l row) → ⊥
  simplices_listed k l row e (us, g, s, o, none) (ts, h, r, (t, x, f)) =
      let there : IsListed version d es ts k t = subst (λ (n : ℕ). IsListed version d es ts n t) (sym e) x in
      let same : ts ≡ us = one_passed version d es ts us k low (subst (HavePassed version d es ts) (sym e) h) g in
      none t (subst (λ (z : List Classes). IsListed version d es z k t) same there)

  one_row : (k l m n : ℕ) → k ≡ l → IsRefused version d es (BadCone k m) → IsRefused version d es (BadCone l n) → m ≡ n
  one_row k l m n e (us, g, s, (t, x, f)) (ts, h, r, (u, y, w)) =
      let there : IsListed version d es ts k u = subst (λ (i : ℕ). IsListed version d es ts i u) (sym e) y in
      let same : us ≡ ts = one_passed version d es us ts k low g (subst (HavePassed version d es ts) (sym e) h) in
      let is : t ≡ u = one_listed version d es us ts k t u low (λ i z. ap (λ v. at v i) same) x there in
      let form = listed_form version d es us k t low x in
      let ns = has_regulators d form.0 t form.1 in
      one_fault d ns.0 (entry_at es k).cone m n (f ns.0 ns.1) (subst (λ (i : ℕ). IsFault d ns.0 (entry_at es i).cone (Wrong n)) (sym e) (w ns.0 (subst (λ (z : Classes). AreRegulators d z ns.0) is ns.1)))

  one_of_entry : (r s : Refusal) → IsOfEntry r → IsOfEntry s → entry_of r ≡ entry_of s → IsRefused version d es r → IsRefused version d es s → r ≡ s
  one_of_entry NotPrincipal NotPrincipal o p e x y = refl
  one_of_entry NotPrincipal (BadOrigin k) o p e x y = absurd (y.3 (sym e))
  one_of_entry NotPrincipal (BadSimplices k) o p e x y = absurd (first_has_none k e y.3)
  one_of_entry NotPrincipal (BadCone k row) o p e x y = absurd (principal_listed k y.0 y.3.0 e x y.3.1)
  one_of_entry NotPrincipal _ o p e x y = absurd p
  one_of_entry (BadOrigin k) NotPrincipal o p e x y = absurd (x.3 e)
  one_of_entry (BadOrigin k) (BadOrigin l) o p e x y = ap BadOrigin e
  one_of_entry (BadOrigin k) (BadSimplices l) o p e x y = absurd (x.4 (subst (HasOrigin d es) (sym e) y.3))
  one_of_entry (BadOrigin k) (BadCone l row) o p e x y = absurd (origin_listed k l row e x y)
  one_of_entry (BadOrigin k) _ o p e x y = absurd p
  one_of_entry (BadSimplices k) NotPrincipal o p e x y = absurd (first_has_none k (sym e) x.3)
  one_of_entry (BadSimplices k) (BadOrigin l) o p e x y = absurd (y.4 (subst (HasOrigin d es) e x.3))
  one_of_entry (BadSimplices k) (BadSimplices l) o p e x y = ap BadSimplices e
  one_of_entry (BadSimplices k) (BadCone l row) o p e x y = absurd (simplices_listed k l row e x y)
  one_of_entry (BadSimplices k) _ o p e x y = absurd p
  one_of_entry (BadCone k row) NotPrincipal o p e x y = absurd (principal_listed k x.0 x.3.0 (sym e) y x.3.1)
  one_of_entry (BadCone k row) (BadOrigin l) o p e x y = absurd (origin_listed l k row (sym e) y x)
  one_of_entry (BadCone k row) (BadSimplices l) o p e x y = absurd (simplices_listed l k row (sym e) y x)
  one_of_entry (BadCone k row) (BadCone l n) o p e x y = ap (λ i. BadCone i row) e ∙ ap (BadCone l) (one_row k l row n e x y)
  one_of_entry (BadCone k row) _ o p e x y = absurd p
  one_of_entry _ _ o p e x y = absurd o

  -- ---- two refusals of the whole

  one_list : (us ts : List Classes) → HavePassed version d es us (length es) → HavePassed version d es ts (length es) → us ≡ ts
  one_list us ts g h = one_passed version d es us ts (length es) low g h

  one_cross : (k f l g : ℕ) → IsRefused version d es (BadCross k f) → IsRefused version d es (BadCross l g) → BadCross k f ≡ BadCross l g
  one_cross k f l g (us, a, lk, sf, wrong, before) (ts, b, ll, sg, wrong2, before2) =
      let same = one_list us ts a b in
      elim (places_cases (k, f) (l, g)) [
        | inl (e, z) ↦ ap (λ i. BadCross i f) e ∙ ap (BadCross l) z
        | inr (inl c) ↦ absurd (wrong (subst (λ (v : List Classes). IsCrossed d es v (k, f)) (sym same) (before2 (k, f) c lk sf)))
        | inr (inr c) ↦ absurd (wrong2 (subst (λ (v : List Classes). IsCrossed d es v (l, g)) same (before (l, g) c ll sg)))
      ]

  cross_or_twin : (k f i j : ℕ) (u : List ℤ) → IsRefused version d es (BadCross k f) → IsRefused version d es (Twin i j u) → ⊥
  cross_or_twin k f i j u (us, a, lk, sf, wrong, before) (ts, b, crossed, twins, rest, first, long) = wrong (subst (λ (v : List Classes). IsCrossed d es v (k, f)) (sym (one_list us ts a b)) (crossed (k, f) lk sf))

  same_twin : (i j k l : ℕ) (u v : List ℤ) → i ≡ k → j ≡ l → u ≡ v → Twin i j u ≡ Twin k l v
  same_twin i j k l u v e f g = ap (λ n. Twin n j u) e ∙ ap (λ n. Twin k n u) f ∙ ap (Twin k l) g

  one_matrix : (ts : List Classes) (i j : ℕ) (u v : List ℤ) → HavePassed version d es ts (length es) → j < length es → length u ≡ d * d → length v ≡ d * d → IsFirstMatch d (at ts j) (at ts i) (rows d u) → IsFirstMatch d (at ts j) (at ts i) (rows d v) → u ≡ v
  one_matrix ts i j u v h l lu lv x y =
      let form = listed_form version d es ts j (at ts j) low (h.listed j l) in
      let simplex = (classes_of_form d (at ts j) form (get_or (at ts j) 0 []) (Contains-get_or (at ts j) 0 [] form.1.occupied)).simplex in
      sym (flat-rows d u lu) ∙ ap flat (one_match d (at ts j) (at ts i) simplex (rows d u) (rows d v) x y) ∙ flat-rows d v lv

  one_twin : (i j k l : ℕ) (u v : List ℤ) → IsRefused version d es (Twin i j u) → IsRefused version d es (Twin k l v) → Twin i j u ≡ Twin k l v
  one_twin i j k l u v (us, a, crossed, twins, before, first, long) (ts, b, crossed2, twins2, before2, first2, long2) =
      let same = one_list us ts a b in
      elim (places_cases (i, j) (k, l)) [
        | inl (e, z) ↦
            let one = subst (λ (w : List Classes). IsFirstMatch d (at w j) (at w i) (rows d u)) same first in
            let two = subst (λ (n : ℕ). IsFirstMatch d (at ts j) (at ts n) (rows d u)) e one in
            let three = subst (λ (n : ℕ). IsFirstMatch d (at ts n) (at ts k) (rows d u)) z two in
            let within : l < length es = (let n = b.long in let w = twins2.1 in omega (arith, n, w)) in
            same_twin i j k l u v e z (one_matrix ts k l u v b within long long2 three first2)
        | inr (inl c) ↦ absurd (before2 (i, j) c (subst (λ (w : List Classes). AreTwins d w (i, j)) same twins))
        | inr (inr c) ↦ absurd (before (k, l) c (subst (λ (w : List Classes). AreTwins d w (k, l)) (sym same) twins2))
      ]

  -- ---- all together

  abbrev IsEarly : Refusal → Type 0
  IsEarly (BadCross k f) = ⊥
  IsEarly (Twin i j u) = ⊥
  IsEarly _ = Unit {0}

  of_entry : (r : Refusal) → IsEarly r → IsRefused version d es r → IsOfEntry r
  of_entry TooLong o x = x
  of_entry (Syntax line) o x = x
  of_entry (OtherDimension found) o x = x
  of_entry (BadCross k f) o x = o
  of_entry (Twin i j u) o x = o
  of_entry _ o x = tt

  early : (r : Refusal) → IsEarly r → IsRefused version d es r → Stops (entry_of r)
  early r o x = stops r (of_entry r o x) x

  pub one_refusal : (r s : Refusal) → IsRefused version d es r → IsRefused version d es s → r ≡ s
  one_refusal (BadCross k f) (BadCross l g) x y = one_cross k f l g x y
  one_refusal (BadCross k f) (Twin i j u) x y = absurd (cross_or_twin k f i j u x y)
  one_refusal (Twin i j u) (BadCross k f) x y = absurd (cross_or_twin k f i j u y x)
  one_refusal (Twin i j u) (Twin k l v) x y = one_twin i j k l u v x y
  one_refusal (BadCross k f) s x y = absurd (none_stops (entry_of s) (early s tt y) (x.0, x.1))
  one_refusal (Twin i j u) s x y = absurd (none_stops (entry_of s) (early s tt y) (x.0, x.1))
  one_refusal r (BadCross k f) x y = absurd (none_stops (entry_of r) (early r tt x) (y.0, y.1))
  one_refusal r (Twin i j u) x y = absurd (none_stops (entry_of r) (early r tt x) (y.0, y.1))
  one_refusal r s x y = one_of_entry r s (of_entry r tt x) (of_entry s tt y) (one_stop (entry_of r) (entry_of s) (early r tt x) (early s tt y)) x y
