-- Each step keeps the rule.
use Rattle.std.proofs.Common.{◌≡◌, ℕ, zero, suc, ◌+◌, ◌-◌, ◌%◌, ◌^◌, ◌<◌, ◌≤◌, List, [], ◌∷◌, ◌++◌, length, set, cond, eqb, Bool, true, false, refl, sym, ap, ◌∙◌, subst, arith, length-append}
use Rattle.std.specs.Prelude.{slice_index, slice_set}
use Rattle.std.proofs.lemmas.Bool.Decides.{nat_tests}
use mathlib.Core.Option.{some, none, some-ne-none, some-injective}
use lib.ListN.{get_elem?}
use Rattle.atomic_table.proofs.Lists.{set_again}
use Rattle.atomic_table.specs.Table.{State, Me, keeps, step, stepped, Allows, Splits, Joins, Final, Seen}
use Rattle.lt_claim.specs.declared.rule.View.{View}
use Rattle.lt_claim.specs.Drawn.{times, once_below, AreDrawn}
use Rattle.lt_claim.specs.Dealt.{total, share, with_draws, with_fewer, together, IsDealt, drew, looked}

-- ---- sums over views

total_set : (f : View → ℕ) (vs : List View) (i : ℕ) (v w : View) → get_elem? vs i ≡ some v → total f (set vs i w) + f v ≡ total f vs + f w
total_set f [] i v w e = absurd (some-ne-none v (sym e))
total_set f (x ∷ vs) zero v w e = let h : f x ≡ f v = ap f (some-injective x v e) in omega (arith, h)
total_set f (x ∷ vs) (suc i) v w e = let h = total_set f vs i v w e in omega (arith, h)

total_more : (f : View → ℕ) (vs : List View) (w : View) → total f (vs ++ w ∷ []) ≡ total f vs + f w
total_more f [] w = omega arith
total_more f (x ∷ vs) w = let h = total_more f vs w in omega (arith, h)

total_one : (f : View → ℕ) (vs : List View) (i : ℕ) (v : View) → get_elem? vs i ≡ some v → f v ≤ total f vs
total_one f [] i v e = absurd (some-ne-none v (sym e))
total_one f (x ∷ vs) zero v e = let h : f x ≡ f v = ap f (some-injective x v e) in omega (arith, h)
total_one f (x ∷ vs) (suc i) v e = let h = total_one f vs i v e in omega (arith, h)

-- where f is at most g, the others have no more of f than of g
total_others : (f g : View → ℕ) → ((v : View) → f v ≤ g v) → (vs : List View) (i : ℕ) (v : View) → get_elem? vs i ≡ some v → total f vs + g v ≤ f v + total g vs
total_others f g less [] i v e = absurd (some-ne-none v (sym e))
total_others f g less (x ∷ vs) zero v e =
    let h : f x ≡ f v = ap f (some-injective x v e) in
    let k : g x ≡ g v = ap g (some-injective x v e) in
    let m = total_below f g less vs in
    omega (arith, h, k, m)
  where
    total_below : (f g : View → ℕ) → ((v : View) → f v ≤ g v) → (vs : List View) → total f vs ≤ total g vs
    total_below f g less [] = omega arith
    total_below f g less (x ∷ vs) = let a = less x in let b = total_below f g less vs in omega (arith, a, b)
total_others f g less (x ∷ vs) (suc i) v e = let h = total_others f g less vs i v e in let a = less x in omega (arith, h, a)

-- one seat has it all: the others have none
total_alone : (f g : View → ℕ) → ((v : View) → f v ≤ g v) → (vs : List View) (i : ℕ) (v : View) → get_elem? vs i ≡ some v → total g vs ≡ g v → total f vs ≡ f v
total_alone f g less vs i v e whole =
    let a = total_others f g less vs i v e in
    let b = total_one f vs i v e in
    omega (arith, a, b, whole)

-- ---- how often a number stands in a list

times-append : (x : ℕ) (l m : List ℕ) → times x (l ++ m) ≡ times x l + times x m
times-append x [] m = omega arith
times-append x (y ∷ l) m = let h = times-append x l m in omega (arith, h)

cond_one : (b : Bool) → cond b 1 0 ≤ 1
cond_one true = omega arith
cond_one false = omega arith

times_few : (x : ℕ) (l : List ℕ) → times x l ≤ length l
times_few x [] = omega arith
times_few x (y ∷ l) = let h = times_few x l in let c = cond_one (eqb x y) in omega (arith, h, c)

once_more : (x n : ℕ) → once_below x (n + 1) ≡ once_below x n + times x (n ∷ [])
once_more x n = grind (arith, nat_tests)

-- ---- the steps

same_word : (words : List ℕ) (n : ℕ) → words ≡ n ∷ [] → slice_index words 0 ≡ n
same_word words n e = ap (λ (l : List ℕ). slice_index l 0) e

-- the rule, for the shares k, the word n and the views vs
abbrev pub Deals : ℕ → ℕ → List View → Type 0
Deals k n vs = (total share vs ≡ k) × ((x : ℕ) → total (λ v. times x v.drawn) vs ≡ once_below x n) × (total (λ v. length v.drawn) vs ≡ n)

share_splits : (vs : List View) → total share vs ≡ total (λ v. length v.drawn) vs + total (λ v. v.left) vs
share_splits [] = refl
share_splits (v ∷ vs) = let h = share_splits vs in omega (arith, h)

few_numbers : (k n : ℕ) (vs : List View) (i : ℕ) (v : View) → Deals k n vs → get_elem? vs i ≡ some v → k ≤ 2 ^ 40 → 0 < v.left → n < 2 ^ 40
few_numbers k n vs i v h at small some_left =
    let a = share_splits vs in
    let b : v.left ≤ total (λ u. u.left) vs = total_one (λ u. u.left) vs i v at in
    let c = h.0 in
    let d = h.2 in
    omega (arith, a, b, c, d)

dealt_draw : (k n : ℕ) (vs : List View) (i : ℕ) (v : View) → Deals k n vs → get_elem? vs i ≡ some v → 0 < v.left → Deals k (n + 1) (set vs i (record { drawn = v.drawn ++ n ∷ []; left = v.left - 1 }))
dealt_draw k n vs i v h at some_left =
    let w : View = record { drawn = v.drawn ++ n ∷ []; left = v.left - 1 } in
    let l = length-append v.drawn (n ∷ []) in
    let a = total_set share vs i v w at in
    let c = total_set (λ u. length u.drawn) vs i v w at in
    let s = h.0 in
    let z = h.2 in (
      omega (arith, l, a, s),
      (λ x.
          let b = total_set (λ u. times x u.drawn) vs i v w at in
          let e = h.1 x in
          let t = times-append x v.drawn (n ∷ []) in
          let o = once_more x n in
          omega (arith, b, e, t, o)),
      omega (arith, l, c, z),
    )

dealt_split : (k n : ℕ) (vs : List View) (i : ℕ) (v : View) (give : ℕ) → Deals k n vs → get_elem? vs i ≡ some v → give ≤ v.left → Deals k n (set vs i (with_fewer v give) ++ with_draws give ∷ [])
dealt_split k n vs i v give h at enough =
    let w = with_fewer v give in
    let ws = set vs i w in
    let a = total_set share vs i v w at in
    let b = total_more share ws (with_draws give) in
    let c = total_set (λ u. length u.drawn) vs i v w at in
    let d = total_more (λ u. length u.drawn) ws (with_draws give) in
    let s = h.0 in
    let z = h.2 in (
      omega (arith, a, b, s),
      (λ x.
          let e = total_set (λ u. times x u.drawn) vs i v w at in
          let f = total_more (λ u. times x u.drawn) ws (with_draws give) in
          let o = h.1 x in
          omega (arith, e, f, o)),
      omega (arith, c, d, z),
    )

dealt_join : (k n : ℕ) (vs : List View) (i : ℕ) (v : View) (j : ℕ) (w : View) → Deals k n vs → get_elem? vs i ≡ some v → get_elem? (set vs i (together v w)) j ≡ some w → Deals k n (set (set vs i (together v w)) j (with_draws 0))
dealt_join k n vs i v j w h at there =
    let both = together v w in
    let ws = set vs i both in
    let l = length-append v.drawn w.drawn in
    let a = total_set share vs i v both at in
    let b = total_set share ws j w (with_draws 0) there in
    let c = total_set (λ u. length u.drawn) vs i v both at in
    let d = total_set (λ u. length u.drawn) ws j w (with_draws 0) there in
    let s = h.0 in
    let z = h.2 in (
      omega (arith, l, a, b, s),
      (λ x.
          let e = total_set (λ u. times x u.drawn) vs i v both at in
          let f = total_set (λ u. times x u.drawn) ws j w (with_draws 0) there in
          let t = times-append x v.drawn w.drawn in
          let o = h.1 x in
          omega (arith, e, f, t, o)),
      omega (arith, l, c, d, z),
    )

-- the seat that has every share has drawn all numbers
dealt_whole : (k n : ℕ) (vs : List View) (i : ℕ) (v : View) → Deals k n vs → get_elem? vs i ≡ some v → share v ≡ k → AreDrawn v.drawn n
dealt_whole k n vs i v h at whole x =
    let less : (u : View) → times x u.drawn ≤ share u = λ u. (let t = times_few x u.drawn in omega (arith, t)) in
    let a : total (λ u. times x u.drawn) vs ≡ times x v.drawn = total_alone (λ u. times x u.drawn) share less vs i v at (h.0 ∙ sym whole) in
    sym a ∙ h.1 x

-- ---- as the table asks

deals : (k : ℕ) (s : State (Unit {0}) View) (h : IsDealt k s) → Deals k h.number s.views
deals k s h = (h.shares, h.each, h.count)

dealt_with : (k : ℕ) (s : State (Unit {0}) View) (n : ℕ) → k ≤ 2 ^ 40 → s.words ≡ n ∷ [] → Deals k n s.views → IsDealt k s
dealt_with k s n small w d = record { number = n; word = w; shares = d.0; small = small; each = d.1; count = d.2 }

pub draws : (k slots id : ℕ) (me : Me (Unit {0}) View) → 0 < me.0.left → Allows (IsDealt k) slots id me 0 (λ n. (n + 1) % 2 ^ 64) (drew (step slots 0 1 0 none) me)
draws k slots id me some_left s h homes at below =
    let n = h.number in
    let e : slice_index s.words 0 ≡ n = same_word s.words n h.word in
    let few : n < 2 ^ 40 = few_numbers k n s.views id me.0 (deals k s h) at h.small some_left in
    let m : (n + 1) % 2 ^ 64 ≡ n + 1 = omega arith in
    let w : View = record { drawn = me.0.drawn ++ slice_index s.words 0 ∷ []; left = me.0.left - 1 } in
    let next : slice_set s.words 0 ((slice_index s.words 0 + 1) % 2 ^ 64) ≡ (n + 1) ∷ [] =
    ap (λ (j : ℕ). slice_set s.words 0 ((j + 1) % 2 ^ 64)) e ∙ ap (λ (l : List ℕ). slice_set l 0 ((n + 1) % 2 ^ 64)) h.word ∙ ap (λ (j : ℕ). j ∷ []) m in
    let there = dealt_draw k n s.views id me.0 (deals k s h) at some_left in (
      w,
      keeps,
      tt,
      dealt_with k (stepped s 0 ((slice_index s.words 0 + 1) % 2 ^ 64) id me.1 w keeps) (n + 1) h.small next
          (subst (λ (j : ℕ). Deals k (n + 1) (set s.views id (record { drawn = me.0.drawn ++ j ∷ []; left = me.0.left - 1 }))) (sym e) there),
      (refl, refl),
    )

pub looks : (k slots id : ℕ) (me : Me (Unit {0}) View) → Allows (IsDealt k) slots id me 0 (λ n. n) (looked (step slots 0 0 0 none) me)
looks k slots id me s h homes at below =
    let n = h.number in
    let e : slice_index s.words 0 ≡ n = same_word s.words n h.word in
    let next : slice_set s.words 0 (slice_index s.words 0) ≡ n ∷ [] = ap (λ (j : ℕ). slice_set s.words 0 j) e ∙ ap (λ (l : List ℕ). slice_set l 0 n) h.word in
    let a = total_one share s.views id me.0 at in
    let b = h.shares in
    let c = h.small in
    let views : set s.views id me.0 ≡ s.views = set_again s.views id me.0 at in (
      me.0,
      keeps,
      tt,
      dealt_with k (stepped s 0 (slice_index s.words 0) id me.1 me.0 keeps) n h.small next (subst (λ (vs : List View). Deals k n vs) (sym views) (deals k s h)),
      (refl, refl, omega (arith, a, b, c)),
    )

pub splits : (k id : ℕ) (v : View) (give : ℕ) → give ≤ v.left → Splits (IsDealt k) id v (with_fewer v give) (with_draws give)
splits k id v give enough s h at =
    dealt_with k (record { words = s.words; homes = s.homes; views = set s.views id (with_fewer v give) ++ with_draws give ∷ [] }) h.number h.small h.word (dealt_split k h.number s.views id v give (deals k s h) at enough)

pub joins : (k id : ℕ) (v : View) (other : ℕ) (w : View) → Joins (IsDealt k) id v other w (together v w) (with_draws 0)
joins k id v other w s h at apart there =
    dealt_with k (record { words = s.words; homes = s.homes; views = set (set s.views id (together v w)) other (with_draws 0) }) h.number h.small h.word (dealt_join k h.number s.views id v other w (deals k s h) at there)

-- the word at the end is the number of what the seat with every share has drawn
pub closes : (k id : ℕ) (v : View) (words : List ℕ) (slots : List (Unit {0})) (n : ℕ) → Final (Seen (IsDealt k) id v) words slots → get_elem? words 0 ≡ some n → share v ≡ k → AreDrawn v.drawn n
closes k id v words slots n f at whole =
    let s = f.0 in
    let h = f.1.0 in
    let w : words ≡ h.number ∷ [] = sym f.2 ∙ h.word in
    let e : h.number ≡ n = some-injective h.number n (ap (λ (l : List ℕ). get_elem? l 0) (sym w) ∙ at) in
    subst (λ (j : ℕ). AreDrawn v.drawn j) e (dealt_whole k h.number s.views id v (deals k s h) f.1.1 whole)
