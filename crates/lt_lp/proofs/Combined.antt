-- The combination of a tableau whose objective is 0 is right.
use Rattle.std.proofs.Common.{subst, ◌≡◌, ◌≢◌, inl, refl, sym, ◌∙◌, ap, ℕ, suc, ◌+◌, ◌-◌, ◌^◌, ◌≤◌, ◌<◌, ℤ, pos, ◌-ℤ◌, ◌*ℤ◌, ◌≤ℤ◌, ◌<ℤ◌, arith, List, [], ◌∷◌, map, length, get_or, nat_abs}
use Rattle.std.specs.Prelude.{remove}
use Rattle.std.specs.List.{All}
use Rattle.std.specs.List.Sorted.{IsStrictlySortedBy}
use Rattle.std.specs.Ordering.{nat_cmp}
use Rattle.std.proofs.lemmas.Int.{ints}
use Rattle.std.proofs.lemmas.List.{length-map}
use Rattle.std.proofs.lemmas.List.Elements.{All-cons, All-head, All-tail}
use Rattle.lt_model.specs.Padded.{lookup}
use Rattle.lt_model.specs.Vectors.{scale, dot, combine, total}
use Rattle.lt_model.specs.Forms.{numbers_of_form}
use Rattle.lt_model.specs.Simplices.{AllOfDimension}
use Rattle.lt_model.specs.Cones.{coefficients, places, sum_of_terms, IsRightCombination}
use Rattle.lt_model.proofs.Integers.{mul_zero_z}
use Rattle.lt_model.proofs.Ring.{ring, var, ◌⊕◌, ◌⊗◌}
use Rattle.lt_model.proofs.Inequalities.{cancel_z}
use Rattle.lt_model.proofs.Squares.{length-scale}
use Rattle.lt_model.proofs.Walk.{length-combine}
use Rattle.lt_tableau.specs.Numbers.{sum_below, column_at}
use Rattle.lt_tableau.specs.System.{system_of}
use Rattle.lt_tableau.specs.Table.{Table, units_of}
use Rattle.lt_tableau.proofs.Sums.{lookup_none, lookup_plus, lookup_scale, sum_same}
use Rattle.lt_tableau.proofs.Starts.{length-system}
use Rattle.lt_lp.specs.Rule.{objective_of, IsReady}
use Rattle.lt_lp.specs.Reduced.{IsReduced}
use Rattle.lt_lp.specs.Terms.{value_of, terms_from, terms_of, scale_of}
use Rattle.lt_lp.proofs.FromZeros.{lookup_from_zeros, length_from_zeros}
use Rattle.lt_lp.proofs.Reduces.{reduced_below}
use Rattle.lt_lp.proofs.Turned.{positive_factor}
use Rattle.lt_lp.proofs.Terms.{terms_ascend, terms_within, terms_other, terms_positive, terms_below, terms_few, terms_sum, terms_total}
use Rattle.lt_lp.proofs.Mixes.{IsMix, mixed, mix_positive, mix_few, occurs_of, occurs_nonneg, occurs_some, value_nonneg}

-- lists with the same numbers and lengths
pub same_lists : (x y : List ℤ) → length x ≡ length y → ((q : ℕ) → q < length y → lookup x q ≡ lookup y q) → x ≡ y
same_lists [] [] l h = refl
same_lists [] (b ∷ y) l h = absurd (omega arith)
same_lists (a ∷ x) [] l h = absurd (omega arith)
same_lists (a ∷ x) (b ∷ y) l h =
    let e : a ≡ b = h 0 (omega arith) in
    let r = same_lists x y (omega arith) (λ q k. h (suc q) (omega arith)) in
    cc

pub combine-scale : (g : ℤ) (ts : List ℤ) (vs : List (List ℤ)) (q : ℕ) → lookup (combine (scale g ts) vs) q ≡ g *ℤ lookup (combine ts vs) q
combine-scale g [] vs q = rw (lookup_none q) (sym (mul_zero_z g))
combine-scale g (t ∷ ts) [] q = rw (lookup_none q) (sym (mul_zero_z g))
combine-scale g (t ∷ ts) (v ∷ vs) q =
    lookup_plus (scale (g *ℤ t) v) (combine (scale g ts) vs) q
    ∙ rw (lookup_scale (g *ℤ t) v q, combine-scale g ts vs q, lookup_plus (scale t v) (combine ts vs) q, lookup_scale t v q) (ring (g ∷ t ∷ lookup v q ∷ lookup (combine ts vs) q ∷ []) (var 0 ⊗ var 1 ⊗ var 2 ⊕ var 0 ⊗ var 3) (var 0 ⊗ (var 1 ⊗ var 2 ⊕ var 3)) tt)

pub all_of_dimension : (n : ℕ) (normals : List (List ℤ)) (ps : List ℕ) → ((j : ℕ) → j < length normals → length (column_at normals j) ≡ n) → All (λ i. i < length normals) ps → AllOfDimension n (map (λ i. get_or normals i []) ps)
all_of_dimension n normals [] s h = tt
all_of_dimension n normals (p ∷ ps) s h = (s p (All-head (λ i. i < length normals) p ps h), all_of_dimension n normals ps s (All-tail (λ i. i < length normals) p ps h))

positive_scale : (g : ℕ) (xs : List ℤ) → 0 < g → All (λ x. pos 0 <ℤ x) (scale (pos g) xs) → All (λ x. pos 0 <ℤ x) xs
positive_scale g [] p h = h
positive_scale g (x ∷ xs) p h = All-cons (λ x. pos 0 <ℤ x) x xs (positive_factor g x p (All-head (λ x. pos 0 <ℤ x) (pos g *ℤ x) (scale (pos g) xs) h)) (positive_scale g xs p (All-tail (λ x. pos 0 <ℤ x) (pos g *ℤ x) (scale (pos g) xs) h))

-- of two lists with a number in front
front : (x y : ℤ) (xs ys : List ℤ) → (x ∷ xs) ≡ (y ∷ ys) → record { head : x ≡ y; rest : xs ≡ ys }
front x y xs ys e = record { head = cc; rest = cc }

occupied : (n : ℕ) (xs : List ℤ) → pos 0 <ℤ total xs → 0 < length xs
occupied n [] h = absurd (omega (arith, ints))
occupied n (x ∷ xs) h = omega arith

pub record IsCase (t : Table) (normals : List (List ℤ)) (k d : ℕ) : Type 0 where
  pub ready : IsReady t
  pub system : t.system ≡ system_of normals k
  pub rows : t.rows ≡ suc (numbers_of_form d)
  pub place : k < length normals
  pub few : numbers_of_form d ≤ 21
  pub lengths : (j : ℕ) → j < length normals → length (column_at normals j) ≡ numbers_of_form d

pub units_case : (t : Table) (normals : List (List ℤ)) (k d : ℕ) → IsCase t normals k d → units_of t ≡ suc (length normals)
units_case t normals k d c =
    let l = length-system normals k c.place in
    let e : length t.system ≡ suc (suc (length normals) + suc (length (get_or normals k []))) = ap (length {A = List ℤ}) c.system ∙ l in
    let z = c.lengths k c.place in
    let r = c.rows in
    omega arith

pub case_scale : (t : Table) (normals : List (List ℤ)) (k d : ℕ) (form : List ℤ) → IsCase t normals k d → objective_of t ≡ pos 0 → ((j : ℕ) → j < length normals → pos 0 <ℤ dot (column_at normals j) form) → pos 0 <ℤ scale_of t
case_scale t normals k d form c o g =
    let u = units_case t normals k d c in
    let p = c.place in
    let e : units_of t - 2 ≡ length normals - 1 = omega arith in
    let f : units_of t - 1 ≡ length normals = omega arith in
    let x = mixed t normals k (numbers_of_form d) c.ready c.system c.rows c.place c.few c.lengths o in
    rw (e, f) (mix_positive t normals k (numbers_of_form d) form c.ready c.place c.lengths g x)

pub case_few : (t : Table) (normals : List (List ℤ)) (k d : ℕ) → IsCase t normals k d → pos 0 <ℤ scale_of t → length (terms_of k t) ≤ numbers_of_form d
case_few t normals k d c p =
    let u = units_case t normals k d c in
    let l = c.place in
    let e : units_of t - 2 ≡ length normals - 1 = omega arith in
    let f : units_of t - 1 ≡ length normals = omega arith in
    let a = terms_few k (value_of t) (occurs_of t) 0 (length normals - 1) (occurs_nonneg t) (occurs_some t) in
    let b = mix_few t normals (numbers_of_form d) (omega arith) c.ready c.rows (rw (e, f) at p) in
    let s : sum_below (length normals - 1) (λ (i : ℕ). occurs_of t (0 + i)) ≡ sum_below (length normals - 1) (occurs_of t) = sum_same (length normals - 1) (λ (i : ℕ). occurs_of t (0 + i)) (occurs_of t) (λ q h. ap (occurs_of t) (let z : 0 + q ≡ q = omega arith in z)) in
    rw e (at_most (length (terms_from k (value_of t) 0 (length normals - 1))) (numbers_of_form d) (sum_below (length normals - 1) (occurs_of t)) (rw s at a) b)
  where
    at_most : (x n : ℕ) (s : ℤ) → pos x ≤ℤ s → s ≤ℤ pos n → x ≤ n
    at_most x n s h k = omega (arith, ints)

pub right_combination : (t : Table) (normals : List (List ℤ)) (k d : ℕ) (form : List ℤ) (factor : ℤ) (terms : List (ℕ × ℤ)) → IsCase t normals k d → objective_of t ≡ pos 0 → ((j : ℕ) → j < length normals → pos 0 <ℤ dot (column_at normals j) form) →
    ((c : ℕ) → nat_abs (value_of t c) < 2 ^ 62) → nat_abs (scale_of t) < 2 ^ 62 → places terms ≡ places (terms_of k t) → IsReduced (scale_of t ∷ coefficients (terms_of k t)) (factor ∷ coefficients terms) → IsRightCombination d normals k factor terms
right_combination t normals k d form factor terms c o g small least ps r = record {
  some = some;
  few = rw (sym (length-map terms (λ p. p.0)), ps, length-map (terms_of k t) (λ p. p.0)) (case_few t normals k d c (case_scale t normals k d form c o g));
  ascending = subst (λ (xs : List ℕ). IsStrictlySortedBy nat_cmp xs) (sym ps) (terms_ascend k (value_of t) 0 (units_of t - 2));
  within = within;
  other = subst (λ (xs : List ℕ). All (λ i. i ≢ k) xs) (sym ps) (terms_other k (value_of t) 0 (units_of t - 2));
  positive = positive_scale r.factor (coefficients terms) r.some (subst (All (λ x. pos 0 <ℤ x)) rest (terms_positive k (value_of t) 0 (units_of t - 2) (value_nonneg t c.ready)));
  below = reduced_below (2 ^ 62) (scale_of t ∷ coefficients (terms_of k t)) (factor ∷ coefficients terms) r (All-cons (λ x. nat_abs x < 2 ^ 62) (scale_of t) (coefficients (terms_of k t)) least (terms_below k (2 ^ 62) (value_of t) 0 (units_of t - 2) small));
  primitive = r.primitive;
  sum = same_lists (sum_of_terms normals k terms) (scale factor (get_or normals k []))
      (length_from_zeros (length (get_or normals k [])) (combine (coefficients terms) vs) (inl (long ∙ sym (c.lengths k c.place))) ∙ sym (length-scale factor (get_or normals k [])))
      (λ q l. lookup_from_zeros (length (get_or normals k [])) (combine (coefficients terms) vs) q ∙ number q (rw (length-scale factor (get_or normals k []), c.lengths k c.place) at l));
}
  where
    u : units_of t ≡ suc (length normals)
    u = units_case t normals k d c

    e : units_of t - 2 ≡ length normals - 1
    e = let a = u in omega arith

    f : units_of t - 1 ≡ length normals
    f = let a = u in omega arith

    head : scale_of t ≡ pos r.factor *ℤ factor
    head = (front (scale_of t) (pos r.factor *ℤ factor) (coefficients (terms_of k t)) (scale (pos r.factor) (coefficients terms)) r.times).head

    rest : coefficients (terms_of k t) ≡ scale (pos r.factor) (coefficients terms)
    rest = (front (scale_of t) (pos r.factor *ℤ factor) (coefficients (terms_of k t)) (scale (pos r.factor) (coefficients terms)) r.times).rest

    some : pos 0 <ℤ factor
    some = positive_factor r.factor factor r.some (subst (λ (x : ℤ). pos 0 <ℤ x) head (case_scale t normals k d form c o g))

    within : All (λ i. i < length normals) (places terms)
    within = subst (λ (xs : List ℕ). All (λ i. i < length normals) xs) (sym ps) (terms_within k (length normals) (value_of t) 0 (units_of t - 2) (let a = u in let b = c.place in omega arith))

    vs : List (List ℤ)
    vs = map (λ i. get_or normals i []) (places terms)

    x : IsMix t normals k (numbers_of_form d)
    x = mixed t normals k (numbers_of_form d) c.ready c.system c.rows c.place c.few c.lengths o

    some_terms : 0 < length (coefficients (terms_of k t))
    some_terms =
        let a = terms_total k (value_of t) 0 (units_of t - 2) in
        let s : sum_below (length normals - 1) (λ (i : ℕ). value_of t (0 + i)) ≡ sum_below (length normals - 1) (value_of t) = sum_same (length normals - 1) (λ (i : ℕ). value_of t (0 + i)) (value_of t) (λ q h. ap (value_of t) (let z : 0 + q ≡ q = omega arith in z)) in
        occupied 0 (coefficients (terms_of k t)) (rw (a, e, s, x.whole) c.ready.tableau.positive)

    one_each : length (coefficients terms) ≡ length vs
    one_each = length-map terms (λ p. p.1) ∙ sym (length-map (places terms) (λ i. get_or normals i []) ∙ length-map terms (λ p. p.0))

    long : length (combine (coefficients terms) vs) ≡ numbers_of_form d
    long =
        let l : length (coefficients (terms_of k t)) ≡ length (coefficients terms) = ap (length {A = ℤ}) rest ∙ length-scale (pos r.factor) (coefficients terms) in
        let a = some_terms in
        length-combine (numbers_of_form d) (coefficients terms) vs (all_of_dimension (numbers_of_form d) normals (places terms) c.lengths within) one_each (rw (sym one_each, sym l) a)

    number : (q : ℕ) → q < numbers_of_form d → lookup (combine (coefficients terms) vs) q ≡ lookup (scale factor (get_or normals k [])) q
    number q l =
        let a = terms_sum normals k (value_of t) 0 (length normals - 1) q c.place (let b = c.place in omega arith) in
        let s : sum_below (length normals - 1) (λ (i : ℕ). value_of t (0 + i) *ℤ lookup (column_at (remove normals k) (0 + i)) q) ≡ sum_below (length normals - 1) (λ (i : ℕ). value_of t i *ℤ lookup (column_at (remove normals k) i) q) =
        sum_same (length normals - 1) (λ (i : ℕ). value_of t (0 + i) *ℤ lookup (column_at (remove normals k) (0 + i)) q) (λ (i : ℕ). value_of t i *ℤ lookup (column_at (remove normals k) i) q) (λ i h. ap (λ (j : ℕ). value_of t j *ℤ lookup (column_at (remove normals k) j) q) (let z : 0 + i ≡ i = omega arith in z)) in
        let m : lookup (combine (coefficients (terms_of k t)) vs) q ≡ scale_of t *ℤ lookup (column_at normals k) q =
        subst (λ (ys : List ℕ). lookup (combine (coefficients (terms_of k t)) (map (λ i. get_or normals i []) ys)) q ≡ scale_of t *ℤ lookup (column_at normals k) q) (sym ps)
        (subst (λ (j : ℕ). lookup (combine (coefficients (terms_from k (value_of t) 0 j)) (map (λ i. get_or normals i []) (places (terms_from k (value_of t) 0 j)))) q ≡ (value_of t j -ℤ value_of t (units_of t - 1)) *ℤ lookup (column_at normals k) q) (sym e)
        (rw f (a ∙ s ∙ x.sum q l))) in
        let p : pos 0 <ℤ pos r.factor = (let b = r.some in omega (arith, ints)) in
        cancel_z (pos r.factor) (lookup (combine (coefficients terms) vs) q) (lookup (scale factor (get_or normals k [])) q) p
        (sym (combine-scale (pos r.factor) (coefficients terms) vs q) ∙ ap (λ (ys : List ℤ). lookup (combine ys vs) q) (sym rest) ∙ m
        ∙ rw (head, lookup_scale factor (get_or normals k []) q) (ring (pos r.factor ∷ factor ∷ lookup (column_at normals k) q ∷ []) (var 0 ⊗ var 1 ⊗ var 2) (var 0 ⊗ (var 1 ⊗ var 2)) tt))
