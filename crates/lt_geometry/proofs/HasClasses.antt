-- Each independent list of d + 1 points has one class, of which it is a translate.
use Rattle.std.proofs.Common.{List, [], ◌∷◌, length, ◌≡◌, ℕ, zero, suc, ◌≤◌, inl, inr, refl, sym, ◌∙◌, ap, ap₂, subst, arith, ℤ, pos, negsuc, ◌+ℤ◌, ◌*ℤ◌}
use Rattle.std.proofs.lemmas.Int.{ints}
use Rattle.std.specs.List.{AllByRecursion}
use Rattle.std.specs.List.Sorted.{IsStrictlySortedBy}
use Rattle.std.specs.declared.cmp.Ordering.{Ordering}
use Rattle.std.specs.declared.cmp.Ordering.TheVariants.{Less, Equal, Greater}
use Rattle.lt_model.proofs.Ring.{ring, var, num, ◌⊕◌, ◌⊗◌}
use Rattle.lt_walls.proofs.Sums.{qs}
use Rattle.lt_model.specs.Padded.{head_z, tail_z}
use Rattle.lt_walls.proofs.Lists.{Alike, alike-refl, alike-sym, alike-trans, alike-cons, alike-swap, qs-cons, qs-nil, qs-fun, In, in-nil, in-head, in-tail, in-cases, in-alike, front, Distinct, distinct-alike, distinct-out, distinct-tail, differ}
use Rattle.lt_walls.proofs.Space.{Simp, simp-alike}
use Rattle.lt_walls.proofs.Margins.{moved}
use Rattle.lt_geometry.proofs.Points.{Vec, list, length-list, place, coordinate, vec-dec, add, none, dot-axis, axis, space}
use Rattle.lt_geometry.proofs.Members.{lists, all_lists, list-same, shift, opposite, shift-forth, moved_back, simp-moved}
use Rattle.lt_geometry.proofs.Ties.{fn, fn-sum, fn-head, fn-tail, lists-same, lists-moved}
use Rattle.lt_geometry.proofs.ClosedFlips.{contains_alike}
use Rattle.lt_geometry.proofs.Sorting.{above_all, number_list_cmp_exact, reversed}
use Rattle.lt_model.specs.Vectors.{dot, zeros, total, combine}
use Rattle.lt_model.specs.Order.{number_list_cmp}
use Rattle.lt_model.specs.Simplices.{IsClass}
use Rattle.lt_model.proofs.Excess.{dot-combine, dot-constant}
use Rattle.lt_model.proofs.Sets.{same_members, number_list_cmp_total}
use Rattle.lt_model.proofs.Translates.{ascending_translate}

-- lists without repetition that have the same members are alike
pub alike_members : (d : ℕ) (S R : List (Vec d)) → Distinct (vec-dec d) S → Distinct (vec-dec d) R → ((x : Vec d) → In (vec-dec d) x S → In (vec-dec d) x R) → ((x : Vec d) → In (vec-dec d) x R → In (vec-dec d) x S) → Alike S R
alike_members d [] [] s r to from = alike-refl []
alike_members d [] (x ∷ R) s r to from = absurd (in-nil (from x (in-head (vec-dec d) x R)))
alike_members d (v ∷ S) R s r to from = go (front (vec-dec d) v R (to v (in-head (vec-dec d) v S))) (alike_members d S)
  where
    go : (R' : List (Vec d)) × Alike R (v ∷ R') → ((R : List (Vec d)) → Distinct (vec-dec d) S → Distinct (vec-dec d) R → ((x : Vec d) → In (vec-dec d) x S → In (vec-dec d) x R) → ((x : Vec d) → In (vec-dec d) x R → In (vec-dec d) x S) → Alike S R) → Alike (v ∷ S) R
    go f rec = alike-trans (alike-cons v (rec (f.0) (distinct-tail s) (distinct-tail dr) down up)) (alike-sym (f.1))
      where
        dr : Distinct (vec-dec d) (v ∷ f.0)
        dr = distinct-alike r (f.1)

        down : (x : Vec d) → In (vec-dec d) x S → In (vec-dec d) x (f.0)
        down x i = elim (in-cases (vec-dec d) x v (f.0) (in-alike (to x (in-tail (vec-dec d) x v S i)) (f.1))) [ inl e ↦ absurd (differ x (distinct-out s) i e) | inr h ↦ h ]

        up : (x : Vec d) → In (vec-dec d) x (f.0) → In (vec-dec d) x S
        up x i = elim (in-cases (vec-dec d) x v S (from x (in-alike (in-tail (vec-dec d) x v (f.0) i) (alike-sym (f.1))))) [ inl e ↦ absurd (differ x (distinct-out dr) i e) | inr h ↦ h ]

count : {P : Type 0} → (S : List P) → qs (λ v. pos 1) (λ v. pos 1) S ≡ pos (length S)
count [] = qs-nil (λ v. pos 1) (λ v. pos 1)
count (x ∷ S) = qs-cons (λ v. pos 1) (λ v. pos 1) x S ∙ omega (arith, ints, count S)

pub alike_length : {P : Type 0} → (S R : List P) → Alike S R → length S ≡ length R
alike_length S R al = omega (arith, ints, sym (count S) ∙ al.same (λ v. pos 1) (λ v. pos 1) ∙ count R)

pub length_lists : (d : ℕ) (C : List (Vec d)) → length (lists d C) ≡ length C
length_lists d [] = refl
length_lists d (v ∷ C) = ap suc (length_lists d C)

pub length_moved : {P : Type 0} → (m : P → P) (C : List P) → length (moved m C) ≡ length C
unfolding moved
length_moved m [] = refl
length_moved m (v ∷ C) = ap suc (length_moved m C)

pub moved_forth : (d : ℕ) (y : Vec d) (C : List (Vec d)) → moved (shift d y) (moved (shift d (opposite d y)) C) ≡ C
unfolding moved
moved_forth d y [] = refl
moved_forth d y (v ∷ C) = ap₂ (λ a b. a ∷ b) (shift-forth d y v) (moved_forth d y C)

-- ---- sorted points

pub record Sorted (d : ℕ) (S : List (Vec d)) : Type 0 where
  pub all : List (Vec d)
  pub ascending : IsStrictlySortedBy number_list_cmp (lists d all)
  pub alike : Alike S all

all_vec : (d : ℕ) (P : List ℤ → Type 0) (L : List (Vec d)) → ((v : Vec d) → In (vec-dec d) v L → P (list d v)) → AllByRecursion P (lists d L)
all_vec d P [] h = tt
all_vec d P (v ∷ L) h = (h v (in-head (vec-dec d) v L), all_vec d P L (λ x i. h x (in-tail (vec-dec d) x v L i)))

vec_all : (d : ℕ) (P : List ℤ → Type 0) (L : List (Vec d)) → AllByRecursion P (lists d L) → (v : Vec d) → In (vec-dec d) v L → P (list d v)
vec_all d P [] h v i = absurd (in-nil i)
vec_all d P (x ∷ L) h v i = elim (in-cases (vec-dec d) v x L i) [ inl e ↦ subst (λ z. P (list d z)) (sym e) (h.0) | inr r ↦ vec_all d P L (h.1) v r ]

put : (d : ℕ) (x : Vec d) (L : List (Vec d)) → IsStrictlySortedBy number_list_cmp (lists d L) → (In (vec-dec d) x L → ⊥) → Sorted d (x ∷ L)
unfolding IsStrictlySortedBy
put d x [] s n = record { all = x ∷ []; ascending = (tt, tt); alike = alike-refl (x ∷ []) }
put d x (y ∷ L) s n = by (number_list_cmp (list d x) (list d y)) refl (put d x L (s.1) (λ i. n (in-tail (vec-dec d) x y L i)))
  where
    by : (r : Ordering) → number_list_cmp (list d x) (list d y) ≡ r → Sorted d (x ∷ L) → Sorted d (x ∷ y ∷ L)
    by Less e h = record { all = x ∷ y ∷ L; ascending = ((e, above_all number_list_cmp number_list_cmp_total (list d x) (list d y) (lists d L) e (s.0)), s); alike = alike-refl (x ∷ y ∷ L) }
    by Equal e h = absurd (n (subst (λ z. In (vec-dec d) z (y ∷ L)) (sym (list-same d x y (number_list_cmp_exact (list d x) (list d y) e))) (in-head (vec-dec d) y L)))
    by Greater e h = record { all = y ∷ h.all; ascending = (all_vec d (λ z. number_list_cmp (list d y) z ≡ Less) h.all above, h.ascending); alike = alike-trans (alike-swap x y L) (alike-cons y h.alike) }
      where
        above : (v : Vec d) → In (vec-dec d) v h.all → number_list_cmp (list d y) (list d v) ≡ Less
        above v i = elim (in-cases (vec-dec d) v x L (in-alike i (alike-sym h.alike))) [
          | inl q ↦ subst (λ z. number_list_cmp (list d y) (list d z) ≡ Less) (sym q) (reversed number_list_cmp number_list_cmp_total number_list_cmp_exact (list d x) (list d y) e)
          | inr r ↦ vec_all d (λ z. number_list_cmp (list d y) z ≡ Less) L (s.0) v r
        ]

pub sort : (d : ℕ) (S : List (Vec d)) → Distinct (vec-dec d) S → Sorted d S
unfolding IsStrictlySortedBy
sort d [] h = record { all = []; ascending = tt; alike = alike-refl [] }
sort d (x ∷ S) h = let r = sort d S (distinct-tail h) in
    let p = put d x r.all r.ascending (λ i. distinct-out h (in-alike i (alike-sym r.alike))) in
    record { all = p.all; ascending = p.ascending; alike = alike-trans (alike-cons x r.alike) p.alike }

-- ---- independent numbers

pub dot_zeros : (u : List ℤ) (n : ℕ) → dot u (zeros n) ≡ pos 0
dot_zeros [] n = refl
dot_zeros (a ∷ u) zero = refl
dot_zeros (a ∷ u) (suc n) = ap (λ z. a *ℤ pos 0 +ℤ z) (dot_zeros u n) ∙ ring (a ∷ []) (var 0 ⊗ num (pos 0) ⊕ num (pos 0)) (num (pos 0)) tt

flat_numbers : (d : ℕ) (C : List (Vec d)) (b : List ℤ) → Distinct (vec-dec d) C → length b ≡ length (lists d C) → total b ≡ pos 0 → combine b (lists d C) ≡ zeros d → (j : ℕ) → qs (coordinate d j) (fn d C b) C ≡ pos 0
flat_numbers d C b h l tot pt zero = fn-sum d C b h l (λ y. pos 1) ∙ dot-constant b (pos 1) (lists d C) l ∙ ap (λ z. z *ℤ pos 1) tot
flat_numbers d C b h l tot pt (suc j) = qs-fun (λ v. place d v j) (λ v. dot e (list d v)) (fn d C b) (λ v. sym (dot-axis d j v)) C ∙ fn-sum d C b h l (dot e) ∙ sym (dot-combine e b (lists d C)) ∙ ap (dot e) pt ∙ dot_zeros e d
  where
    e : List ℤ
    e = list d (axis d j)

all_zero : (d : ℕ) (C : List (Vec d)) (b : List ℤ) → Distinct (vec-dec d) C → length b ≡ length (lists d C) → ((v : Vec d) → In (vec-dec d) v C → fn d C b v ≡ pos 0) → b ≡ zeros (length (lists d C))
all_zero d [] [] h l z = refl
all_zero d [] (a ∷ b) h l z = absurd (omega arith)
all_zero d (v ∷ C) [] h l z = absurd (omega arith)
all_zero d (v ∷ C) (a ∷ b) h l z = ap₂ (λ y r. y ∷ r) (sym (fn-head d v C a b) ∙ z v (in-head (vec-dec d) v C))
    (all_zero d C b (distinct-tail h) (omega arith) (λ x i. sym (fn-tail d v C a b x (differ x (distinct-out h) i)) ∙ z x (in-tail (vec-dec d) x v C i)))

-- ---- the class

pub record HasClass (d : ℕ) (S : List (Vec d)) : Type 0 where
  pub base : List (Vec d)
  pub by : Vec d
  pub is : IsClass d (lists d base)
  pub alike : Alike S (moved (shift d by) base)

gone : (d : ℕ) (u : Vec d) → list d (shift d (opposite d u) u) ≡ zeros d
gone zero u = refl
gone (suc d) u = ap₂ (λ a l. a ∷ l) at_head (gone d (u.1))
  where
    at_head : u.0 +ℤ negsuc 0 *ℤ u.0 ≡ pos 0
    at_head = omega (arith, ints)

pub has_class : (d : ℕ) (two : 2 ≤ d) (S : List (Vec d)) → Simp (space d two) S → length S ≡ suc d → HasClass d S
unfolding moved
has_class d two S k l = from (sort d S k.distinct)
  where
    at_list : (L : List (Vec d)) → IsStrictlySortedBy number_list_cmp (lists d L) → Alike S L → HasClass d S
    at_list [] asc al = absurd (omega (arith, l, alike_length S [] al))
    at_list (u ∷ L) asc al = record { base = B; by = u; is = cls; alike = subst (λ z. Alike S z) (sym (moved_forth d u (u ∷ L))) al }
      where
        B : List (Vec d)
        B = moved (shift d (opposite d u)) (u ∷ L)

        sB : Simp (space d two) B
        sB = simp-moved d two (opposite d u) (u ∷ L) (simp-alike k al)

        cls : IsClass d (lists d B)
        cls = record {
          simplex = record {
            count = length_lists d B ∙ length_moved (shift d (opposite d u)) (u ∷ L) ∙ sym (alike_length S (u ∷ L) al) ∙ l;
            points = all_lists d B;
            independent = λ b lb tot pt. all_zero d B b sB.distinct lb (sB.free (fn d B b) (flat_numbers d B b sB.distinct lb tot pt));
          };
          ascending = subst (IsStrictlySortedBy number_list_cmp) (sym (lists-moved d (opposite d u) (u ∷ L))) (ascending_translate d (list d (opposite d u)) (lists d (u ∷ L)) (length-list d (opposite d u)) (all_lists d (u ∷ L)) asc);
          first = gone d u;
        }

    from : Sorted d S → HasClass d S
    from h = at_list h.all h.ascending h.alike

-- ---- there is one

top : (d : ℕ) → List (Vec d) → Vec d
top d [] = none d
top d (v ∷ C) = v

zero_shift : (d : ℕ) (u y : Vec d) → list d u ≡ zeros d → add d u y ≡ y
zero_shift zero u y e = refl
zero_shift (suc d) u y e = λ i. (at_head i, zero_shift d (u.1) (y.1) (ap tail_z e) i)
  where
    at_head : u.0 +ℤ y.0 ≡ y.0
    at_head = omega (arith, ints, ap head_z e)

top_moved : (d : ℕ) (y : Vec d) (C : List (Vec d)) → IsClass d (lists d C) → top d (moved (shift d y) C) ≡ y
unfolding moved top
top_moved d y [] k = absurd (omega (arith, k.simplex.count))
top_moved d y (u ∷ C) k = zero_shift d u y k.first

pub one_class : (d : ℕ) (B R : List (Vec d)) (y z : Vec d) → IsClass d (lists d B) → IsClass d (lists d R) → Alike (moved (shift d y) B) (moved (shift d z) R) → B ≡ R
one_class d B R y z b r al = sym (moved_back d y B) ∙ ap₂ (λ a c. moved (shift d (opposite d a)) c) shifts same ∙ moved_back d z R
  where
    asc : (y : Vec d) (C : List (Vec d)) → IsClass d (lists d C) → IsStrictlySortedBy number_list_cmp (lists d (moved (shift d y) C))
    asc y C k = subst (IsStrictlySortedBy number_list_cmp) (sym (lists-moved d y C)) (ascending_translate d (list d y) (lists d C) (length-list d y) (all_lists d C) k.ascending)

    same : moved (shift d y) B ≡ moved (shift d z) R
    same = lists-same d (moved (shift d y) B) (moved (shift d z) R) (same_members number_list_cmp number_list_cmp_total (lists d (moved (shift d y) B)) (lists d (moved (shift d z) R)) (asc y B b) (asc z R r)
        (λ u. (contains_alike d (moved (shift d y) B) (moved (shift d z) R) al u, contains_alike d (moved (shift d z) R) (moved (shift d y) B) (alike-sym al) u)))

    shifts : y ≡ z
    shifts = sym (top_moved d y B b) ∙ ap (top d) same ∙ top_moved d z R r
