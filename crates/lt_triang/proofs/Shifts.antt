-- The one shift that can take a facet to another, and how far it moves the outer vertex.
use Rattle.std.proofs.Common.{◌≡◌, ℕ, zero, suc, ℤ, negsuc, ◌+ℤ◌, ◌*ℤ◌, ◌<◌, ◌≤◌, ◌+◌, refl, ap, add-one, arith, sym, ◌∙◌, subst, List, [], ◌∷◌, length, get_or, nat_abs}
use Rattle.std.proofs.lemmas.Int.{ints}
use Rattle.std.specs.List.{All, Contains, remove}
use Rattle.std.proofs.lemmas.List.Elements.{Contains-get_or, All-nil, All-cons, All-head, All-tail}
use Rattle.lt_model.proofs.Vectors.{dot-plus, dot-scale, plus_comm, plus_assoc}
use Rattle.lt_model.proofs.Squares.{length-scale, length-plus}
use Rattle.lt_model.proofs.Excess.{same_from_dots}
use Rattle.lt_model.specs.Facets.{without, IsBeyond}
use Rattle.lt_model.specs.Vectors.{plus, minus, scale, dot}
use Rattle.lt_model.specs.Simplices.{AllOfDimension, IsClass, translate}
use Rattle.lt_lattice.specs.Ranges.{IsWithin}
use Rattle.lt_model.proofs.Translates.{without-translate, get-translate}
use Rattle.lt_model.proofs.Dependent.{all_without}
use Rattle.lt_model.proofs.Points.{get_dimension}
use Rattle.lt_triang.specs.Bounds.{AreWithin, AreNear}
use Rattle.lt_triang.specs.Across.{IsFacing, IsNotFacing}

pub remove_is : {X : Type 0} (vs : List X) (i : ℕ) → remove vs i ≡ without i vs
remove_is [] zero = refl
remove_is [] (suc i) = refl
remove_is (v ∷ vs) zero = refl
remove_is (v ∷ vs) (suc i) = ap (λ l. v ∷ l) (remove_is vs i)

pub get-without_below : (i k : ℕ) (vs : List (List ℤ)) → k < i → get_or vs k [] ≡ get_or (without i vs) k []
get-without_below i k [] h = refl
get-without_below zero k (v ∷ vs) h = absurd (omega arith)
get-without_below (suc i) zero (v ∷ vs) h = refl
get-without_below (suc i) (suc k) (v ∷ vs) h = get-without_below i k vs (omega arith)

pub get-without_above : (i k : ℕ) (vs : List (List ℤ)) → i ≤ k → get_or vs (k + 1) [] ≡ get_or (without i vs) k []
get-without_above i k [] h = refl
get-without_above zero k (v ∷ vs) h = rw (add-one k) refl
get-without_above (suc i) zero (v ∷ vs) h = absurd (omega arith)
get-without_above (suc i) (suc k) (v ∷ vs) h =
    let e : suc k + 1 ≡ suc (k + 1) = omega arith in
    rw e (get-without_above i k vs (omega arith))

pub length_without : (i : ℕ) (vs : List (List ℤ)) → i < length vs → suc (length (without i vs)) ≡ length vs
length_without i [] h = absurd (omega arith)
length_without zero (v ∷ vs) h = refl
length_without (suc i) (v ∷ vs) h = ap suc (length_without i vs (omega arith))

pub contains_without : (i : ℕ) (vs : List (List ℤ)) (x : List ℤ) → Contains (without i vs) x → Contains vs x
contains_without i [] x c = c
contains_without zero (v ∷ vs) x (k, p, e) = (suc k, omega arith, e)
contains_without (suc i) (v ∷ vs) x (zero, p, e) = (0, omega arith, e)
contains_without (suc i) (v ∷ vs) x (suc k, p, e) =
    let r = contains_without i vs x (k, omega arith, e) in
    (suc r.0, omega (arith, r.1), r.2)

-- a shift that takes the one facet to the other is the difference of their first points
pub shift_is : (d : ℕ) (mine theirs : List (List ℤ)) (p : List ℤ) → AllOfDimension d theirs → 0 < length theirs → length p ≡ d → translate p theirs ≡ mine → p ≡ minus (get_or mine 0 []) (get_or theirs 0 [])
shift_is d mine [] p all some lp e = absurd (omega arith)
shift_is d mine (v ∷ vs) p all some lp e =
    subst (λ (l : List (List ℤ)). p ≡ minus (get_or l 0 []) v) e
    (same_from_dots p (minus (plus v p) v) (lp ∙ sym (length-plus (plus v p) (scale (negsuc 0) v) (length-plus v p (all.0 ∙ sym lp) ∙ sym (length-scale (negsuc 0) v)) ∙ length-plus v p (all.0 ∙ sym lp) ∙ all.0)) at)
  where
    at : (u : List ℤ) → dot u p ≡ dot u (minus (plus v p) v)
    at u = sym (dot-plus u (plus v p) (scale (negsuc 0) v) ∙ (rw (dot-plus u v p, dot-scale u (negsuc 0) v) (end (dot u v) (dot u p))))
      where
        end : (x y : ℤ) → (x +ℤ y) +ℤ negsuc 0 *ℤ x ≡ y
        end x y = omega (arith, ints)

-- the one shift that may do
pub only_shift : (d : ℕ) (s : List (List ℤ)) (i : ℕ) (next : List (List ℤ)) (j : ℕ) (p : List ℤ) → AllOfDimension d next → 0 < length (without j next) → IsFacing d s i next p j → (p ≡ minus (get_or (without i s) 0 []) (get_or (without j next) 0 [])) × (translate p (without j next) ≡ without i s)
only_shift d s i next j p all some h =
    let e : translate p (without j next) ≡ without i s = sym (without-translate p j next) ∙ h.facet in
    (shift_is d (without i s) (without j next) p (all_without (λ v. length v ≡ d) j next all) some h.dimension e, e)

-- ---- bounds

negated_within : (m : ℕ) (x : List ℤ) → All (IsWithin m) x → All (IsWithin m) (scale (negsuc 0) x)
negated_within m [] h = All-nil (IsWithin m)
negated_within m (a ∷ x) h =
    All-cons (IsWithin m) (negsuc 0 *ℤ a) (scale (negsuc 0) x) (small a (All-head (IsWithin m) a x h)) (negated_within m x (All-tail (IsWithin m) a x h))
  where
    small : (a : ℤ) → nat_abs a ≤ m → nat_abs (negsuc 0 *ℤ a) ≤ m
    small a h = omega (arith, ints)

pub within_plus : (m n : ℕ) (x y : List ℤ) → length x ≡ length y → All (IsWithin m) x → All (IsWithin n) y → All (IsWithin (m + n)) (plus x y)
within_plus m n [] [] l hx hy = All-nil (IsWithin (m + n))
within_plus m n [] (b ∷ y) l hx hy = absurd (omega arith)
within_plus m n (a ∷ x) [] l hx hy = absurd (omega arith)
within_plus m n (a ∷ x) (b ∷ y) l hx hy =
    All-cons (IsWithin (m + n)) (a +ℤ b) (plus x y) (small a b (All-head (IsWithin m) a x hx) (All-head (IsWithin n) b y hy)) (within_plus m n x y (omega arith) (All-tail (IsWithin m) a x hx) (All-tail (IsWithin n) b y hy))
  where
    small : (a b : ℤ) → nat_abs a ≤ m → nat_abs b ≤ n → nat_abs (a +ℤ b) ≤ m + n
    small a b ha hb = omega (arith, ints)

pub within_minus : (m n : ℕ) (x y : List ℤ) → length x ≡ length y → All (IsWithin m) x → All (IsWithin n) y → All (IsWithin (m + n)) (minus x y)
within_minus m n x y l hx hy = within_plus m n x (scale (negsuc 0) y) (l ∙ sym (length-scale (negsuc 0) y)) hx (negated_within n y hy)

pub within_more : (m n : ℕ) (x : List ℤ) → m ≤ n → All (IsWithin m) x → All (IsWithin n) x
within_more m n x le h k d l = more (h k d l)
  where
    more : {k : ℕ} → k ≤ m → k ≤ n
    more {k} h = omega arith

-- a vertex moved by the difference of the first points stays small
pub outer_within : (m n : ℕ) (a x t : List ℤ) → length a ≡ length t → length x ≡ length t → All (IsWithin m) (minus a t) → All (IsWithin n) x → All (IsWithin (m + n)) (plus a (minus x t))
outer_within m n a x t la lx near small =
    let q : List ℤ = scale (negsuc 0) t in
    let e : plus a (plus x q) ≡ plus (plus a q) x = ap (plus a) (plus_comm x q) ∙ sym (plus_assoc a q x) in
    subst (λ (l : List ℤ). All (IsWithin (m + n)) l) (sym e) (within_plus m n (plus a q) x (length-plus a q (la ∙ sym (length-scale (negsuc 0) t)) ∙ la ∙ sym lx) near small)

pub count_without : (d i : ℕ) (vs : List (List ℤ)) → 2 ≤ d → length vs ≡ suc d → i < suc d → 0 < length (without i vs)
count_without d i vs low l p = omega (arith, length_without i vs (omega arith), l)

pub facing_made : (d : ℕ) (s : List (List ℤ)) (i : ℕ) (next : List (List ℤ)) (j : ℕ) (p : List ℤ) → length p ≡ d → j < length next → translate p (without j next) ≡ without i s → IsBeyond s i (plus (get_or next j []) p) → IsFacing d s i next p j
facing_made d s i next j p lp lj e b = record {
  dimension = lp;
  facet = without-translate p j next ∙ e;
  beyond = subst (λ (w : List ℤ). IsBeyond s i w) (sym (get-translate p j next [] [] lj)) b;
}

pub not_moved : (d : ℕ) (s : List (List ℤ)) (i : ℕ) (next : List (List ℤ)) (j : ℕ) (p : List ℤ) → AllOfDimension d next → 0 < length (without j next) → p ≡ minus (get_or (without i s) 0 []) (get_or (without j next) 0 []) → (translate p (without j next) ≡ without i s → ⊥) → IsNotFacing d s i next j
not_moved d s i next j p all some e never q h =
    let k = only_shift d s i next j q all some h in
    never (ap (λ r. translate r (without j next)) (e ∙ sym k.0) ∙ k.1)

pub not_beyond : (d : ℕ) (s : List (List ℤ)) (i : ℕ) (next : List (List ℤ)) (j : ℕ) (p : List ℤ) → AllOfDimension d next → 0 < length (without j next) → j < length next → p ≡ minus (get_or (without i s) 0 []) (get_or (without j next) 0 []) → (IsBeyond s i (plus (get_or next j []) p) → ⊥) → IsNotFacing d s i next j
not_beyond d s i next j p all some lj e never q h =
    let k = only_shift d s i next j q all some h in
    let same : q ≡ p = k.0 ∙ sym e in
    never (subst (λ (r : List ℤ). IsBeyond s i (plus (get_or next j []) r)) same (subst (λ (w : List ℤ). IsBeyond s i w) (get-translate q j next [] [] lj) h.beyond))

pub get_within : (m k : ℕ) (vs : List (List ℤ)) (e : List ℤ) → AreWithin m vs → k < length vs → All (IsWithin m) (get_or vs k e)
get_within m k [] e all p = absurd (omega arith)
get_within m zero (v ∷ vs) e all p = all.0
get_within m (suc k) (v ∷ vs) e all p = get_within m k vs e all.1 (omega arith)

-- a moved list is within bounds only if each moved point is
pub each_moved : (m k : ℕ) (p : List ℤ) (vs : List (List ℤ)) (e : List ℤ) → AreWithin m (translate p vs) → k < length vs → All (IsWithin m) (plus (get_or vs k e) p)
each_moved m k p [] e all l = absurd (omega arith)
each_moved m zero p (v ∷ vs) e all l = all.0
each_moved m (suc k) p (v ∷ vs) e all l = each_moved m k p vs e all.1 (omega arith)

-- what is known of the shift of two facets
pub record ShiftBounds (d m : ℕ) (next : List (List ℤ)) (j : ℕ) (p : List ℤ) : Type 0 where
  pub dimension : length p ≡ d
  pub outer_dimension : length (plus (get_or next j []) p) ≡ d
  pub outer : All (IsWithin (m + m)) (plus (get_or next j []) p)

pub shift_bounds : (d m : ℕ) (s : List (List ℤ)) (i : ℕ) (next : List (List ℤ)) (j : ℕ) (p : List ℤ) → 2 ≤ d → IsClass d s → IsClass d next → i < suc d → j < suc d → AreWithin m s → AreNear m next →
    p ≡ minus (get_or (without i s) 0 []) (get_or (without j next) 0 []) → ShiftBounds d m next j p
shift_bounds d m s i next j p low k k' pi pj ws near e =
    let mine : List (List ℤ) = without i s in
    let theirs : List (List ℤ) = without j next in
    let some : 0 < length mine = count_without d i s low k.simplex.count pi in
    let some' : 0 < length theirs = count_without d j next low k'.simplex.count pj in
    let am : AllOfDimension d mine = all_without (λ v. length v ≡ d) i s k.simplex.points in
    let at : AllOfDimension d theirs = all_without (λ v. length v ≡ d) j next k'.simplex.points in
    let a : List ℤ = get_or mine 0 [] in
    let b : List ℤ = get_or theirs 0 [] in
    let v : List ℤ = get_or next j [] in
    let la : length a ≡ d = get_dimension d 0 mine [] am some in
    let lb : length b ≡ d = get_dimension d 0 theirs [] at some' in
    let lv : length v ≡ d = get_dimension d j next [] k'.simplex.points (omega (arith, k'.simplex.count)) in
    let lp : length p ≡ d = ap length e ∙ length-plus a (scale (negsuc 0) b) (la ∙ sym lb ∙ sym (length-scale (negsuc 0) b)) ∙ la in
    let wa : All (IsWithin m) a = get_within m 0 mine [] (all_without (All (IsWithin m)) i s ws) some in
    let cv : Contains next v = Contains-get_or next j [] (omega (arith, k'.simplex.count)) in
    let cb : Contains next b = contains_without j next b (Contains-get_or theirs 0 [] some') in
    let o : All (IsWithin (m + m)) (plus v (minus a b)) = outer_within m m v a b (lv ∙ sym lb) (la ∙ sym lb) (near v b cv cb) wa in
    record {
      dimension = lp;
      outer_dimension = length-plus v p (lv ∙ sym lp) ∙ lv;
      outer = subst (λ (q : List ℤ). All (IsWithin (m + m)) (plus v q)) (sym e) o;
    }

pub facet_near : (m i : ℕ) (s : List (List ℤ)) → AreNear m s → 0 < length (without i s) → All (λ v. All (IsWithin m) (minus v (get_or (without i s) 0 []))) (without i s)
facet_near m i s near some k d l =
    near (get_or (without i s) k d) (get_or (without i s) 0 []) (contains_without i s (get_or (without i s) k d) (Contains-get_or (without i s) k d l)) (contains_without i s (get_or (without i s) 0 []) (Contains-get_or (without i s) 0 [] some))

pub facet_dimension : (d i : ℕ) (s : List (List ℤ)) (p : List ℤ) → AllOfDimension d s → 0 < length (without i s) → p ≡ get_or (without i s) 0 [] → AllOfDimension (length p) (without i s)
facet_dimension d i s p all some e =
    let a : AllOfDimension d (without i s) = all_without (λ v. length v ≡ d) i s all in
    subst (λ (n : ℕ). AllOfDimension n (without i s)) (sym (ap length e ∙ get_dimension d 0 (without i s) [] a some)) a
