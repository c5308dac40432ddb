-- The expression over a class that a solution gives: in lowest terms, and how large its numbers are.
use Rattle.std.proofs.Common.{◌≡◌, ℕ, suc, ℤ, ◌-ℤ◌, ◌<◌, ◌≤◌, ◌+◌, ◌*◌, ◌^◌, arith, sym, subst, List, [], ◌∷◌, length, get_or, nat_abs}
use Rattle.std.proofs.lemmas.Int.{ints}
use Rattle.std.specs.List.{All, Contains}
use Rattle.std.proofs.lemmas.List.Elements.{All-cons, All-head, All-tail, Contains-get_or}
use Rattle.lt_model.specs.Cones.{AreBelow}
use Rattle.lt_model.specs.Vectors.{plus, total, IsPrimitive}
use Rattle.lt_model.specs.Simplices.{AllOfDimension, IsClass}
use Rattle.lt_model.specs.Limits.{span_limit}
use Rattle.lt_model.proofs.Translates.{get-translate}
use Rattle.lt_lattice.specs.Ranges.{IsWithin}
use Rattle.lt_triang.specs.Across.{IsFirstAcross, IsOuterVertex}
use Rattle.lt_triang.specs.Kept.{IsTriangulation, dimension_of}
use Rattle.lt_triang.proofs.Gaps.{member_near, within_from_near, twice_limit, double_limit}
use Rattle.lt_triang.proofs.Shifts.{ShiftBounds, shift_bounds, only_shift, count_without, within_more}
use Rattle.lt_triang.proofs.Made.{classes_of, neighbour_from}

-- a number more keeps a list primitive
pub primitive_more : (c a : ℤ) (b : List ℤ) → IsPrimitive (c ∷ b) → IsPrimitive (c ∷ a ∷ b)
primitive_more c a b h g [] e = absurd (cc)
primitive_more c a b h g (x ∷ []) e = absurd (cc)
primitive_more c a b h g (x ∷ y ∷ m) e = h g (x ∷ m) (cc)

pub below_all : (den : ℤ) (nums : List ℤ) → AreBelow (2 ^ 56) (den ∷ nums) → nat_abs (total nums) ≤ 6 * 2 ^ 56 → AreBelow (2 ^ 59) (den ∷ (den -ℤ total nums) ∷ nums)
below_all den nums h t =
    let P : ℤ → Type 0 = λ x. nat_abs x < 2 ^ 59 in
    let first : nat_abs den < 2 ^ 56 = All-head (λ x. nat_abs x < 2 ^ 56) den nums h in
    let rest : AreBelow (2 ^ 56) nums = All-tail (λ x. nat_abs x < 2 ^ 56) den nums h in
    All-cons P den ((den -ℤ total nums) ∷ nums) (omega (arith, first))
    (All-cons P (den -ℤ total nums) nums (difference den (total nums) first t) (λ k d l. more (get_or nums k d) (rest k d l)))
  where
    more : (x : ℤ) → nat_abs x < 2 ^ 56 → nat_abs x < 2 ^ 59
    more x h = omega arith

    difference : (a b : ℤ) → nat_abs a < 2 ^ 56 → nat_abs b ≤ 6 * 2 ^ 56 → nat_abs (a -ℤ b) < 2 ^ 59
    difference a b h k = omega (arith, ints)

-- the dimension of a triangulation is that of its members
pub dimension_is : (d : ℕ) (t : List (List (List ℤ))) → IsTriangulation d t → d ≡ dimension_of t
dimension_is d t h =
    let k : IsClass d (get_or t 0 []) = h.classes (get_or t 0 []) (Contains-get_or t 0 [] h.occupied) in
    omega (arith, k.simplex.count)

pub member_dimension : (d : ℕ) (t : List (List (List ℤ))) (n : ℕ) → IsTriangulation d t → n < length t → length (get_or t n []) ≡ suc d
member_dimension d t n h l =
    let k : IsClass d (get_or t n []) = h.classes (get_or t n []) (Contains-get_or t n [] l) in
    k.simplex.count

-- the outer vertex of the first neighbour lies near the member
pub record IsOuter (d : ℕ) (t : List (List (List ℤ))) (s : List (List ℤ)) (i : ℕ) (next : List (List ℤ)) (p : List ℤ) (j : ℕ) : Type 0 where
  pub place : j < length next
  pub all : AllOfDimension (length p) next
  pub dimension : length (plus (get_or next j []) p) ≡ d
  pub near : All (IsWithin (2 * span_limit d)) (plus (get_or next j []) p)
  pub point : All (IsWithin (2 ^ 20)) (plus (get_or next j []) p)
  pub vertex : IsOuterVertex d t s i (plus (get_or next j []) p)

pub outer : (d : ℕ) (t : List (List (List ℤ))) (s : List (List ℤ)) (i n : ℕ) (p : List ℤ) (j : ℕ) → IsTriangulation d t → Contains t s → i < suc d → IsFirstAcross d t s i n p j → IsOuter d t s i (get_or t n []) p j
outer d t s i n p j h m hi f =
    let next : List (List ℤ) = get_or t n [] in
    let cn : Contains t next = Contains-get_or t n [] f.member in
    let k : IsClass d s = h.classes s m in
    let k' : IsClass d next = h.classes next cn in
    let a = classes_of d t h in
    let lj : j < length next = omega (arith, k'.simplex.count, f.place) in
    let only = only_shift d s i next j p k'.simplex.points (count_without d j next h.low k'.simplex.count f.place) f.facing in
    let b : ShiftBounds d (span_limit d) next j p = shift_bounds d (span_limit d) s i next j p h.low k k' hi f.place (within_from_near (span_limit d) d s k (member_near d t s a m)) (member_near d t next a cn) only.0 in
    record {
      place = lj;
      all = subst (λ (e : ℕ). AllOfDimension e next) (sym f.facing.dimension) k'.simplex.points;
      dimension = b.outer_dimension;
      near = within_more (span_limit d + span_limit d) (2 * span_limit d) (plus (get_or next j []) p) (omega (arith, double_limit d)) b.outer;
      point = within_more (span_limit d + span_limit d) (2 ^ 20) (plus (get_or next j []) p) (omega (arith, twice_limit d)) b.outer;
      vertex = record { next = next; shift = p; outer = j; neighbour = neighbour_from d t s i n p j f; vertex = sym (get-translate p j next [] [] lj) };
    }
