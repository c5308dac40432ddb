-- The principal triangulation has a span of at most 1.
use Rattle.std.proofs.Common.{◌≡◌, ℕ, zero, suc, ℤ, pos, negsuc, ◌+ℤ◌, ◌*ℤ◌, ◌<◌, ◌≤◌, refl, arith, sym, subst, List, [], ◌∷◌, length, map, nat_abs, nat_le, cond, Bool, true, false, inl, inr}
use Rattle.std.proofs.lemmas.Int.{ints}
use Rattle.std.specs.List.{AllByRecursion, Contains}
use Rattle.lt_model.specs.Limits.{greatest, gap, class_span, span, span_limit}
use Rattle.lt_model.specs.Vectors.{plus, zeros, unit}
use Rattle.lt_model.specs.Facets.{number_at}
use Rattle.lt_model.specs.Principal.{IsOrder, IsPrincipal, path_from, principal_class}
use Rattle.lt_model.proofs.Sets.{Contains-head, Contains-cases, Contains-none}
use Rattle.lt_model.proofs.Points.{plus-zeros}
use Rattle.lt_geometry.proofs.Paths.{IsBit, IsFree, free_next, free_order}
use Rattle.lt_triang.proofs.Gaps.{greatest_at_most}

abbrev pub AreBits : List ℤ → Type 0
AreBits v = AllByRecursion IsBit v

bit_less : (a b : ℤ) → IsBit a → IsBit b → nat_abs (a +ℤ negsuc 0 *ℤ b) ≤ 1
bit_less a b (inl e) (inl f) = rw (e, f) (omega (arith, ints))
bit_less a b (inl e) (inr f) = rw (e, f) (omega (arith, ints))
bit_less a b (inr e) (inl f) = rw (e, f) (omega (arith, ints))
bit_less a b (inr e) (inr f) = rw (e, f) (omega (arith, ints))

bit_alone : (a : ℤ) → IsBit a → nat_abs a ≤ 1
bit_alone a (inl e) = rw e (omega (arith, ints))
bit_alone a (inr e) = rw e (omega (arith, ints))

bit_turned : (a : ℤ) → IsBit a → nat_abs (negsuc 0 *ℤ a) ≤ 1
bit_turned a (inl e) = rw e (omega (arith, ints))
bit_turned a (inr e) = rw e (omega (arith, ints))

gap_of_bits : (v w : List ℤ) → AreBits v → AreBits w → gap v w ≤ 1
gap_of_bits [] [] h k = omega arith
gap_of_bits [] (b ∷ w) h k = omega (arith, bit_turned b k.0, gap_of_bits [] w h k.1)
gap_of_bits (a ∷ v) [] h k = omega (arith, bit_alone a h.0, all_alone v h.1)
  where
    all_alone : (v : List ℤ) → AreBits v → greatest (map nat_abs v) ≤ 1
    all_alone [] h = omega arith
    all_alone (a ∷ v) h = omega (arith, bit_alone a h.0, all_alone v h.1)
gap_of_bits (a ∷ v) (b ∷ w) h k = omega (arith, bit_less a b h.0 k.0, gap_of_bits v w h.1 k.1)

zeros_are_bits : (d : ℕ) → AreBits (zeros d)
zeros_are_bits zero = tt
zeros_are_bits (suc d) = (inl refl, zeros_are_bits d)

raised_bits : (d k : ℕ) (u : List ℤ) → length u ≡ d → k < d → number_at k u ≡ pos 0 → AreBits u → AreBits (plus u (unit d k))
raised_bits zero k u l h z b = absurd (omega arith)
raised_bits (suc d) k [] l h z b = absurd (omega arith)
raised_bits (suc d) zero (a ∷ u) l h z b =
    let one : a +ℤ pos 1 ≡ pos 1 = omega (arith, ints, z) in
    (inr one, rw (plus-zeros d u (omega arith)) b.1)
raised_bits (suc d) (suc k) (a ∷ u) l h z b =
    let same : a +ℤ pos 0 ≡ a = omega (arith, ints) in
    (subst IsBit (sym same) b.0, raised_bits d k u (omega arith) (omega arith) z b.1)

path_bits : (d : ℕ) (u : List ℤ) (p : List ℕ) → IsFree d u p → AreBits u → (v : List ℤ) → Contains (path_from d u p) v → AreBits v
path_bits d u [] h b v c = elim (Contains-cases u [] v c) [ inl e ↦ subst AreBits e b | inr r ↦ Contains-none v r ]
path_bits d u (k ∷ p) h b v c =
    elim (Contains-cases u (path_from d (plus u (unit d k)) p) v c) [
      | inl e ↦ subst AreBits e b
      | inr r ↦ path_bits d (plus u (unit d k)) p (free_next d k u p h) (raised_bits d k u h.dimension (h.below k (Contains-head k p)) (h.empty k (Contains-head k p)) b) v r
    ]

class_narrow : (d : ℕ) (p : List ℕ) → IsOrder d p → class_span (principal_class d p) ≤ 1
class_narrow d p o =
    let bits : (v : List ℤ) → Contains (principal_class d p) v → AreBits v = path_bits d (zeros d) p (free_order d p o) (zeros_are_bits d) in
    greatest_at_most (λ v. greatest (map (gap v) (principal_class d p))) (principal_class d p) 1
    (λ v c. greatest_at_most (gap v) (principal_class d p) 1 (λ w e. gap_of_bits v w (bits v c) (bits w e)))

-- the list of classes may hold them in any order
pub principal_narrow : (d : ℕ) (t given : List (List (List ℤ))) → IsPrincipal d t → ((s : List (List ℤ)) → Contains given s → Contains t s) → span given ≤ span_limit d
principal_narrow d t given h has =
    let one : span given ≤ 1 = greatest_at_most class_span given 1 (λ s c. of_member s ((h.members s).0 (has s c))) in
    omega (arith, one, some_limit d)
  where
    of_member : (s : List (List ℤ)) → (p : List ℕ) × IsOrder d p × (s ≡ principal_class d p) → class_span s ≤ 1
    of_member s (p, o, e) = rw e (class_narrow d p o)

    some_limit : (d : ℕ) → 1 ≤ span_limit d
    some_limit d = at (nat_le d 5)
      where
        at : (b : Bool) → 1 ≤ cond b 400 100
        at true = omega arith
        at false = omega arith
