-- The greatest radius of the members so far.
use Rattle.std.proofs.Common.{◌≡◌, ℕ, zero, suc, ℤ, pos, negsuc, ◌-ℤ◌, ◌*ℤ◌, refl, ◌<ℤ◌, ◌≤ℤ◌, ◌+◌, ◌<◌, ◌≤◌, ap, arith, sym, subst, List, [], ◌∷◌, length, get_or}
use Rattle.std.proofs.lemmas.Int.{ints}
use Rattle.std.proofs.lemmas.List.Elements.{Contains-get_or}
use Rattle.std.specs.declared.cmp.Ordering.{Ordering}
use Rattle.std.specs.declared.cmp.Ordering.TheVariants.{Less, Equal, Greater}
use Rattle.std.specs.Ordering.{MatchOrdering}
use native.Mathlib.Decide.{dec_le}
use Rattle.lt_model.proofs.Ring.{ring, var, ◌⊗◌}
use Rattle.lt_model.proofs.Inequalities.{mul_le_mul_z, mul_lt_mul_z, le_of_mul_le_mul_z}
use Rattle.lt_model.specs.Triangulations.{IsDelaunay}
use Rattle.lt_num.specs.Fractions.{Ratio}
use Rattle.lt_laws.proofs.Circumradii.{centres_are_unique}
use Rattle.lt_cover.specs.Covers.{IsRadius, IsCover}

-- a/b <= c/e and c/e <= f/g, where e is positive and b and g are not negative
through : (a b c e f g : ℤ) → pos 0 ≤ℤ b → pos 0 <ℤ e → pos 0 ≤ℤ g → (a *ℤ e) ≤ℤ (c *ℤ b) → (c *ℤ g) ≤ℤ (f *ℤ e) → (a *ℤ g) ≤ℤ (f *ℤ b)
through a b c e f g pb pe pg h k =
    let x = mul_le_mul_z g (a *ℤ e) (c *ℤ b) pg h in
    let y = mul_le_mul_z b (c *ℤ g) (f *ℤ e) pb k in
    let e1 : g *ℤ (a *ℤ e) ≡ e *ℤ (a *ℤ g) = ring (a ∷ e ∷ g ∷ []) (var 2 ⊗ (var 0 ⊗ var 1)) (var 1 ⊗ (var 0 ⊗ var 2)) tt in
    let e2 : g *ℤ (c *ℤ b) ≡ b *ℤ (c *ℤ g) = ring (c ∷ b ∷ g ∷ []) (var 2 ⊗ (var 0 ⊗ var 1)) (var 1 ⊗ (var 0 ⊗ var 2)) tt in
    let e3 : b *ℤ (f *ℤ e) ≡ e *ℤ (f *ℤ b) = ring (f ∷ e ∷ b ∷ []) (var 2 ⊗ (var 0 ⊗ var 1)) (var 1 ⊗ (var 0 ⊗ var 2)) tt in
    le_of_mul_le_mul_z e (a *ℤ g) (f *ℤ b) pe (omega (arith, ints, x, y, e1, e2, e3))

-- the same with the second less
strictly : (a b c e f g : ℤ) → pos 0 <ℤ b → pos 0 <ℤ e → pos 0 ≤ℤ g → (a *ℤ e) ≤ℤ (c *ℤ b) → (c *ℤ g) <ℤ (f *ℤ e) → (a *ℤ g) <ℤ (f *ℤ b)
strictly a b c e f g pb pe pg h k =
    let x = mul_le_mul_z g (a *ℤ e) (c *ℤ b) pg h in
    let y = mul_lt_mul_z b (c *ℤ g) (f *ℤ e) pb k in
    let e1 : g *ℤ (a *ℤ e) ≡ e *ℤ (a *ℤ g) = ring (a ∷ e ∷ g ∷ []) (var 2 ⊗ (var 0 ⊗ var 1)) (var 1 ⊗ (var 0 ⊗ var 2)) tt in
    let e2 : g *ℤ (c *ℤ b) ≡ b *ℤ (c *ℤ g) = ring (c ∷ b ∷ g ∷ []) (var 2 ⊗ (var 0 ⊗ var 1)) (var 1 ⊗ (var 0 ⊗ var 2)) tt in
    let e3 : b *ℤ (f *ℤ e) ≡ e *ℤ (f *ℤ b) = ring (f ∷ e ∷ b ∷ []) (var 2 ⊗ (var 0 ⊗ var 1)) (var 1 ⊗ (var 0 ⊗ var 2)) tt in
    less e (a *ℤ g) (f *ℤ b) pe (omega (arith, ints, x, y, e1, e2, e3))
  where
    less : (e u v : ℤ) → pos 0 <ℤ e → (e *ℤ u) <ℤ (e *ℤ v) → u <ℤ v
    less e u v pe h = go (v -ℤ u) refl
      where
        go : (z : ℤ) → v -ℤ u ≡ z → u <ℤ v
        go (pos zero) k =
            let s : u ≡ v = omega (arith, ints, k) in
            let m : e *ℤ u ≡ e *ℤ v = ap (λ (x : ℤ). e *ℤ x) s in
            absurd (omega (arith, ints, m, h))
        go (pos (suc n)) k = omega (arith, ints, k)
        go (negsuc n) k = let l = le_of_mul_le_mul_z e u v pe (omega (arith, ints, h)) in absurd (omega (arith, ints, l, k))

-- where the first isn't less, it is at least the second
pub not_less : (o : Ordering) (x y : ℤ) → MatchOrdering o (x <ℤ y) (x ≡ y) (y <ℤ x) → (o ≡ Less → ⊥) → y ≤ℤ x
not_less Less x y h n = absurd (n refl)
not_less Equal x y h n = omega (arith, ints, h)
not_less Greater x y h n = omega (arith, ints, h)

pub record IsBest (d : ℕ) (q : List ℤ) (t : List (List (List ℤ))) (m : ℕ) (r : Ratio) (k : ℕ) : Type 0 where
  pub within : k < m
  pub radius : IsRadius d q (get_or t k []) r
  pub greatest : (j : ℕ) (x : Ratio) → j < m → IsRadius d q (get_or t j []) x → (x.num *ℤ r.den) ≤ℤ (r.num *ℤ x.den)
  pub first : (j : ℕ) (x : Ratio) → j < k → IsRadius d q (get_or t j []) x → (x.num *ℤ r.den) <ℤ (r.num *ℤ x.den)

positive : (d : ℕ) (q : List ℤ) (s : List (List ℤ)) (r : Ratio) → IsRadius d q s r → pos 0 <ℤ r.den
positive d q s r h = h.2.denominator

module _ (d : ℕ) (q : List ℤ) (t : List (List (List ℤ))) (k : IsDelaunay d q t) where
  one_radius : (j : ℕ) (x y : Ratio) → j < length t → IsRadius d q (get_or t j []) x → IsRadius d q (get_or t j []) y → x.num *ℤ y.den ≡ y.num *ℤ x.den
  one_radius j x y l a b = (centres_are_unique d q (get_or t j []) x.num x.den a.0 y.num y.den b.0 a.1 b.1 k.positive ((k.members (get_or t j [])).0 (Contains-get_or t j [] l)).0.simplex a.2 b.2).1

  pub first_best : (r : Ratio) → IsRadius d q (get_or t 0 []) r → IsBest d q t 1 r 0
  first_best r a = record {
    within = omega arith;
    radius = a;
    greatest = λ j x l b. (
        let z : 0 ≡ j = omega arith in
        let e = one_radius 0 x r k.occupied (subst (λ (i : ℕ). IsRadius d q (get_or t i []) x) (sym z) b) a in
        omega (arith, ints, e)
        );
    first = λ j x l b. absurd (omega (arith, l));
  }

  pub better : (m : ℕ) (r n : Ratio) (i : ℕ) → m < length t → IsBest d q t m r i → IsRadius d q (get_or t m []) n → (r.num *ℤ n.den) <ℤ (n.num *ℤ r.den) → IsBest d q t (m + 1) n m
  better m r n i l h a less = record { within = omega arith; radius = a; greatest = λ j x lj b. most j x lj b (dec_le m j); first = below }
    where
      below : (j : ℕ) (x : Ratio) → j < m → IsRadius d q (get_or t j []) x → (x.num *ℤ n.den) <ℤ (n.num *ℤ x.den)
      below j x lj b =
          let p = positive d q (get_or t m []) n a in
          strictly x.num x.den r.num r.den n.num n.den (positive d q (get_or t j []) x b) (positive d q (get_or t i []) r h.radius) (omega (arith, ints, p)) (h.greatest j x lj b) less

      most : (j : ℕ) (x : Ratio) → j < m + 1 → IsRadius d q (get_or t j []) x → Dec (m ≤ j) → (x.num *ℤ n.den) ≤ℤ (n.num *ℤ x.den)
      most j x lj b (yes y) =
          let z : j ≡ m = omega arith in
          let e = one_radius m x n l (subst (λ (i : ℕ). IsRadius d q (get_or t i []) x) z b) a in
          omega (arith, ints, e)
      most j x lj b (no y) = let w = below j x (omega arith) b in omega (arith, ints, w)

  pub worse : (m : ℕ) (r n : Ratio) (i : ℕ) → m < length t → IsBest d q t m r i → IsRadius d q (get_or t m []) n → (n.num *ℤ r.den) ≤ℤ (r.num *ℤ n.den) → IsBest d q t (m + 1) r i
  worse m r n i l h a less = record { within = (let w = h.within in omega arith); radius = h.radius; greatest = λ j x lj b. most j x lj b (dec_le m j); first = h.first }
    where
      most : (j : ℕ) (x : Ratio) → j < m + 1 → IsRadius d q (get_or t j []) x → Dec (m ≤ j) → (x.num *ℤ r.den) ≤ℤ (r.num *ℤ x.den)
      most j x lj b (yes y) =
          let z : j ≡ m = omega arith in
          let e = one_radius m x n l (subst (λ (i : ℕ). IsRadius d q (get_or t i []) x) z b) a in
          let p = positive d q (get_or t j []) x b in
          let o = positive d q (get_or t i []) r h.radius in
          through x.num x.den n.num n.den r.num r.den (omega (arith, ints, p)) (positive d q (get_or t m []) n a) (omega (arith, ints, o)) (omega (arith, ints, e)) less
      most j x lj b (no y) = h.greatest j x (omega arith) b

  pub covered : (m : ℕ) (r : Ratio) (i : ℕ) → m ≡ length t → IsBest d q t m r i → IsCover d q t r i
  covered m r i e h = record {
    within = (let w = h.within in omega (arith, e, w));
    radius = h.radius;
    greatest = λ j x l b. h.greatest j x (omega (arith, e, l)) b;
    first = h.first;
  }
