-- Finitely many regulators, and the laws on wall forms with no premise but local to global.
use Rattle.std.proofs.Common.{List, [], ◌∷◌, length, map, ◌≡◌, ◌≢◌, ℕ, ◌<◌, ◌≤◌, ◌⊎◌, inl, inr, sym, ◌∙◌, ap, ap₂, subst, arith, ℤ, pos, negsuc, neg_ℤ, ◌+ℤ◌, ◌-ℤ◌, ◌*ℤ◌, ◌<ℤ◌, ◌≤ℤ◌}
use Rattle.std.proofs.lemmas.Int.{ints}
use Rattle.std.specs.List.{Contains}
use Rattle.lt_model.proofs.Ring.{ring, ring_by_two, var, num, neg, ◌⊕◌, ◌⊖◌, ◌⊗◌}
use Rattle.lt_model.proofs.Inequalities.{mul_nonneg_z, mul_pos_z}
use Rattle.lt_walls.proofs.Lists.{Alike, alike-sym, alike-trans, alike-cons, alike-cancel, In, in-head, in-alike, front, Distinct, upd}
use Rattle.lt_walls.proofs.Space.{Simp, Expr, Strict, Definite, excess, excess-is, rescale, Opp, opp-alike, rise, opp-expr, opp-excess}
use Rattle.lt_walls.proofs.Walls.{Tri}
use Rattle.lt_walls.proofs.Ellipsoid.{expr-alike, excess-alike, one-outside}
use Rattle.lt_walls.proofs.Margins.{together, larger, Finite, flip-theorem}
use Rattle.lt_walls.proofs.Flip.{Flipped}
use Rattle.lt_walls.proofs.Strictly.{Scale}
use Rattle.lt_geometry.proofs.Points.{Vec, list, of_list, vec-dec, Form, at, mixed_form, space}
use Rattle.lt_geometry.proofs.Members.{lists, from_in, Placed, placed-alike, placed-simp, ascending-distinct}
use Rattle.lt_geometry.proofs.Ties.{fn, fn-sum, from_numbers, lists-same, neighbours}
use Rattle.lt_geometry.proofs.Pairs.{Read, read, unique, regular, rises, class_points, base_placed}
use Rattle.lt_geometry.proofs.WallLaws.{IsLocal, Regulators, tri, wall-is-definite, moves, spread}
use Rattle.lt_model.specs.Vectors.{dot}
use Rattle.lt_model.specs.Forms.{value, IsPositiveDefinite}
use Rattle.lt_model.specs.Simplices.{IsExpression}
use Rattle.lt_model.specs.Triangulations.{IsDelaunay}
use Rattle.lt_model.specs.Walls.{IsRegulator, IsWallForm, IsPair}
use Rattle.lt_model.proofs.Sets.{Contains-head, Contains-tail, Contains-cases, Contains-none}
use Rattle.lt_geometry.proofs.Regulators.{from_multiple}

together_list : {X : Type 0} → (Z : X → ℤ → Type 0) → ((v : X) (m n : ℤ) → m ≤ℤ n → Z v m → Z v n) → (L : List X) → ((v : X) → Contains L v → (m : ℤ) × Z v m) → (m : ℤ) × ((v : X) → Contains L v → Z v m)
together_list Z up [] h = (pos 0, λ v i. Contains-none v i)
together_list {X} Z up (x ∷ S) h = go (h x (Contains-head x S)) (together_list Z up S (λ v i. h v (Contains-tail x S v i)))
  where
    all : (n : ℤ) → Z x n → ((v : X) → Contains S v → Z v n) → (v : X) → (x ≡ v) ⊎ Contains S v → Z v n
    all n a k v (inl q) = subst (λ y. Z y n) q a
    all n a k v (inr i) = k v i

    go : (m : ℤ) × Z x m → (m : ℤ) × ((v : X) → Contains S v → Z v m) → (m : ℤ) × ((v : X) → Contains (x ∷ S) v → Z v m)
    go a b = let n = larger (a.0) (b.0) in (n.0, λ v i. all (n.0) (up x (a.0) (n.0) (n.1) (a.1)) (λ u j. up u (b.0) (n.0) (n.2) ((b.1) u j)) v (Contains-cases x S v i))

-- the neighbour at a vertex, with a number from which on m W +- B rises there where W does
record Wide (d : ℕ) (two : 2 ≤ d) (t : List (List (List ℤ))) (w b : Form d) (C : List (Vec d)) (v : Vec d) (m : ℤ) : Type 0 where
  rest : List (Vec d)
  alike : Alike C (v ∷ rest)
  u : Vec d
  placed : Placed d t (u ∷ rest)
  opp : Opp (space d two) v u rest
  later : pos 0 <ℤ rise (at d w) opp → (mu : ℤ) → m ≤ℤ mu → (pos 0 <ℤ (mu *ℤ rise (at d w) opp +ℤ rise (at d b) opp)) × (pos 0 <ℤ (mu *ℤ rise (at d w) opp -ℤ rise (at d b) opp))

wide : (d : ℕ) (two : 2 ≤ d) (q : Form d) (t : List (List (List ℤ))) → IsDelaunay d q.numbers t → (w b : Form d) (C : List (Vec d)) → Placed d t C → (v : Vec d) → In (vec-dec d) v C → (m : ℤ) × Wide d two t w b C v m
wide d two q t k w b C h v i = (m.0, record { rest = f.0; alike = f.1; u = n.0; placed = n.1; opp = n.2; later = λ l mu g. (omega (arith, ints, g, m.1, m.2, more l mu g), omega (arith, ints, g, m.1, m.2, more l mu g)) })
  where
    f : (R : List (Vec d)) × Alike C (v ∷ R)
    f = front (vec-dec d) v C i

    n : (u : Vec d) × Placed d t (u ∷ f.0) × Opp (space d two) v u (f.0)
    n = neighbours d two q t k v (f.0) (placed-alike d t h (f.1))

    x : ℤ
    x = rise (at d b) (n.2)

    m : (k : ℤ) × ((x +ℤ pos 1) ≤ℤ k) × ((pos 1 -ℤ x) ≤ℤ k)
    m = larger (x +ℤ pos 1) (pos 1 -ℤ x)

    more : pos 0 <ℤ rise (at d w) (n.2) → (mu : ℤ) → m.0 ≤ℤ mu → mu ≤ℤ (mu *ℤ rise (at d w) (n.2))
    more l mu g = omega (arith, ints, mul_nonneg_z mu (rise (at d w) (n.2) -ℤ pos 1) (omega (arith, ints, g, m.1, m.2)) (omega (arith, ints, l)), ring (mu ∷ (rise (at d w) (n.2)) ∷ []) (var 0 ⊗ (var 1 ⊖ num (pos 1))) (var 0 ⊗ var 1 ⊖ var 0) tt)

wide-up : (d : ℕ) (two : 2 ≤ d) (t : List (List (List ℤ))) (w b : Form d) (C : List (Vec d)) (v : Vec d) (m n : ℤ) → m ≤ℤ n → Wide d two t w b C v m → Wide d two t w b C v n
wide-up d two t w b C v m n le z = record { rest = z.rest; alike = z.alike; u = z.u; placed = z.placed; opp = z.opp; later = λ l mu g. z.later l mu (omega (arith, ints, le, g)) }

bound : (d : ℕ) (two : 2 ≤ d) (q w : Form d) (t : List (List (List ℤ))) (n : List ℤ) → IsDelaunay d q.numbers t → IsWallForm d t n w.numbers → (b : Form d) →
    (k : ℤ) × (pos 0 <ℤ k) × ((m : List ℤ) → IsRegulator d t m → m ≢ n → (pos 0 <ℤ (k *ℤ dot m w.numbers +ℤ dot m b.numbers)) × (pos 0 <ℤ (k *ℤ dot m w.numbers -ℤ dot m b.numbers)))
bound d two q w t n k wall b = (top.0, omega (arith, ints, top.2), holds)
  where
    Y : List (List ℤ) → ℤ → Type 0
    Y s m = (C : List (Vec d)) → lists d C ≡ s → (v : Vec d) → In (vec-dec d) v C → Wide d two t w b C v m

    one : (s : List (List ℤ)) → Contains t s → (m : ℤ) × Y s m
    one s h = (a.0, λ C e v i. subst (λ X. (v : Vec d) → In (vec-dec d) v X → Wide d two t w b X v (a.0)) (lists-same d (c.0) C (c.1 ∙ sym e)) (a.1) v i)
      where
        c : (C : List (Vec d)) × (lists d C ≡ s)
        c = class_points d q t k s h

        a : (m : ℤ) × ((v : Vec d) → In (vec-dec d) v (c.0) → Wide d two t w b (c.0) v m)
        a = together (vec-dec d) (Wide d two t w b (c.0)) (wide-up d two t w b (c.0)) (c.0) (wide d two q t k w b (c.0) (base_placed d two t (c.0) (subst (Contains t) (sym (c.1)) h)))

    all : (m : ℤ) × ((s : List (List ℤ)) → Contains t s → Y s m)
    all = together_list Y (λ s m n le y C e v i. wide-up d two t w b C v m n le (y C e v i)) t one

    top : (m : ℤ) × (all.0 ≤ℤ m) × (pos 1 ≤ℤ m)
    top = larger (all.0) (pos 1)

    holds : (m : List ℤ) → IsRegulator d t m → m ≢ n → (pos 0 <ℤ (top.0 *ℤ dot m w.numbers +ℤ dot m b.numbers)) × (pos 0 <ℤ (top.0 *ℤ dot m w.numbers -ℤ dot m b.numbers))
    holds m r ne = at_class (class_points d q t k (r.0) ((r.4).member))
      where
        at_class : (C : List (Vec d)) × (lists d C ≡ r.0) → (pos 0 <ℤ (top.0 *ℤ dot m w.numbers +ℤ dot m b.numbers)) × (pos 0 <ℤ (top.0 *ℤ dot m w.numbers -ℤ dot m b.numbers))
        at_class c = (
          from_multiple f (top.0 *ℤ dot m w.numbers +ℤ dot m b.numbers) f_pos (omega (arith, ints, mul_pos_z z.c (top.0 *ℤ rise (at d w) x.opp +ℤ rise (at d b) x.opp) z.expr.positive ((x.later up (top.0) (top.1)).0), ring_by_two (f ∷ top.0 ∷ (dot m w.numbers) ∷ (dot m b.numbers) ∷ z.c ∷ (rise (at d w) x.opp) ∷ (rise (at d b) x.opp) ∷ []) (var 0 ⊗ (var 1 ⊗ var 2 ⊕ var 3)) (var 4 ⊗ (var 1 ⊗ var 5 ⊕ var 6)) (var 1) (var 0 ⊗ var 2) (var 4 ⊗ var 5) (num (pos 1)) (var 0 ⊗ var 3) (var 4 ⊗ var 6) tt (tie w) (tie b))),
          from_multiple f (top.0 *ℤ dot m w.numbers -ℤ dot m b.numbers) f_pos (omega (arith, ints, mul_pos_z z.c (top.0 *ℤ rise (at d w) x.opp -ℤ rise (at d b) x.opp) z.expr.positive ((x.later up (top.0) (top.1)).1), ring_by_two (f ∷ top.0 ∷ (dot m w.numbers) ∷ (dot m b.numbers) ∷ z.c ∷ (rise (at d w) x.opp) ∷ (rise (at d b) x.opp) ∷ []) (var 0 ⊗ (var 1 ⊗ var 2 ⊖ var 3)) (var 4 ⊗ (var 1 ⊗ var 5 ⊖ var 6)) (var 1) (var 0 ⊗ var 2) (var 4 ⊗ var 5) (neg (num (pos 1))) (var 0 ⊗ var 3) (var 4 ⊗ var 6) tt (tie w) (tie b))),
        )
          where
            C : List (Vec d)
            C = c.0

            pair : IsPair d t m (lists d C) (r.1) (r.2) (r.3)
            pair = subst (λ s. IsPair d t m s (r.1) (r.2) (r.3)) (sym (c.1)) (r.4)

            z : Read d two t m C
            z = read d two q t k m C (r.1) (r.2) (r.3) pair

            placed : Placed d t C
            placed = base_placed d two t C pair.member

            x : Wide d two t w b C z.v (all.0)
            x = all.1 (r.0) ((r.4).member) C (c.1) z.v (in-alike (in-head (vec-dec d) z.v z.rest) (alike-sym z.alike))

            same_rest : Alike x.rest z.rest
            same_rest = alike-cancel z.v (alike-trans (alike-sym x.alike) z.alike)

            same : x.u ≡ z.w
            same = unique d two q t k z.v z.w x.u z.rest z.placed (placed-alike d t x.placed (alike-cons x.u same_rest)) z.opp (opp-alike x.opp same_rest)

            sv : Simp (space d two) (z.v ∷ x.rest)
            sv = placed-simp d two q t k (z.v ∷ x.rest) (placed-alike d t placed x.alike)

            G : Vec d → ℤ
            G = upd (vec-dec d) z.v (neg_ℤ (x.opp).m) (x.opp).bs

            ex : Expr (space d two) z.w C (x.opp).c G
            ex = subst (λ y. Expr (space d two) y C (x.opp).c G) same (expr-alike (opp-expr sv x.opp) (alike-sym x.alike))

            ex_is : (e : Form d) → excess (at d e) z.w C (x.opp).c G ≡ rise (at d e) x.opp
            ex_is e = subst (λ y. excess (at d e) y C (x.opp).c G ≡ rise (at d e) x.opp) same (sym (excess-alike (at d e) x.u (x.opp).c G (alike-sym x.alike)) ∙ opp-excess sv x.opp (at d e))

            f : ℤ
            f = (x.opp).c *ℤ pos z.k

            f_pos : pos 0 <ℤ f
            f_pos = mul_pos_z (x.opp).c (pos z.k) (x.opp).c_pos (let l : 0 < z.k = z.k_pos in omega (arith, ints, l))

            tie : (e : Form d) → f *ℤ dot m e.numbers ≡ z.c *ℤ rise (at d e) x.opp
            tie e = ring ((x.opp).c ∷ (pos z.k) ∷ (dot m e.numbers) ∷ []) (var 0 ⊗ var 1 ⊗ var 2) (var 0 ⊗ (var 1 ⊗ var 2)) tt ∙ ap (λ y. (x.opp).c *ℤ y) (sym (z.is e)) ∙ rescale (placed-simp d two q t k C placed) z.w z.c (x.opp).c z.g G z.expr.is ex.is (at d e) ∙ ap (λ y. z.c *ℤ y) (ex_is e)

            up : pos 0 <ℤ rise (at d w) x.opp
            up = from_multiple z.c (rise (at d w) x.opp) z.expr.positive (subst (λ y. pos 0 <ℤ y) (tie w) (mul_pos_z f (dot m w.numbers) f_pos (wall.others m r ne)))

-- all that lt_walls asks of the regulators
pub regulators : (d : ℕ) (two : 2 ≤ d) (t : List (List (List ℤ))) (q w : Form d) (n : List ℤ) → IsDelaunay d q.numbers t → IsWallForm d t n w.numbers → Regulators d two t q w n
regulators d two t q w n k wall = record { rises = rises d two q t k; regular = regular d two q t k; bound = bound d two q w t n k wall }

pub setting : (d : ℕ) (two : 2 ≤ d) (t : List (List (List ℤ))) (q w : Form d) (n : List ℤ) → IsDelaunay d q.numbers t → IsLocal d t → IsWallForm d t n w.numbers →
    Tri (space d two) (Placed d t) (IsRegulator d t) (λ m b. dot m b.numbers) n q w
setting d two t q w n k local wall = tri d two t q w n k local wall (regulators d two t q w n k wall)

-- in dimension 2 and more every wall form of a Delaunay triangulation is positive definite
pub every_wall_form_is_definite : (d : ℕ) (t : List (List (List ℤ))) (a w n : List ℤ) → 2 ≤ d → IsDelaunay d a t → IsLocal d t → IsWallForm d t n w → IsPositiveDefinite d w
every_wall_form_is_definite d t a w n two k local wall =
    let q : Form d = record { numbers = a; is = k.positive.numbers } in
    let v : Form d = record { numbers = w; is = wall.numbers } in
    wall-is-definite d two t q v n k local wall (regulators d two t q v n k wall)

-- an expression of the model, here
pub from_expression : (d : ℕ) (two : 2 ≤ d) (C : List (Vec d)) (x : Vec d) (c : ℤ) (b : List ℤ) → Distinct (vec-dec d) C → IsExpression (lists d C) (list d x) c b → Expr (space d two) x C c (fn d C b)
from_expression d two C x c b h e = record { positive = e.positive; is = from_numbers d C x c b h e.one_each e.point e.sum }

pub from_excess : (d : ℕ) (q : Form d) (C : List (Vec d)) (x : Vec d) (c : ℤ) (b : List ℤ) → Distinct (vec-dec d) C → length b ≡ length (lists d C) → excess (at d q) x C c (fn d C b) ≡ c *ℤ value q.numbers (list d x) -ℤ dot b (map (value q.numbers) (lists d C))
from_excess d q C x c b h l = excess-is (at d q) x C c (fn d C b) ∙ ap (λ z. c *ℤ at d q x -ℤ z) (fn-sum d C b h l (value q.numbers))

-- of the points outside a class of the triangulation, at most one lies on its ellipsoid of a wall form
pub one_point_on_ellipsoid : (d : ℕ) (t : List (List (List ℤ))) (a w n : List ℤ) → 2 ≤ d → IsDelaunay d a t → IsLocal d t → IsWallForm d t n w → (s : List (List ℤ)) → Contains t s →
    (x x' : List ℤ) → length x ≡ d → length x' ≡ d → (Contains s x → ⊥) → (Contains s x' → ⊥) → (c c' : ℤ) (b b' : List ℤ) → IsExpression s x c b → IsExpression s x' c' b' →
    c *ℤ value w x -ℤ dot b (map (value w) s) ≡ pos 0 → c' *ℤ value w x' -ℤ dot b' (map (value w) s) ≡ pos 0 → x ≡ x'
one_point_on_ellipsoid d t a w n two k local wall s mem x x' l l' out out' c c' b b' e e' z z' = sym (v.1) ∙ ap (list d) same ∙ v'.1
  where
    q : Form d
    q = record { numbers = a; is = k.positive.numbers }

    f : Form d
    f = record { numbers = w; is = wall.numbers }

    set : Tri (space d two) (Placed d t) (IsRegulator d t) (λ m b. dot m b.numbers) n q f
    set = setting d two t q f n k local wall

    cp : (C : List (Vec d)) × (lists d C ≡ s)
    cp = class_points d q t k s mem

    C : List (Vec d)
    C = cp.0

    v : (v : Vec d) × (list d v ≡ x)
    v = of_list d x l

    v' : (v : Vec d) × (list d v ≡ x')
    v' = of_list d x' l'

    memC : Contains t (lists d C)
    memC = subst (Contains t) (sym (cp.1)) mem

    dist : Distinct (vec-dec d) C
    dist = ascending-distinct d C (((k.members (lists d C)).0 memC).0.ascending)

    ex : IsExpression (lists d C) (list d (v.0)) c b
    ex = subst (λ r. IsExpression r (list d (v.0)) c b) (sym (cp.1)) (subst (λ y. IsExpression s y c b) (sym (v.1)) e)

    ex' : IsExpression (lists d C) (list d (v'.0)) c' b'
    ex' = subst (λ r. IsExpression r (list d (v'.0)) c' b') (sym (cp.1)) (subst (λ y. IsExpression s y c' b') (sym (v'.1)) e')

    same : v.0 ≡ v'.0
    same = one-outside set C (base_placed d two t C memC) (v.0) (v'.0)
        (λ i. out (subst (Contains s) (v.1) (subst (λ r. Contains r (list d (v.0))) (cp.1) (from_in d C (v.0) i))))
        (λ i. out' (subst (Contains s) (v'.1) (subst (λ r. Contains r (list d (v'.0))) (cp.1) (from_in d C (v'.0) i))))
        c c' (fn d C b) (fn d C b') (from_expression d two C (v.0) c b dist ex) (from_expression d two C (v'.0) c' b' dist ex')
        (from_excess d f C (v.0) c b dist ex.one_each ∙ ap₂ (λ y r. c *ℤ value w y -ℤ dot b (map (value w) r)) (v.1) (cp.1) ∙ z)
        (from_excess d f C (v'.0) c' b' dist ex'.one_each ∙ ap₂ (λ y r. c' *ℤ value w y -ℤ dot b' (map (value w) r)) (v'.1) (cp.1) ∙ z')

-- on placed simplices: for each large m the flipped set is strictly empty for m W - A, which is positive definite
pub flip_at : (d : ℕ) (two : 2 ≤ d) (t : List (List (List ℤ))) (q w : Form d) (n : List ℤ) → (set : Tri (space d two) (Placed d t) (IsRegulator d t) (λ m b. dot m b.numbers) n q w) → Scale set → Finite set (moves d two t q w n set) → (S : List (Vec d)) → Flipped set S → (u : Vec d) → In (vec-dec d) u S →
    (m : ℤ) × ((mu : ℤ) → m ≤ℤ mu → ((R : List (Vec d)) → Flipped set R → Strict (space d two) (at d (mixed_form d mu w (negsuc 0) q)) R) × Definite (space d two) (mixed_form d mu w (negsuc 0) q))
flip_at d two t q w n set sc fin S h u iu = flip-theorem set sc (moves d two t q w n set) fin (spread d two) S h u iu
