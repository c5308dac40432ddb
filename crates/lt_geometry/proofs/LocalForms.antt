-- Local to global: a form at which every regulator of a Delaunay triangulation is positive has this triangulation.
use Rattle.std.proofs.Common.{List, [], ◌∷◌, length, map, ◌≡◌, ℕ, zero, suc, ◌<◌, ◌≤◌, sym, ◌∙◌, ap, refl, subst, arith, ℤ, pos, ◌-ℤ◌, ◌*ℤ◌, ◌<ℤ◌, ◌≤ℤ◌}
use Rattle.std.proofs.lemmas.Int.{ints}
use Rattle.std.specs.List.{Contains}
use Rattle.lt_model.proofs.Inequalities.{mul_pos_z}
use Rattle.lt_walls.proofs.Lists.{in-head, Distinct}
use Rattle.lt_walls.proofs.Space.{Strict, Definite}
use Rattle.lt_walls.proofs.Margins.{strict-definite}
use Rattle.lt_walls.proofs.Local.{Net, local-strict}
use Rattle.lt_geometry.proofs.Points.{Vec, list, of_list, place, same-places, vec-dec, less, place-less, Form, at, space}
use Rattle.lt_geometry.proofs.Members.{lists, from_in, Placed, placed-alike, placed-simp, placed-strict, to_definite, ascending-distinct}
use Rattle.lt_geometry.proofs.Ties.{fn, scale_of, coords, neighbours}
use Rattle.lt_geometry.proofs.Pairs.{regular, rises, class_points, base_placed}
use Rattle.lt_geometry.proofs.WallLaws.{IsLocal, spread}
use Rattle.lt_geometry.proofs.Bounds.{from_expression, from_excess}
use Rattle.lt_model.specs.Vectors.{dot, zeros}
use Rattle.lt_model.specs.Forms.{value, IsPositiveDefinite}
use Rattle.lt_model.specs.Simplices.{IsClass, IsExpression, IsStrictlyEmpty}
use Rattle.lt_model.specs.Triangulations.{IsDelaunay}
use Rattle.lt_model.specs.Walls.{IsRegulator}
use Rattle.lt_model.proofs.Sets.{Contains-head}
use Rattle.lt_geometry.proofs.LocalWalk.{delaunay_from_paving}

-- strictly empty in the model's sense
to_model : (d : ℕ) (two : 2 ≤ d) (q : Form d) (C : List (Vec d)) → Distinct (vec-dec d) C → Strict (space d two) (at d q) C → IsStrictlyEmpty d q.numbers (lists d C)
to_model d two q C dist str = record {
  outside = λ x c b l ex. let v = of_list d x l in let ey = subst (λ y. IsExpression (lists d C) y c b) (sym (v.1)) ex in
      subst (λ y. pos 0 ≤ℤ y) (from_excess d q C (v.0) c b dist ey.one_each ∙ ap (λ y. c *ℤ value q.numbers y -ℤ dot b (map (value q.numbers) (lists d C))) (v.1)) (str.weak.outside (v.0) c (fn d C b) (from_expression d two C (v.0) c b dist ey));
  touches = λ x c b l ex z. let v = of_list d x l in let ey = subst (λ y. IsExpression (lists d C) y c b) (sym (v.1)) ex in
      subst (Contains (lists d C)) (v.1) (from_in d C (v.0) (str.touches (v.0) c (fn d C b) (from_expression d two C (v.0) c b dist ey)
      (from_excess d q C (v.0) c b dist ey.one_each ∙ ap (λ y. c *ℤ value q.numbers y -ℤ dot b (map (value q.numbers) (lists d C))) (v.1) ∙ z)));
}

-- positive definite in the model's sense
definite_to_model : (d : ℕ) (two : 2 ≤ d) (q : Form d) → Definite (space d two) q → IsPositiveDefinite d q.numbers
definite_to_model d two q h = record {
  numbers = q.is;
  positive = λ x l m. let v = of_list d x l in
      subst (λ y. pos 0 <ℤ value q.numbers y) (v.1) (subst (λ y. pos 0 <ℤ at d q y) (less-nil (v.0)) (h.above (v.0) (nil d) (λ e. m (sym (v.1) ∙ ap (list d) e ∙ list-nil d))));
}
  where
    nil : (d : ℕ) → Vec d
    nil zero = tt
    nil (suc d) = (pos 0, nil d)

    list-nil : (d : ℕ) → list d (nil d) ≡ zeros d
    list-nil zero = refl
    list-nil (suc d) = ap (λ l. pos 0 ∷ l) (list-nil d)

    place-nil : (d j : ℕ) → place d (nil d) j ≡ pos 0
    place-nil zero j = refl
    place-nil (suc d) zero = refl
    place-nil (suc d) (suc j) = place-nil d j

    less-nil : (x : Vec d) → less d x (nil d) ≡ x
    less-nil x = same-places d (less d x (nil d)) x (λ j. place-less d x (nil d) j ∙ omega (arith, ints, place-nil d j))

-- the placed simplices, with the form a and a form q at which every regulator is positive
net : (d : ℕ) (two : 2 ≤ d) (t : List (List (List ℤ))) (a q : Form d) → IsDelaunay d a.numbers t → ((n : List ℤ) → IsRegulator d t n → pos 0 <ℤ dot n q.numbers) → Net (space d two) (Placed d t) a q
net d two t a q k h = record {
  alike = λ m s. placed-alike d t m s;
  simp = placed-simp d two a t k;
  scale = (scale_of d a t k).c;
  scale_pos = (scale_of d a t k).positive;
  coords = coords d a t k;
  closed = neighbours d two a t k;
  strict = placed-strict d two a t k;
  definite = to_definite d two a k.positive;
  first = λ p w F mp mw o. let r = regular d two a t k p w F mp mw o in subst (λ z. pos 0 <ℤ z) (sym (r.4 a)) (mul_pos_z (r.2) (dot (r.0) a.numbers) (r.3) (rises d two a t k (r.0) (r.1)));
  second = λ p w F mp mw o. let r = regular d two a t k p w F mp mw o in subst (λ z. pos 0 <ℤ z) (sym (r.4 q)) (mul_pos_z (r.2) (dot (r.0) q.numbers) (r.3) (h (r.0) (r.1)));
}

backward : (d : ℕ) (two : 2 ≤ d) (t : List (List (List ℤ))) (a q : Form d) → IsDelaunay d a.numbers t → ((n : List ℤ) → IsRegulator d t n → pos 0 <ℤ dot n q.numbers) → IsDelaunay d q.numbers t
backward d two t a q k h = delaunay_from_paving d q.numbers t (some t k.occupied (λ s i. i)) (record { classes = cls; empty = empty; closed = k.closed }) k.occupied k.ascending
  where
    cls : (s : List (List ℤ)) → Contains t s → IsClass d s
    cls s i = ((k.members s).0 i).0

    each : (S : List (Vec d)) → Placed d t S → Strict (space d two) (at d q) S
    each S m = local-strict (net d two t a q k h) S m

    empty : (s : List (List ℤ)) → Contains t s → IsStrictlyEmpty d q.numbers s
    empty s i = subst (IsStrictlyEmpty d q.numbers) (c.1) (to_model d two q (c.0) (ascending-distinct d (c.0) ((cls (lists d (c.0)) here).ascending)) (each (c.0) (base_placed d two t (c.0) here)))
      where
        c : (C : List (Vec d)) × (lists d C ≡ s)
        c = class_points d a t k s i

        here : Contains t (lists d (c.0))
        here = subst (Contains t) (sym (c.1)) i

    at_member : (s : List (List ℤ)) → Contains t s → (C : List (Vec d)) → lists d C ≡ s → IsPositiveDefinite d q.numbers
    at_member s i [] e = absurd (omega (arith, ap length e, (cls s i).simplex.count))
    at_member s i (u ∷ C) e = definite_to_model d two q (strict-definite (space d two) (spread d two) q (u ∷ C) (placed-simp d two a t k (u ∷ C) m) (each (u ∷ C) m) u (in-head (vec-dec d) u C) (scale_of d a t k).c (scale_of d a t k).positive (coords d a t k (u ∷ C) m))
      where
        m : Placed d t (u ∷ C)
        m = base_placed d two t (u ∷ C) (subst (Contains t) (sym e) i)

    some : (r : List (List (List ℤ))) → 0 < length r → ((s : List (List ℤ)) → Contains r s → Contains t s) → IsPositiveDefinite d q.numbers
    some [] l f = absurd (omega (arith, l))
    some (s ∷ r) l f = let i = f s (Contains-head s r) in let c = class_points d a t k s i in at_member s i (c.0) (c.1)

-- local to global, from dimension 2 on
pub local_from : (d : ℕ) (t : List (List (List ℤ))) (a : List ℤ) → 2 ≤ d → IsDelaunay d a t → IsLocal d t
local_from d t a two k q l h = backward d two t (record { numbers = a; is = k.positive.numbers }) (record { numbers = q; is = l }) k h
