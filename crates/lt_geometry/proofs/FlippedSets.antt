-- The flip theorem for a list of classes whose placed simplices are the flipped set.
use Rattle.std.proofs.Common.{List, [], ◌∷◌, length, map, ◌≡◌, ℕ, zero, suc, ◌<◌, ◌≤◌, inl, inr, refl, sym, ◌∙◌, ap, subst, arith, ℤ, pos, negsuc, ◌-ℤ◌, ◌*ℤ◌, ◌<ℤ◌, ◌≤ℤ◌}
use Rattle.std.proofs.lemmas.Int.{ints}
use Rattle.std.specs.List.{Contains}
use Rattle.std.specs.List.Sorted.{IsStrictlySortedBy}
use Rattle.lt_model.proofs.Ring.{ring, var, num, ◌⊗◌}
use Rattle.lt_walls.proofs.Sums.{qs}
use Rattle.lt_walls.proofs.Lists.{alike-sym, in-head, Distinct}
use Rattle.lt_walls.proofs.Space.{Strict, Definite}
use Rattle.lt_walls.proofs.Walls.{Tri}
use Rattle.lt_walls.proofs.Flip.{Flipped}
use Rattle.lt_walls.proofs.Strictly.{Scale}
use Rattle.lt_walls.proofs.Margins.{Member, Finite}
use Rattle.lt_geometry.proofs.Points.{Vec, list, of_list, length-list, place, coordinate, same-places, vec-dec, less, place-less, Form, at, mixed_form, space}
use Rattle.lt_geometry.proofs.Members.{lists, of_lists, from_in, shift, opposite, shift-forth, Placed, ascending-distinct}
use Rattle.lt_geometry.proofs.Ties.{fn, from_numbers, expr-forth, lists-same}
use Rattle.lt_geometry.proofs.Pairs.{base_placed}
use Rattle.lt_geometry.proofs.WallLaws.{IsLocal, moves}
use Rattle.lt_geometry.proofs.Bounds.{setting, from_expression, from_excess, flip_at}
use Rattle.lt_model.specs.Vectors.{minus, scale, dot, zeros}
use Rattle.lt_model.specs.Forms.{value, IsPositiveDefinite}
use Rattle.lt_model.specs.Order.{simplex_cmp}
use Rattle.lt_model.specs.Simplices.{IsClass, IsExpression, IsStrictlyEmpty}
use Rattle.lt_model.specs.Triangulations.{IsDelaunay}
use Rattle.lt_model.specs.Facets.{IsClosed}
use Rattle.lt_model.specs.Walls.{IsRegulator, IsWallForm}
use Rattle.lt_model.proofs.Walk.{IsWeighted}
use Rattle.lt_geometry.proofs.WalkEnds.{HasCommon, common}
use Rattle.lt_model.proofs.Sets.{Contains-head, Contains-tail, Contains-cases, Contains-none}
use Rattle.lt_geometry.proofs.LocalWalk.{delaunay_from_paving}

-- the placed simplices of t' are the flipped set
pub record IsFlipped (d : ℕ) (two : 2 ≤ d) (t : List (List (List ℤ))) (q w : Form d) (n : List ℤ) (set : Tri (space d two) (Placed d t) (IsRegulator d t) (λ m b. dot m b.numbers) n q w) (t' : List (List (List ℤ))) : Type 0 where
  pub to : (S : List (Vec d)) → Flipped set S → Placed d t' S
  pub from : (S : List (Vec d)) → Placed d t' S → Flipped set S
  pub classes : (s : List (List ℤ)) → Contains t' s → IsClass d s

coords_of : (d : ℕ) (t : List (List (List ℤ))) → ((s : List (List ℤ)) → Contains t s → IsClass d s) → (w : HasCommon d t) (S : List (Vec d)) → Placed d t S → (x : Vec d) → (a : Vec d → ℤ) × ((j : ℕ) → w.c *ℤ coordinate d j x ≡ qs (coordinate d j) a S)
coords_of d t cls w S h x = (a, λ j. ap (λ z. w.c *ℤ coordinate d j z) (sym (shift-forth d h.by x)) ∙ expr-forth d h.by x' h.base w.c (fn d h.base b) (from_numbers d h.base x' w.c b dist e.one_each e.point (e.sum ∙ ring (w.c ∷ []) (var 0 ⊗ num (pos 1)) (var 0) tt)) j ∙ (alike-sym h.alike).same (coordinate d j) a)
  where
    x' : Vec d
    x' = shift d (opposite d h.by) x

    r : (b : List ℤ) × IsWeighted (lists d h.base) (pos 1) (list d x') w.c b
    r = w.has (lists d h.base) (pos 1) (list d x') h.member (length-list d x')

    b : List ℤ
    b = r.0

    e : IsWeighted (lists d h.base) (pos 1) (list d x') w.c b
    e = r.1

    dist : Distinct (vec-dec d) h.base
    dist = ascending-distinct d h.base ((cls (lists d h.base) h.member).ascending)

    a : Vec d → ℤ
    a v = fn d h.base b (shift d (opposite d h.by) v)

reps : (d : ℕ) (t : List (List (List ℤ))) → ((s : List (List ℤ)) → Contains t s → IsClass d s) → List (List (Vec d))
reps d [] cls = []
reps d (s ∷ t) cls = (of_lists d s ((cls s (Contains-head s t)).simplex.points)).0 ∷ reps d t (λ r h. cls r (Contains-tail s t r h))

rep_in : (d : ℕ) (t : List (List (List ℤ))) (cls : (s : List (List ℤ)) → Contains t s → IsClass d s) (C : List (Vec d)) → Contains t (lists d C) → Member C (reps d t cls)
unfolding Member reps
rep_in d [] cls C h = Contains-none (lists d C) h
rep_in d (s ∷ t) cls C h = elim (Contains-cases s t (lists d C) h) [
  | inl e ↦ inl (lists-same d C ((of_lists d s ((cls s (Contains-head s t)).simplex.points)).0) (sym e ∙ sym ((of_lists d s ((cls s (Contains-head s t)).simplex.points)).1)))
  | inr r ↦ inr (rep_in d t (λ r h. cls r (Contains-tail s t r h)) C r)
]

rep_out : (d : ℕ) (t : List (List (List ℤ))) (cls : (s : List (List ℤ)) → Contains t s → IsClass d s) (C : List (Vec d)) → Member C (reps d t cls) → Contains t (lists d C)
unfolding Member reps
rep_out d [] cls C h = absurd h
rep_out d (s ∷ t) cls C (inl e) = subst (Contains (s ∷ t)) (sym ((of_lists d s ((cls s (Contains-head s t)).simplex.points)).1) ∙ ap (lists d) (sym e)) (Contains-head s t)
rep_out d (s ∷ t) cls C (inr r) = Contains-tail s t (lists d C) (rep_out d t (λ r h. cls r (Contains-tail s t r h)) C r)

-- where the placed simplices of t' are the flipped set and t' is closed under facets, t' is the Delaunay triangulation of m w - a for every large m
pub flip_is_delaunay : (d : ℕ) (two : 2 ≤ d) (t : List (List (List ℤ))) (q w : Form d) (n : List ℤ) → (k : IsDelaunay d q.numbers t) (local : IsLocal d t) (wall : IsWallForm d t n w.numbers) (t' : List (List (List ℤ))) →
    IsFlipped d two t q w n (setting d two t q w n k local wall) t' → 0 < length t' → IsStrictlySortedBy simplex_cmp t' → IsClosed d t' →
    (m : ℤ) × ((mu : ℤ) → m ≤ℤ mu → IsDelaunay d (minus (scale mu w.numbers) q.numbers) t')
unfolding mixed_form moves
flip_is_delaunay d two t q w n k local wall [] fl occupied sorted closed = absurd (omega (arith, occupied))
flip_is_delaunay d two t q w n k local wall (s0 ∷ ss) fl occupied sorted closed = first ((of_lists d s0 (c0.simplex.points)).0) ((of_lists d s0 (c0.simplex.points)).1)
  where
    t' : List (List (List ℤ))
    t' = s0 ∷ ss

    set : Tri (space d two) (Placed d t) (IsRegulator d t) (λ m b. dot m b.numbers) n q w
    set = setting d two t q w n k local wall

    c0 : IsClass d s0
    c0 = fl.classes s0 (Contains-head s0 ss)

    shared : HasCommon d t'
    shared = common d t' (λ s h. (fl.classes s h).simplex)

    sc : Scale set
    sc = record { scale = shared.c; scale_pos = shared.positive; coords = λ S h. coords_of d t' fl.classes shared S (fl.to S h) }

    fin : Finite set (moves d two t q w n set)
    fin = record {
      reps = reps d t' fl.classes;
      here = λ C h. fl.from C (base_placed d two t' C (rep_out d t' fl.classes C h));
      covers = λ S h. let p = fl.to S h in (p.base, p.by, rep_in d t' fl.classes p.base p.member, p.alike);
    }

    Mixed : ℤ → Form d
    Mixed mu = mixed_form d mu w (negsuc 0) q

    strict_model : (mu : ℤ) → ((R : List (Vec d)) → Flipped set R → Strict (space d two) (at d (Mixed mu)) R) → (s : List (List ℤ)) → Contains t' s → IsStrictlyEmpty d (minus (scale mu w.numbers) q.numbers) s
    strict_model mu h s i = subst (IsStrictlyEmpty d (minus (scale mu w.numbers) q.numbers)) e (record {
      outside = λ x c b l ex. let v = of_list d x l in let ey = subst (λ y. IsExpression (lists d C) y c b) (sym (v.1)) ex in
          subst (λ y. pos 0 ≤ℤ y) (from_excess d (Mixed mu) C (v.0) c b dist ey.one_each ∙ ap (λ y. c *ℤ value (minus (scale mu w.numbers) q.numbers) y -ℤ dot b (map (value (minus (scale mu w.numbers) q.numbers)) (lists d C))) (v.1)) (str.weak.outside (v.0) c (fn d C b) (from_expression d two C (v.0) c b dist ey));
      touches = λ x c b l ex z. let v = of_list d x l in let ey = subst (λ y. IsExpression (lists d C) y c b) (sym (v.1)) ex in
          subst (Contains (lists d C)) (v.1) (from_in d C (v.0) (str.touches (v.0) c (fn d C b) (from_expression d two C (v.0) c b dist ey)
          (from_excess d (Mixed mu) C (v.0) c b dist ey.one_each ∙ ap (λ y. c *ℤ value (minus (scale mu w.numbers) q.numbers) y -ℤ dot b (map (value (minus (scale mu w.numbers) q.numbers)) (lists d C))) (v.1) ∙ z)));
    })
      where
        C : List (Vec d)
        C = (of_lists d s ((fl.classes s i).simplex.points)).0

        e : lists d C ≡ s
        e = (of_lists d s ((fl.classes s i).simplex.points)).1

        iC : Contains t' (lists d C)
        iC = subst (Contains t') (sym e) i

        dist : Distinct (vec-dec d) C
        dist = ascending-distinct d C ((fl.classes (lists d C) iC).ascending)

        str : Strict (space d two) (at d (Mixed mu)) C
        str = h C (fl.from C (base_placed d two t' C iC))

    nil : (d : ℕ) → Vec d
    nil zero = tt
    nil (suc d) = (pos 0, nil d)

    list-nil : (d : ℕ) → list d (nil d) ≡ zeros d
    list-nil zero = refl
    list-nil (suc d) = ap (λ l. pos 0 ∷ l) (list-nil d)

    place-nil : (d j : ℕ) → place d (nil d) j ≡ pos 0
    place-nil zero j = refl
    place-nil (suc d) zero = refl
    place-nil (suc d) (suc j) = place-nil d j

    less-nil : (x : Vec d) → less d x (nil d) ≡ x
    less-nil x = same-places d (less d x (nil d)) x (λ j. place-less d x (nil d) j ∙ omega (arith, ints, place-nil d j))

    definite_model : (mu : ℤ) → Definite (space d two) (Mixed mu) → IsPositiveDefinite d (minus (scale mu w.numbers) q.numbers)
    definite_model mu h = record {
      numbers = (Mixed mu).is;
      positive = λ x l m. let v = of_list d x l in
          subst (λ y. pos 0 <ℤ value (minus (scale mu w.numbers) q.numbers) y) (v.1) (subst (λ y. pos 0 <ℤ at d (Mixed mu) y) (less-nil (v.0)) (h.above (v.0) (nil d) (λ e. m (sym (v.1) ∙ ap (list d) e ∙ list-nil d))));
    }

    first : (C : List (Vec d)) → lists d C ≡ s0 → (m : ℤ) × ((mu : ℤ) → m ≤ℤ mu → IsDelaunay d (minus (scale mu w.numbers) q.numbers) t')
    first [] e = absurd (omega (arith, ap length e, c0.simplex.count))
    first (u ∷ C) e = (r.0, λ mu g. delaunay_from_paving d (minus (scale mu w.numbers) q.numbers) t' (definite_model mu ((r.1 mu g).1)) (record { classes = fl.classes; empty = strict_model mu ((r.1 mu g).0); closed = closed }) occupied sorted)
      where
        r : (m : ℤ) × ((mu : ℤ) → m ≤ℤ mu → ((R : List (Vec d)) → Flipped set R → Strict (space d two) (at d (mixed_form d mu w (negsuc 0) q)) R) × Definite (space d two) (mixed_form d mu w (negsuc 0) q))
        r = flip_at d two t q w n set sc fin (u ∷ C) (fl.from (u ∷ C) (base_placed d two t' (u ∷ C) (subst (Contains t') (sym e) (Contains-head s0 ss)))) u (in-head (vec-dec d) u C)
