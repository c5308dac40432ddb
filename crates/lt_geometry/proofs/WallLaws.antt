-- The laws on wall forms in the words of the model.
use Rattle.std.proofs.Common.{List, [], ◌∷◌, length, ◌≡◌, ◌≢◌, ℕ, zero, suc, ◌<◌, ◌≤◌, refl, sym, ◌∙◌, ap, ap₂, subst, arith, ℤ, pos, ◌+ℤ◌, ◌-ℤ◌, ◌*ℤ◌, ◌<ℤ◌}
use Rattle.std.proofs.lemmas.Int.{ints}
use Rattle.lt_model.proofs.Ring.{ring, var, num, ◌⊕◌, ◌⊖◌, ◌⊗◌}
use Rattle.lt_walls.proofs.Space.{Opp, rise}
use Rattle.lt_walls.proofs.Walls.{Tri, wall-definite}
use Rattle.lt_walls.proofs.Margins.{Moves, Spread}
use Rattle.lt_geometry.proofs.Points.{Vec, list, of_list, length-list, place, coordinate, same-places, add, less, place-add, place-less, list-add, list-less, Form, at, mixed_form, differs, space}
use Rattle.lt_geometry.proofs.Members.{shift, opposite, shift-back, shift-forth, off, coordinate-shift, flat-shift, Placed, placed-alike, placed-moved, placed-simp, placed-strict, to_definite}
use Rattle.lt_geometry.proofs.Values.{list_dec, value_not_negative}
use Rattle.lt_geometry.proofs.Ties.{scale_of, coords, neighbours, products}
use Rattle.lt_model.specs.Vectors.{scale, dot, zeros}
use Rattle.lt_model.specs.Forms.{value, numbers_of_form, IsPositiveDefinite}
use Rattle.lt_model.specs.Triangulations.{IsDelaunay}
use Rattle.lt_model.specs.Walls.{IsRegulator, IsWallForm}
use Rattle.lt_model.proofs.Vectors.{dot-plus, dot-scale}
use Rattle.lt_model.proofs.Squares.{parallelogram}

-- local to global: where every regulator is positive, the triangulation stays Delaunay
abbrev pub IsLocal : ℕ → List (List (List ℤ)) → Type 0
IsLocal d t = (q : List ℤ) → length q ≡ numbers_of_form d → ((n : List ℤ) → IsRegulator d t n → pos 0 <ℤ dot n q) → IsDelaunay d q t

-- what is known of the regulators of a Delaunay triangulation, and of a wall form w of one of them, n
pub record Regulators (d : ℕ) (two : 2 ≤ d) (t : List (List (List ℤ))) (q w : Form d) (n : List ℤ) : Type 0 where
  pub rises : (m : List ℤ) → IsRegulator d t m → pos 0 <ℤ dot m q.numbers
  pub regular : (p v : Vec d) (F : List (Vec d)) → Placed d t (p ∷ F) → Placed d t (v ∷ F) → (o : Opp (space d two) p v F) → (m : List ℤ) × IsRegulator d t m × (k : ℤ) × (pos 0 <ℤ k) × ((b : Form d) → rise (at d b) o ≡ k *ℤ dot m b.numbers)
  pub bound : (b : Form d) → (k : ℤ) × (pos 0 <ℤ k) × ((m : List ℤ) → IsRegulator d t m → m ≢ n → (pos 0 <ℤ (k *ℤ dot m w.numbers +ℤ dot m b.numbers)) × (pos 0 <ℤ (k *ℤ dot m w.numbers -ℤ dot m b.numbers)))

-- the setting of lt_walls, from the model's relations
pub tri : (d : ℕ) (two : 2 ≤ d) (t : List (List (List ℤ))) (q w : Form d) (n : List ℤ) → IsDelaunay d q.numbers t → IsLocal d t → IsWallForm d t n w.numbers → Regulators d two t q w n →
    Tri (space d two) (Placed d t) (IsRegulator d t) (λ m b. dot m b.numbers) n q w
unfolding mixed_form
tri d two t q w n k local wall reg = record {
  alike = λ m a. placed-alike d t m a;
  simp = placed-simp d two q t k;
  scale = (scale_of d q t k).c;
  scale_pos = (scale_of d q t k).positive;
  coords = coords d q t k;
  closed = neighbours d two q t k;
  strict = placed-strict d two q t k;
  definite = to_definite d two q k.positive;
  linear = λ m a b c e. dot-plus m (scale a b.numbers) (scale c e.numbers) ∙ ap₂ (λ y z. y +ℤ z) (dot-scale m a b.numbers) (dot-scale m c e.numbers);
  bound = reg.bound;
  regular = reg.regular;
  rises = reg.rises;
  global = λ b h. let g = local b.numbers b.is h in (λ S m. (placed-strict d two b t g S m).weak, λ y. value_not_negative d b.numbers (list d y) g.positive (length-list d y));
  facet = wall.regulator;
  decide = λ m. list_dec m n;
  product = λ S m. products d two S (placed-simp d two q t k S m) (scale_of d q t k).c (scale_of d q t k).positive (coords d q t k S m);
  wall_zero = wall.zero_there;
  wall_pos = wall.others;
}

-- in dimension 2 and more a wall form is positive definite
pub wall-is-definite : (d : ℕ) (two : 2 ≤ d) (t : List (List (List ℤ))) (q w : Form d) (n : List ℤ) → IsDelaunay d q.numbers t → IsLocal d t → IsWallForm d t n w.numbers → Regulators d two t q w n → IsPositiveDefinite d w.numbers
wall-is-definite d two t q w n k local wall reg = record {
  numbers = w.is;
  positive = λ x l m. let v = of_list d x l in
      subst (λ y. pos 0 <ℤ value w.numbers y) (v.1) (subst (λ y. pos 0 <ℤ at d w y) (same (v.0)) ((wall-definite (tri d two t q w n k local wall reg)).above (v.0) (nil d) (λ e. m (sym (v.1) ∙ ap (list d) e ∙ list-nil d))));
}
  where
    nil : (d : ℕ) → Vec d
    nil zero = tt
    nil (suc d) = (pos 0, nil d)

    list-nil : (d : ℕ) → list d (nil d) ≡ zeros d
    list-nil zero = refl
    list-nil (suc d) = ap (λ l. pos 0 ∷ l) (list-nil d)

    place-nil : (d j : ℕ) → place d (nil d) j ≡ pos 0
    place-nil zero j = refl
    place-nil (suc d) zero = refl
    place-nil (suc d) (suc j) = place-nil d j

    same : (x : Vec d) → less d x (nil d) ≡ x
    same x = same-places d (less d x (nil d)) x (λ j. place-less d x (nil d) j ∙ omega (arith, ints, place-nil d j))

-- translations
unfoldable pub moves : (d : ℕ) (two : 2 ≤ d) (t : List (List (List ℤ))) (q w : Form d) (n : List ℤ) (k : Tri (space d two) (Placed d t) (IsRegulator d t) (λ m b. dot m b.numbers) n q w) → Moves k
moves d two t q w n k = record { move = shift d; opposite = opposite d; undo = shift-back d; redo = shift-forth d; off = off d; homs = λ j y v. coordinate-shift d j y v; vals = λ b y s V z. flat-shift d b y s V z; mem = λ y S m. placed-moved d t y S m }

pub spread : (d : ℕ) (two : 2 ≤ d) (u x v : Vec d) → x ≢ v → Spread (space d two) u x v
spread d two u x v n = record {
  p = add d u y;
  p' = less d u y;
  p_off = λ e. nz (omega (arith, ints, place-add d u y i, ap (λ z. place d z i) e));
  apart = λ e. nz (omega (arith, ints, place-add d u y i, place-less d u y i, ap (λ z. place d z i) e));
  middle = mid;
  level = λ b. ap₂ (λ a c. value b.numbers a +ℤ value b.numbers c) (list-add d u y) (list-less d u y) ∙ parallelogram b.numbers (list d u) (list d y) (length-list d u ∙ sym (length-list d y));
}
  where
    y : Vec d
    y = less d x v

    r : (i : ℕ) × (i < d) × (place d y i ≢ pos 0)
    r = differs d x v n

    i : ℕ
    i = r.0

    nz : place d y i ≡ pos 0 → ⊥
    nz = r.2

    mid : (j : ℕ) → coordinate d j (add d u y) +ℤ coordinate d j (less d u y) ≡ pos 2 *ℤ coordinate d j u
    mid zero = refl
    mid (suc j) = ap₂ (λ a b. a +ℤ b) (place-add d u y j) (place-less d u y j) ∙ ring ((place d u j) ∷ (place d y j) ∷ []) (var 0 ⊕ var 1 ⊕ (var 0 ⊖ var 1)) (num (pos 2) ⊗ var 0) tt
