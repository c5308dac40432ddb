-- Regulators, wall forms and facets are carried.
use Rattle.std.proofs.lemmas.List.Elements.{Contains-get_or}
use Rattle.std.proofs.Common.{◌≡◌, ◌≢◌, ℕ, ℤ, pos, negsuc, ◌+ℤ◌, ◌*ℤ◌, ◌<ℤ◌, ◌<◌, ap, arith, sym, ◌∙◌, subst, List, [], length, map, get_or}
use Rattle.std.proofs.lemmas.Int.{ints}
use Rattle.lt_model.specs.Forms.{squares, numbers_of_form, value}
use Rattle.lt_model.specs.Matrices.{apply, Carries}
use Rattle.lt_model.specs.Simplices.{AllOfDimension, IsClass, IsExpression, excess, translate}
use Rattle.lt_model.specs.Vectors.{scale, dot, combine, IsPrimitive}
use Rattle.lt_model.specs.Walls.{excess_normal, IsPair, IsRegulator, IsWallForm, IsFacet}
use Rattle.lt_model.proofs.Dependent.{length-map_vectors, map-map_vectors}
use Rattle.lt_model.proofs.Excess.{dot-combine, length-translate}
use Rattle.lt_model.proofs.Moved.{translate_all}
use Rattle.lt_model.proofs.Squares.{length-scale, length-plus}
use Rattle.lt_model.proofs.Vectors.{dot-plus, dot-scale, dot_comm}
use Rattle.lt_model.proofs.Walk.{length-combine}
use Rattle.lt_geometry.specs.Carrying.{AreClasses}
use Rattle.lt_geometry.proofs.Carried.{carried_numbers, carried_expression, carried_excess, Agree, HasCarriedNeighbour, carried_neighbour}
use Rattle.lt_geometry.proofs.Images.{IsCarried, HasCarried, has_carried, carries_to, carries_undone, carries_back, classes_carried}
use Rattle.lt_geometry.proofs.Induced.{induced, pulled, value-pulled, length-pulled, pulled_back, length-squares, length-normal, normal_back}
use Rattle.lt_geometry.proofs.Matrices.{IsUndone, undone_back, dot-apply, apply-scale, same_from_dots_at}
use Rattle.lt_geometry.proofs.Motions.{moved, length-moved, length_of_member}
use Rattle.lt_geometry.proofs.Normals.{all_squares}

-- ---- the normal of an excess

-- the excess is linear in the form
pub dot-excess_normal : (q : List ℤ) (vs : List (List ℤ)) (x b : List ℤ) (c : ℤ) → dot q (excess_normal vs x c b) ≡ excess q vs x c b
dot-excess_normal q vs x b c =
    let e1 : dot q (excess_normal vs x c b) ≡ dot q (scale c (squares x)) +ℤ dot q (scale (negsuc 0) (combine b (map squares vs))) = dot-plus q (scale c (squares x)) (scale (negsuc 0) (combine b (map squares vs))) in
    let e2 : dot q (scale c (squares x)) ≡ c *ℤ value q x = dot-scale q c (squares x) in
    let e3 : dot q (scale (negsuc 0) (combine b (map squares vs))) ≡ negsuc 0 *ℤ dot q (combine b (map squares vs)) = dot-scale q (negsuc 0) (combine b (map squares vs)) in
    let e4 : dot q (combine b (map squares vs)) ≡ dot b (map (value q) vs) = dot-combine q b (map squares vs) ∙ ap (dot b) (map-map_vectors (dot q) squares vs) in
    omega (arith, ints, e1, e2, e3, e4)

pub length-excess_normal : (d : ℕ) (vs : List (List ℤ)) (x b : List ℤ) (c : ℤ) → AllOfDimension d vs → 0 < length vs → length x ≡ d → length b ≡ length vs → length (excess_normal vs x c b) ≡ numbers_of_form d
length-excess_normal d vs x b c all some lx lb =
    let l1 : length (scale c (squares x)) ≡ numbers_of_form d = length-scale c (squares x) ∙ length-squares d x lx in
    let l2 : length (combine b (map squares vs)) ≡ numbers_of_form d = length-combine (numbers_of_form d) b (map squares vs) (all_squares d vs all) (lb ∙ sym (length-map_vectors squares vs)) (omega (arith, some, length-map_vectors squares vs)) in
    length-plus (scale c (squares x)) (scale (negsuc 0) (combine b (map squares vs))) (l1 ∙ sym (length-scale (negsuc 0) (combine b (map squares vs)) ∙ l2)) ∙ l1

-- ---- pairs

-- the vertex outside has d coordinates
pub length-outer : (d : ℕ) (t : List (List (List ℤ))) (n : List ℤ) (s : List (List ℤ)) (w : List ℤ) (c : ℤ) (b : List ℤ) → AreClasses d t → IsPair d t n s w c b → length w ≡ d
length-outer d t n s w c b classes p =
    let k : IsClass d p.next = classes p.next p.neighbour.member in
    let l : p.outer < length (translate p.shift p.next) = omega (arith, length-translate p.shift p.next, k.simplex.count, p.neighbour.place) in
    ap length p.vertex ∙ length_of_member d (translate p.shift p.next) (get_or (translate p.shift p.next) p.outer []) (translate_all d p.shift p.next p.neighbour.dimension k.simplex.points) (Contains-get_or (translate p.shift p.next) p.outer [] l)

-- a regulator has n numbers
pub length-pair : (d : ℕ) (t : List (List (List ℤ))) (n : List ℤ) (s : List (List ℤ)) (w : List ℤ) (c : ℤ) (b : List ℤ) → AreClasses d t → IsPair d t n s w c b → length n ≡ numbers_of_form d
length-pair d t n s w c b classes p =
    let k : IsClass d s = classes s p.member in
    sym (length-scale (pos p.factor) n) ∙ ap length (sym p.multiple) ∙ length-excess_normal d s w b c k.simplex.points (omega (arith, k.simplex.count)) (length-outer d t n s w c b classes p) p.expression.one_each

pub length-regulator : (d : ℕ) (t : List (List (List ℤ))) (n : List ℤ) → AreClasses d t → IsRegulator d t n → length n ≡ numbers_of_form d
length-regulator d t n classes (s, w, c, b, p) = length-pair d t n s w c b classes p

-- the image of a primitive normal is primitive
pub primitive_carried : (d : ℕ) (u v : List (List ℤ)) (n : List ℤ) → IsUndone d u v → length n ≡ numbers_of_form d → IsPrimitive n → IsPrimitive (apply (induced u) n)
primitive_carried d u v n h l p g m e = p g (apply (induced v) m) (sym (normal_back d u v n h l) ∙ ap (apply (induced v)) e ∙ apply-scale (induced v) (pos g) m)

-- the pair of the images
pub pair_carried : (d : ℕ) (u : List (List ℤ)) (t t2 : List (List (List ℤ))) (n : List ℤ) (s s2 : List (List ℤ)) (w : List ℤ) (c : ℤ) (b : List ℤ) → AreClasses d t → (h : Carries d u t t2) → (k : IsCarried d u h.inverse s s2) → IsPair d t n s w c b →
    IsPair d t2 (apply (induced u) n) s2 (moved u k.shift w) c (carried_numbers d u h.inverse s s2 k b)
pair_carried d u t t2 n s s2 w c b classes h k p = record {
  member = carries_to d u t t2 s s2 h p.member k;
  facet = r.facet.place;
  place = r.facet.within;
  next = next2.list;
  shift = r.shift;
  outer = r.outer;
  neighbour = r.neighbour;
  vertex = ap (moved u k.shift) p.vertex ∙ sym r.vertex;
  expression = expression;
  primitive = primitive_carried d u v n undo ln p.primitive;
  factor = p.factor;
  some = p.some;
  multiple = same_from_dots_at (numbers_of_form d) (excess_normal s2 (moved u k.shift w) c b2) (scale (pos p.factor) (apply (induced u) n))
      (length-excess_normal d s2 (moved u k.shift w) b2 c k.target.simplex.points (omega (arith, k.target.simplex.count)) length_image expression.one_each)
      (length-scale (pos p.factor) (apply (induced u) n) ∙ length-normal d u n undo.square) at;
}
  where
    v : List (List ℤ)
    v = h.inverse

    undo : IsUndone d u v
    undo = carries_undone d u t t2 h

    lw : length w ≡ d
    lw = length-outer d t n s w c b classes p

    ln : length n ≡ numbers_of_form d
    ln = length-pair d t n s w c b classes p

    next2 : HasCarried d u v p.next
    next2 = has_carried d u v p.next undo (classes p.next p.neighbour.member)

    r : HasCarriedNeighbour d u v t2 s s2 k p.facet next2.list (get_or (translate p.shift p.next) p.outer [])
    r = carried_neighbour d u v t t2 s s2 p.next next2.list p.shift p.facet p.outer k next2.is (carries_to d u t t2 p.next next2.list h p.neighbour.member next2.is) p.place p.neighbour

    b2 : List ℤ
    b2 = carried_numbers d u v s s2 k b

    expression : IsExpression s2 (moved u k.shift w) c b2
    expression = carried_expression d u v s s2 w b c k p.expression

    length_image : length (moved u k.shift w) ≡ d
    length_image = length-moved d u k.shift w undo.square.rows k.motion.shift

    at : (q : List ℤ) → length q ≡ numbers_of_form d → dot q (excess_normal s2 (moved u k.shift w) c b2) ≡ dot q (scale (pos p.factor) (apply (induced u) n))
    at q lq =
        let agree : Agree d u (pulled q u) q = λ y ly. sym (value-pulled d q u y undo.square.columns ly) in
        let e1 : excess q s2 (moved u k.shift w) c b2 ≡ excess (pulled q u) s w c b = carried_excess d u v (pulled q u) q s s2 w b c k agree lw p.expression in
        let e2 : excess (pulled q u) s w c b ≡ dot (pulled q u) (scale (pos p.factor) n) = sym (dot-excess_normal (pulled q u) s w b c) ∙ ap (dot (pulled q u)) p.multiple in
        let e3 : dot (pulled q u) (scale (pos p.factor) n) ≡ pos p.factor *ℤ dot q (apply (induced u) n) = dot-scale (pulled q u) (pos p.factor) n ∙ ap (λ z. pos p.factor *ℤ z) (sym (dot-apply q (induced u) n)) in
        dot-excess_normal q s2 (moved u k.shift w) b2 c ∙ e1 ∙ e2 ∙ e3 ∙ sym (dot-scale q (pos p.factor) (apply (induced u) n))

-- ---- regulators and wall forms

pub regulator_carried : (d : ℕ) (u : List (List ℤ)) (t t2 : List (List (List ℤ))) (n : List ℤ) → AreClasses d t → Carries d u t t2 → IsRegulator d t n → IsRegulator d t2 (apply (induced u) n)
regulator_carried d u t t2 n classes h (s, w, c, b, p) =
    let k = has_carried d u h.inverse s (carries_undone d u t t2 h) (classes s p.member) in
    (k.list, moved u k.is.shift w, c, carried_numbers d u h.inverse s k.list k.is b, pair_carried d u t t2 n s k.list w c b classes h k.is p)

pub normal_forth : (d : ℕ) (u v : List (List ℤ)) (n : List ℤ) → IsUndone d u v → length n ≡ numbers_of_form d → apply (induced u) (apply (induced v) n) ≡ n
normal_forth d u v n h l = normal_back d v u n (undone_back d u v h) l

-- the carried normal has at the pulled form the value of the normal at the form
pub dot-carried : (d : ℕ) (u v : List (List ℤ)) (n q : List ℤ) → IsUndone d u v → length q ≡ numbers_of_form d → dot (apply (induced u) n) (pulled q v) ≡ dot n q
dot-carried d u v n q h l =
    dot_comm (apply (induced u) n) (pulled q v) ∙ dot-apply (pulled q v) (induced u) n ∙ ap (λ (f : List ℤ). dot f n) (pulled_back d u v q h l) ∙ dot_comm q n

pub wall_form_carried : (d : ℕ) (u : List (List ℤ)) (t t2 : List (List (List ℤ))) (n w : List ℤ) → AreClasses d t → (h : Carries d u t t2) → IsWallForm d t n w → IsWallForm d t2 (apply (induced u) n) (pulled w h.inverse)
wall_form_carried d u t t2 n w classes h k = record {
  regulator = regulator_carried d u t t2 n classes h k.regulator;
  numbers = length-pulled d w h.inverse undo.other k.numbers;
  zero_there = dot-carried d u h.inverse n w undo k.numbers ∙ k.zero_there;
  others = others;
}
  where
    undo : IsUndone d u h.inverse
    undo = carries_undone d u t t2 h

    classes2 : AreClasses d t2
    classes2 = classes_carried d u t t2 classes h

    others : (m : List ℤ) → IsRegulator d t2 m → m ≢ apply (induced u) n → pos 0 <ℤ dot m (pulled w h.inverse)
    others m r differs =
        let back : apply (induced u) (apply (induced h.inverse) m) ≡ m = normal_forth d u h.inverse m undo (length-regulator d t2 m classes2 r) in
        let origin : IsRegulator d t (apply (induced h.inverse) m) = regulator_carried d h.inverse t2 t m classes2 (carries_back d u t t2 classes h) r in
        let positive : pos 0 <ℤ dot (apply (induced h.inverse) m) w = k.others (apply (induced h.inverse) m) origin (λ e. differs (sym back ∙ ap (apply (induced u)) e)) in
        let same : dot m (pulled w h.inverse) ≡ dot (apply (induced h.inverse) m) w = ap (λ (y : List ℤ). dot y (pulled w h.inverse)) (sym back) ∙ dot-carried d u h.inverse (apply (induced h.inverse) m) w undo k.numbers in
        subst (λ (z : ℤ). pos 0 <ℤ z) (sym same) positive

pub facet_carried : (d : ℕ) (u : List (List ℤ)) (t t2 : List (List (List ℤ))) (n : List ℤ) → AreClasses d t → Carries d u t t2 → IsFacet d t n → IsFacet d t2 (apply (induced u) n)
facet_carried d u t t2 n classes h (w, k) = (pulled w h.inverse, wall_form_carried d u t t2 n w classes h k)
