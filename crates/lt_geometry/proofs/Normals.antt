-- The excess as a linear function of the form.
use Rattle.std.proofs.Common.{◌≡◌, ℕ, ℤ, negsuc, ◌<◌, ap, arith, sym, ◌∙◌, List, [], ◌∷◌, length, map}
use Rattle.std.proofs.lemmas.Int.{ints}
use Rattle.lt_model.proofs.Squares.{length-scale, length-plus}
use Rattle.lt_model.proofs.Vectors.{dot-plus, dot-scale, dot_comm}
use Rattle.lt_model.proofs.Excess.{dot-combine}
use Rattle.lt_model.proofs.Walk.{length-combine}
use Rattle.lt_model.proofs.Dependent.{map-map_vectors, length-map_vectors}
use Rattle.lt_model.specs.Vectors.{scale, dot, combine}
use Rattle.lt_model.specs.Forms.{squares, value, numbers_of_form}
use Rattle.lt_model.specs.Simplices.{AllOfDimension, excess}
use Rattle.lt_model.specs.Walls.{excess_normal}
use Rattle.lt_geometry.proofs.Induced.{length-squares}

pub normal_dot : (q : List ℤ) (vs : List (List ℤ)) (x : List ℤ) (c : ℤ) (b : List ℤ) → dot q (excess_normal vs x c b) ≡ excess q vs x c b
normal_dot q vs x c b =
    let e1 = dot-plus q (scale c (squares x)) (scale (negsuc 0) (combine b (map squares vs))) in
    let e2 = dot-scale q c (squares x) in
    let e3 = dot-scale q (negsuc 0) (combine b (map squares vs)) in
    let e4 : dot q (combine b (map squares vs)) ≡ dot b (map (value q) vs) = dot-combine q b (map squares vs) ∙ ap (dot b) (map-map_vectors (dot q) squares vs) in
    omega (arith, ints, e1, e2, e3, e4)

pub normal_value : (q : List ℤ) (vs : List (List ℤ)) (x : List ℤ) (c : ℤ) (b : List ℤ) → dot (excess_normal vs x c b) q ≡ excess q vs x c b
normal_value q vs x c b = dot_comm (excess_normal vs x c b) q ∙ normal_dot q vs x c b

pub all_squares : (d : ℕ) (vs : List (List ℤ)) → AllOfDimension d vs → AllOfDimension (numbers_of_form d) (map squares vs)
all_squares d [] h = tt
all_squares d (v ∷ vs) h = (length-squares d v h.0, all_squares d vs h.1)

pub length-normal : (d : ℕ) (vs : List (List ℤ)) (x : List ℤ) (c : ℤ) (b : List ℤ) → AllOfDimension d vs → 0 < length vs → length x ≡ d → length b ≡ length vs → length (excess_normal vs x c b) ≡ numbers_of_form d
length-normal d vs x c b all some lx lb =
    let l1 : length (scale c (squares x)) ≡ numbers_of_form d = length-scale c (squares x) ∙ length-squares d x lx in
    let lm = length-map_vectors squares vs in
    let l2 : length (scale (negsuc 0) (combine b (map squares vs))) ≡ numbers_of_form d = length-scale (negsuc 0) (combine b (map squares vs)) ∙ length-combine (numbers_of_form d) b (map squares vs) (all_squares d vs all) (lb ∙ sym lm) (omega (arith, lm)) in
    length-plus (scale c (squares x)) (scale (negsuc 0) (combine b (map squares vs))) (l1 ∙ sym l2) ∙ l1
