-- Simplices and expressions under translation.
use Rattle.std.proofs.Common.{◌≡◌, ℕ, ℤ, pos, negsuc, ◌+ℤ◌, ◌*ℤ◌, ◌<◌, refl, ap, arith, sym, ◌∙◌, subst, List, [], ◌∷◌, length, map, inl, inr}
use Rattle.std.proofs.lemmas.Int.{ints}
use Rattle.std.specs.List.{Contains}
use Rattle.lt_model.proofs.Integers.{spread}
use Rattle.lt_model.proofs.Vectors.{dot-plus, dot-scale}
use Rattle.lt_model.proofs.Squares.{length-scale, length-plus}
use Rattle.lt_model.proofs.Excess.{dot-combine, same_from_dots, dot-constant, dot-sum, map-map, length-translate}
use Rattle.lt_model.proofs.Walk.{length-combine, IsWeighted}
use Rattle.lt_model.proofs.Sets.{Contains-head, Contains-tail, Contains-cases, Contains-none}
use Rattle.lt_model.specs.Vectors.{plus, scale, dot, total, combine, zeros}
use Rattle.lt_model.specs.Simplices.{AllOfDimension, IsSimplex, translate}

pub translate_all : (d : ℕ) (p : List ℤ) (vs : List (List ℤ)) → length p ≡ d → AllOfDimension d vs → AllOfDimension d (translate p vs)
translate_all d p [] lp h = tt
translate_all d p (v ∷ vs) lp h = (length-plus v p (h.0 ∙ sym lp) ∙ h.0, translate_all d p vs lp h.1)

-- a linear function of a combination of moved points
pub dot-moved : (u p b : List ℤ) (vs : List (List ℤ)) → length b ≡ length vs → dot u (combine b (translate p vs)) ≡ dot u (combine b vs) +ℤ total b *ℤ dot u p
dot-moved u p b vs lb =
    let e : map (λ v. dot u (plus v p)) vs ≡ map (λ v. dot u v +ℤ dot u p) vs = each vs in
    dot-combine u b (translate p vs) ∙ ap (dot b) (map-map (dot u) p vs ∙ e) ∙ dot-sum b (dot u) (λ v. dot u p) vs
    ∙ (rw (dot-constant b (dot u p) vs lb, dot-combine u b vs) refl)
  where
    each : (vs : List (List ℤ)) → map (λ v. dot u (plus v p)) vs ≡ map (λ v. dot u v +ℤ dot u p) vs
    each [] = refl
    each (v ∷ vs) = rw (each vs, dot-plus u v p) refl

pub weighted_moved : (d : ℕ) (vs : List (List ℤ)) (p : List ℤ) (m : ℤ) (x b : List ℤ) (c : ℤ) → AllOfDimension d vs → 0 < length vs → length p ≡ d → length x ≡ d → IsWeighted vs m x c b →
    IsWeighted (translate p vs) m (plus x (scale m p)) c b
weighted_moved d vs p m x b c all some lp lx h = record {
  positive = h.positive;
  one_each = h.one_each ∙ sym (length-translate p vs);
  point = same_from_dots (combine b (translate p vs)) (scale c (plus x (scale m p))) (left ∙ sym right) at;
  sum = h.sum;
}
  where
    left : length (combine b (translate p vs)) ≡ d
    left = length-combine d b (translate p vs) (translate_all d p vs lp all) (h.one_each ∙ sym (length-translate p vs)) (omega (arith, length-translate p vs))

    right : length (scale c (plus x (scale m p))) ≡ d
    right = length-scale c (plus x (scale m p)) ∙ length-plus x (scale m p) (lx ∙ sym (length-scale m p ∙ lp)) ∙ lx

    at : (u : List ℤ) → dot u (combine b (translate p vs)) ≡ dot u (scale c (plus x (scale m p)))
    at u =
        let e1 : dot u (combine b vs) ≡ c *ℤ dot u x = ap (dot u) h.point ∙ dot-scale u c x in
        dot-moved u p b vs h.one_each ∙ (rw (e1, h.sum, dot-scale u c (plus x (scale m p)), dot-plus u x (scale m p), dot-scale u m p) (simp spread refl))

pub simplex_moved : (d : ℕ) (vs : List (List ℤ)) (p : List ℤ) → length p ≡ d → IsSimplex d vs → IsSimplex d (translate p vs)
simplex_moved d vs p lp s = record {
  count = length-translate p vs ∙ s.count;
  points = translate_all d p vs lp s.points;
  independent = λ b lb sum none. independent b lb sum none;
}
  where
    independent : (b : List ℤ) → length b ≡ length (translate p vs) → total b ≡ pos 0 → combine b (translate p vs) ≡ zeros d → b ≡ zeros (length (translate p vs))
    independent b lb sum none =
        let lb' : length b ≡ length vs = lb ∙ length-translate p vs in
        let left : length (combine b vs) ≡ d = length-combine d b vs s.points lb' (omega (arith, s.count)) in
        let moved : length (combine b (translate p vs)) ≡ d = length-combine d b (translate p vs) (translate_all d p vs lp s.points) lb (omega (arith, length-translate p vs, s.count)) in
        let same : combine b vs ≡ combine b (translate p vs) = same_from_dots (combine b vs) (combine b (translate p vs)) (left ∙ sym moved) (λ u. at u b lb' sum) in
        s.independent b lb' sum (same ∙ none) ∙ ap zeros (sym (length-translate p vs))
      where
        at : (u b : List ℤ) → length b ≡ length vs → total b ≡ pos 0 → dot u (combine b vs) ≡ dot u (combine b (translate p vs))
        at u b lb sum =
            let e : total b *ℤ dot u p ≡ pos 0 = ap (λ n. n *ℤ dot u p) sum ∙ (omega (arith, ints)) in
            omega (arith, ints, dot-moved u p b vs lb, e)

-- ---- back again

pub plus-back : (d : ℕ) (v p : List ℤ) → length v ≡ d → length p ≡ d → plus (plus v p) (scale (negsuc 0) p) ≡ v
plus-back d v p lv lp =
    same_from_dots (plus (plus v p) (scale (negsuc 0) p)) v
    (length-plus (plus v p) (scale (negsuc 0) p) (length-plus v p (lv ∙ sym lp) ∙ lv ∙ sym (length-scale (negsuc 0) p ∙ lp)) ∙ length-plus v p (lv ∙ sym lp))
    (λ u. dot-plus u (plus v p) (scale (negsuc 0) p) ∙ (rw (dot-plus u v p, dot-scale u (negsuc 0) p) (omega (arith, ints))))

pub translate-back : (d : ℕ) (vs : List (List ℤ)) (p : List ℤ) → AllOfDimension d vs → length p ≡ d → translate (scale (negsuc 0) p) (translate p vs) ≡ vs
translate-back d [] p all lp = refl
translate-back d (v ∷ vs) p all lp = rw (plus-back d v p all.0 lp, translate-back d vs p all.1 lp) refl

pub Contains-translate : (vs : List (List ℤ)) (p x : List ℤ) → Contains vs x → Contains (translate p vs) (plus x p)
Contains-translate [] p x h = Contains-none x h
Contains-translate (v ∷ vs) p x h =
    elim (Contains-cases v vs x h) [
      | inl e ↦ subst (λ (w : List ℤ). Contains (translate p (v ∷ vs)) (plus w p)) e (Contains-head (plus v p) (translate p vs))
      | inr r ↦ Contains-tail (plus v p) (translate p vs) (plus x p) (Contains-translate vs p x r)
    ]
