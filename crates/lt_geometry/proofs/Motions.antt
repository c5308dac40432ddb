-- Motions x to u x + t of simplices, expressions and excesses.
use Rattle.std.proofs.Common.{◌≡◌, ℕ, zero, suc, ℤ, pos, negsuc, ◌+ℤ◌, ◌-ℤ◌, ◌*ℤ◌, ◌<◌, refl, ap, arith, sym, ◌∙◌, subst, List, [], ◌∷◌, length, map, inl, inr}
use Rattle.std.proofs.lemmas.Int.{ints}
use Rattle.std.specs.List.{Contains}
use Rattle.lt_model.specs.Facets.{without, number_at}
use Rattle.lt_model.specs.Matrices.{apply}
use Rattle.lt_model.specs.Simplices.{AllOfDimension, IsSimplex, IsExpression, excess, translate}
use Rattle.lt_model.specs.Vectors.{plus, scale, dot, total, combine, zeros}
use Rattle.lt_model.specs.Forms.{value}
use Rattle.lt_model.proofs.Dependent.{length-map_vectors, map-map_vectors}
use Rattle.lt_model.proofs.Excess.{dot-combine, same_from_dots, dot-constant, dot-sum, excess-moved}
use Rattle.lt_model.proofs.Integers.{spread}
use Rattle.lt_model.proofs.Opposite.{length-zeros}
use Rattle.lt_model.proofs.Sets.{Contains-head, Contains-tail, Contains-cases, Contains-none, each_holds}
use Rattle.lt_model.proofs.Squares.{length-scale, length-plus}
use Rattle.lt_model.proofs.Vectors.{dot-plus, dot-scale, plus_comm, plus_assoc}
use Rattle.lt_model.proofs.Walk.{length-combine}
use Rattle.lt_model.proofs.Points.{minus_itself, length-apply, plus-zeros}
use Rattle.lt_geometry.proofs.Matrices.{IsUndone, dot-apply, apply-plus, apply-scale, apply-zeros, undone_back, map-apply_all}
use Rattle.lt_geometry.proofs.Rearranged.{IsRearranged, rearrange, length-rearrange, dot-rearrange, total-rearrange, length-rearranged}

-- ---- members of mapped lists

module _ {X Y : Type 0} (f : X → Y) where
  pub record IsMapped (vs : List X) (y : Y) : Type 0 where
    pub from : X
    pub member : Contains vs from
    pub is : f from ≡ y

  pub mapped : (vs : List X) (y : Y) → Contains (map f vs) y → IsMapped vs y
  mapped [] y c = Contains-none y c
  mapped (v ∷ vs) y c =
      elim (Contains-cases (f v) (map f vs) y c) [
        | inl e ↦ record { from = v; member = Contains-head v vs; is = e }
        | inr r ↦ let h = mapped vs y r in record { from = h.from; member = Contains-tail v vs h.from h.member; is = h.is }
      ]

pub all_from_members : (d : ℕ) (vs : List (List ℤ)) → ((x : List ℤ) → Contains vs x → length x ≡ d) → AllOfDimension d vs
all_from_members d [] h = tt
all_from_members d (v ∷ vs) h = (h v (Contains-head v vs), all_from_members d vs (λ x c. h x (Contains-tail v vs x c)))

pub length_of_member : (d : ℕ) (vs : List (List ℤ)) (x : List ℤ) → AllOfDimension d vs → Contains vs x → length x ≡ d
length_of_member d vs x all c = each_holds (λ v. length v ≡ d) vs x all c

-- ---- zeros and negatives

-- ---- a matrix and a shift

abbrev pub moved : List (List ℤ) → List ℤ → List ℤ → List ℤ
moved u t x = plus (apply u x) t

-- x to u x + t, and y to v y + r, undo each other
pub record IsMotion (d : ℕ) (u : List (List ℤ)) (t : List ℤ) (v : List (List ℤ)) (r : List ℤ) : Type 0 where
  pub undone : IsUndone d u v
  pub shift : length t ≡ d
  pub back_shift : length r ≡ d
  pub there : plus (apply v t) r ≡ zeros d
  pub again : plus (apply u r) t ≡ zeros d

pub motion_back : (d : ℕ) (u : List (List ℤ)) (t : List ℤ) (v : List (List ℤ)) (r : List ℤ) → IsMotion d u t v r → IsMotion d v r u t
motion_back d u t v r m = record { undone = undone_back d u v m.undone; shift = m.back_shift; back_shift = m.shift; there = m.again; again = m.there }

abbrev pub back_shift : List (List ℤ) → List ℤ → List ℤ
back_shift v t = scale (negsuc 0) (apply v t)

pub motion_of : (d : ℕ) (u : List (List ℤ)) (t : List ℤ) (v : List (List ℤ)) → IsUndone d u v → length t ≡ d → IsMotion d u t v (back_shift v t)
motion_of d u t v h lt = record {
  undone = h;
  shift = lt;
  back_shift = length-scale (negsuc 0) (apply v t) ∙ length-apply v t ∙ h.other.rows;
  there = minus_itself d (apply v t) (length-apply v t ∙ h.other.rows);
  again = ap (λ y. plus y t) (apply-scale u (negsuc 0) (apply v t) ∙ ap (scale (negsuc 0)) (h.right t lt)) ∙ plus_comm (scale (negsuc 0) t) t ∙ minus_itself d t lt;
}

pub length-moved : (d : ℕ) (u : List (List ℤ)) (t x : List ℤ) → length u ≡ d → length t ≡ d → length (moved u t x) ≡ d
length-moved d u t x lu lt = length-plus (apply u x) t (length-apply u x ∙ lu ∙ sym lt) ∙ length-apply u x ∙ lu

pub moved_back : (d : ℕ) (u : List (List ℤ)) (t : List ℤ) (v : List (List ℤ)) (r x : List ℤ) → IsMotion d u t v r → length x ≡ d → moved v r (moved u t x) ≡ x
moved_back d u t v r x m lx =
    ap (λ y. plus y r) (apply-plus v (apply u x) t ∙ ap (λ y. plus y (apply v t)) (m.undone.left x lx)) ∙ plus_assoc x (apply v t) r ∙ ap (plus x) m.there ∙ plus-zeros d x lx

pub moved_all : (d : ℕ) (u : List (List ℤ)) (t : List ℤ) (vs : List (List ℤ)) → length u ≡ d → length t ≡ d → AllOfDimension d (map (moved u t) vs)
moved_all d u t [] lu lt = tt
moved_all d u t (x ∷ vs) lu lt = (length-moved d u t x lu lt, moved_all d u t vs lu lt)

-- a linear function of a combination of moved points
pub dot-moved_combine : (w : List ℤ) (u : List (List ℤ)) (t b : List ℤ) (vs : List (List ℤ)) → length b ≡ length vs →
    dot w (combine b (map (moved u t) vs)) ≡ dot w (apply u (combine b vs)) +ℤ total b *ℤ dot w t
dot-moved_combine w u t b vs lb =
    dot-combine w b (map (moved u t) vs) ∙ ap (dot b) (map-map_vectors (dot w) (moved u t) vs ∙ each vs) ∙ dot-sum b (dot (combine w u)) (λ x. dot w t) vs
    ∙ (λ i. sym (dot-combine (combine w u) b vs) i +ℤ dot-constant b (dot w t) vs lb i) ∙ ap (λ n. n +ℤ total b *ℤ dot w t) (sym (dot-apply w u (combine b vs)))
  where
    each : (vs : List (List ℤ)) → map (λ x. dot w (moved u t x)) vs ≡ map (λ x. dot (combine w u) x +ℤ dot w t) vs
    each [] = refl
    each (x ∷ vs) = rw (each vs, dot-plus w (apply u x) t, dot-apply w u x) refl

pub expression_moved_by : (d : ℕ) (u : List (List ℤ)) (t : List ℤ) (vs : List (List ℤ)) (x b : List ℤ) (c : ℤ) → length u ≡ d → length t ≡ d → 0 < length vs → IsExpression vs x c b → IsExpression (map (moved u t) vs) (moved u t x) c b
expression_moved_by d u t vs x b c lu lt some h = record {
  positive = h.positive;
  one_each = lb;
  point = same_from_dots (combine b (map (moved u t) vs)) (scale c (moved u t x))
      (length-combine d b (map (moved u t) vs) (moved_all d u t vs lu lt) lb (omega (arith, length-map_vectors (moved u t) vs)) ∙ sym (length-scale c (moved u t x) ∙ length-moved d u t x lu lt)) at;
  sum = h.sum;
}
  where
    lb : length b ≡ length (map (moved u t) vs)
    lb = h.one_each ∙ sym (length-map_vectors (moved u t) vs)

    end : (c p q : ℤ) → c *ℤ p +ℤ c *ℤ q ≡ c *ℤ (p +ℤ q)
    end c p q = simp spread refl

    at : (w : List ℤ) → dot w (combine b (map (moved u t) vs)) ≡ dot w (scale c (moved u t x))
    at w =
        let e1 : dot w (apply u (combine b vs)) ≡ c *ℤ dot w (apply u x) = ap (λ y. dot w (apply u y)) h.point ∙ ap (dot w) (apply-scale u c x) ∙ dot-scale w c (apply u x) in
        dot-moved_combine w u t b vs h.one_each ∙ (λ i. e1 i +ℤ h.sum i *ℤ dot w t) ∙ end c (dot w (apply u x)) (dot w t) ∙ ap (λ n. c *ℤ n) (sym (dot-plus w (apply u x) t)) ∙ sym (dot-scale w c (moved u t x))

pub simplex_moved_by : (d : ℕ) (u : List (List ℤ)) (t : List ℤ) (v : List (List ℤ)) (r : List ℤ) (vs : List (List ℤ)) → IsMotion d u t v r → IsSimplex d vs → IsSimplex d (map (moved u t) vs)
simplex_moved_by d u t v r vs m s = record {
  count = length-map_vectors (moved u t) vs ∙ s.count;
  points = moved_all d u t vs m.undone.square.rows m.shift;
  independent = λ b lb sum none. independent b (lb ∙ length-map_vectors (moved u t) vs) sum none ∙ ap zeros (sym (length-map_vectors (moved u t) vs));
}
  where
    independent : (b : List ℤ) → length b ≡ length vs → total b ≡ pos 0 → combine b (map (moved u t) vs) ≡ zeros d → b ≡ zeros (length vs)
    independent b lb sum none =
        let ly : length (combine b vs) ≡ d = length-combine d b vs s.points lb (omega (arith, s.count)) in
        let image : apply u (combine b vs) ≡ zeros d = same_from_dots (apply u (combine b vs)) (zeros d) (length-apply u (combine b vs) ∙ m.undone.square.rows ∙ sym (length-zeros d)) at in
        s.independent b lb sum (sym (m.undone.left (combine b vs) ly) ∙ ap (apply v) image ∙ apply-zeros v d ∙ ap zeros m.undone.other.rows)
      where
        at : (w : List ℤ) → dot w (apply u (combine b vs)) ≡ dot w (zeros d)
        at w =
            let e1 : total b *ℤ dot w t ≡ pos 0 = ap (λ n. n *ℤ dot w t) sum ∙ (omega (arith, ints)) in
            let e2 : dot w (combine b (map (moved u t) vs)) ≡ dot w (zeros d) = ap (dot w) none in
            let e3 = dot-moved_combine w u t b vs lb in
            omega (arith, ints, e1, e2, e3)

-- ---- the same for a list in another order

pub combine_rearranged : (d : ℕ) (vs ws : List (List ℤ)) (r : IsRearranged vs ws) (b : List ℤ) → AllOfDimension d vs → AllOfDimension d ws → 0 < length vs → length b ≡ length vs → combine (rearrange vs ws r b) ws ≡ combine b vs
combine_rearranged d vs ws r b av aw some lb =
    same_from_dots (combine (rearrange vs ws r b) ws) (combine b vs)
    (length-combine d (rearrange vs ws r b) ws aw (length-rearrange vs ws r b) (omega (arith, length-rearranged vs ws r)) ∙ sym (length-combine d b vs av lb some))
    (λ w. dot-combine w (rearrange vs ws r b) ws ∙ dot-rearrange (dot w) vs ws r b lb ∙ sym (dot-combine w b vs))

pub expression_rearranged : (d : ℕ) (vs ws : List (List ℤ)) (r : IsRearranged vs ws) (x b : List ℤ) (c : ℤ) → AllOfDimension d vs → AllOfDimension d ws → 0 < length vs → IsExpression vs x c b → IsExpression ws x c (rearrange vs ws r b)
expression_rearranged d vs ws r x b c av aw some h = record {
  positive = h.positive;
  one_each = length-rearrange vs ws r b;
  point = combine_rearranged d vs ws r b av aw some h.one_each ∙ h.point;
  sum = total-rearrange vs ws r b h.one_each ∙ h.sum;
}

zeros_from : (n k : ℕ) (b : List ℤ) → length b ≡ suc n → k < suc n → number_at k b ≡ pos 0 → without k b ≡ zeros n → b ≡ zeros (suc n)
zeros_from n k [] l h e f = absurd (omega arith)
zeros_from n zero (a ∷ b) l h e f = cc
zeros_from zero (suc k) (a ∷ b) l h e f = absurd (omega arith)
zeros_from (suc n) (suc k) (a ∷ b) l h e f =
    let head : a ≡ pos 0 = cc in
    let rest : without k b ≡ zeros n = cc in
    let tail : b ≡ zeros (suc n) = zeros_from n k b (omega arith) (omega arith) e rest in
    cc

zeros_from_rearranged : (n : ℕ) (vs ws : List (List ℤ)) (r : IsRearranged vs ws) (b : List ℤ) → length vs ≡ n → length b ≡ n → rearrange vs ws r b ≡ zeros n → b ≡ zeros n
zeros_from_rearranged zero vs ws r [] lv lb h = refl
zeros_from_rearranged zero vs ws r (a ∷ b) lv lb h = absurd (omega arith)
zeros_from_rearranged (suc n) vs [] r b lv lb h = absurd (omega (arith, r))
zeros_from_rearranged (suc n) vs (w ∷ ws) r b lv lb h =
    let k : ℕ = r.0 in
    let k_within : k < suc n = omega (arith, r.1) in
    let head : number_at k b ≡ pos 0 = cc in
    let rest : rearrange (without k vs) ws r.3 (without k b) ≡ zeros n = cc in
    let lw : length (without k vs) ≡ n = omega (arith, length_without_here vs k r.1) in
    let lc : length (without k b) ≡ n = omega (arith, length_without_here b k (omega (arith, k_within))) in
    zeros_from n k b lb k_within head (zeros_from_rearranged n (without k vs) ws r.3 (without k b) lw lc rest)
  where
    length_without_here : {X : Type 0} (b : List X) (i : ℕ) → i < length b → suc (length (without i b)) ≡ length b
    length_without_here [] i h = absurd (omega arith)
    length_without_here (a ∷ b) zero h = refl
    length_without_here (a ∷ b) (suc i) h = ap suc (length_without_here b i (omega arith))

-- a simplex in another order: ws is one where its list in some order is
pub simplex_rearranged : (d : ℕ) (vs ws : List (List ℤ)) → IsRearranged ws vs → AllOfDimension d ws → IsSimplex d vs → IsSimplex d ws
simplex_rearranged d vs ws r aw s = record {
  count = lw;
  points = aw;
  independent = λ b lb sum none. zeros_from_rearranged (length ws) ws vs r b refl lb
      (s.independent (rearrange ws vs r b) (length-rearrange ws vs r b) (total-rearrange ws vs r b lb ∙ sum) (combine_rearranged d ws vs r b aw s.points (omega (arith, lw)) lb ∙ none) ∙ ap zeros (length-rearranged ws vs r));
}
  where
    lw : length ws ≡ suc d
    lw = sym (length-rearranged ws vs r) ∙ s.count

-- ---- the excess

pub excess_rearranged : (q : List ℤ) (vs ws : List (List ℤ)) (r : IsRearranged vs ws) (x b : List ℤ) (c : ℤ) → length b ≡ length vs → excess q ws x c (rearrange vs ws r b) ≡ excess q vs x c b
excess_rearranged q vs ws r x b c lb = ap (λ n. c *ℤ value q x -ℤ n) (dot-rearrange (value q) vs ws r b lb)

map_moved : (u : List (List ℤ)) (t : List ℤ) (vs : List (List ℤ)) → map (moved u t) vs ≡ translate t (map (apply u) vs)
map_moved u t [] = refl
map_moved u t (x ∷ vs) = ap (λ l. moved u t x ∷ l) (map_moved u t vs)

unmoved : (d : ℕ) (u : List (List ℤ)) (vs : List (List ℤ)) → length u ≡ d → map (moved u (zeros d)) vs ≡ map (apply u) vs
unmoved d u [] lu = refl
unmoved d u (x ∷ vs) lu = rw (unmoved d u vs lu, plus-zeros d (apply u x) (length-apply u x ∙ lu)) refl

pub expression_applied : (d : ℕ) (u : List (List ℤ)) (vs : List (List ℤ)) (x b : List ℤ) (c : ℤ) → length u ≡ d → 0 < length vs → IsExpression vs x c b → IsExpression (map (apply u) vs) (apply u x) c b
expression_applied d u vs x b c lu some h =
    subst (λ (p : List (List ℤ)). IsExpression p (apply u x) c b) (unmoved d u vs lu)
    (subst (λ (y : List ℤ). IsExpression (map (moved u (zeros d)) vs) y c b) (plus-zeros d (apply u x) (length-apply u x ∙ lu)) (expression_moved_by d u (zeros d) vs x b c lu (length-zeros d) some h))

-- a form that has at each image the value of q has the excess of q
pub excess_moved_by : (d : ℕ) (q q' : List ℤ) (u : List (List ℤ)) (t : List ℤ) (vs : List (List ℤ)) (x b : List ℤ) (c : ℤ) → length u ≡ d → length t ≡ d → AllOfDimension d vs → length x ≡ d → 0 < length vs →
    ((y : List ℤ) → length y ≡ d → value q' (apply u y) ≡ value q y) → IsExpression vs x c b → excess q' (map (moved u t) vs) (moved u t x) c b ≡ excess q vs x c b
excess_moved_by d q q' u t vs x b c lu lt all lx some agree h =
    ap (λ (p : List (List ℤ)). excess q' p (moved u t x) c b) (map_moved u t vs)
    ∙ excess-moved q' b (map (apply u) vs) (apply u x) t c (subst (λ (n : ℕ). AllOfDimension n (map (apply u) vs)) (sym lt) (map-apply_all d u vs lu)) (length-apply u x ∙ lu ∙ sym lt) (expression_applied d u vs x b c lu some h)
    ∙ (λ i. c *ℤ agree x lx i -ℤ dot b (values vs all i))
  where
    values : (vs : List (List ℤ)) → AllOfDimension d vs → map (value q') (map (apply u) vs) ≡ map (value q) vs
    values [] all = refl
    values (v ∷ vs) all = rw (values vs all.1, agree v all.0) refl
