-- Sums over the vertices of a simplex, and the excess under translation.
use Rattle.std.proofs.Common.{◌≡◌, ℕ, suc, ℤ, pos, ◌+ℤ◌, ◌*ℤ◌, refl, ap, arith, sym, ◌∙◌, List, [], ◌∷◌, ◌++◌, length, map, take, drop}
use Rattle.std.proofs.lemmas.Int.{ints}
use Rattle.lt_model.proofs.Integers.{spread}
use Rattle.lt_model.proofs.Vectors.{dot-plus, dot-scale, dot_comm}
use Rattle.lt_model.proofs.Squares.{value-sum, length-scale, length-plus}
use Rattle.lt_model.specs.Vectors.{plus, scale, dot, total, combine}
use Rattle.lt_model.specs.Forms.{value, cross, polar}
use Rattle.lt_model.specs.Simplices.{AllOfDimension, IsExpression, excess, translate}

pub dot-nil : (q : List ℤ) → dot q [] ≡ pos 0
dot-nil [] = refl
dot-nil (a ∷ q) = refl

-- a linear function of a combination
pub dot-combine : (u b : List ℤ) (vs : List (List ℤ)) → dot u (combine b vs) ≡ dot b (map (dot u) vs)
dot-combine u [] vs = dot-nil u
dot-combine u (k ∷ b) [] = dot-nil u
dot-combine u (k ∷ b) (v ∷ vs) = rw (dot-plus u (scale k v) (combine b vs), dot-scale u k v, dot-combine u b vs) refl

-- two vectors at which every linear function agrees are equal
pub same_from_dots : (x y : List ℤ) → length x ≡ length y → ((u : List ℤ) → dot u x ≡ dot u y) → x ≡ y
same_from_dots [] [] l h = refl
same_from_dots [] (b ∷ y) l h = absurd (omega arith)
same_from_dots (a ∷ x) [] l h = absurd (omega arith)
same_from_dots (a ∷ x) (b ∷ y) l h =
    let head : a ≡ b = omega (arith, ints, h (pos 1 ∷ [])) in
    let tail : x ≡ y = same_from_dots x y (omega arith) (λ u. omega (arith, ints, h (pos 0 ∷ u))) in
    cc

pub dot-sum : (b : List ℤ) (f g : List ℤ → ℤ) (vs : List (List ℤ)) → dot b (map (λ v. f v +ℤ g v) vs) ≡ dot b (map f vs) +ℤ dot b (map g vs)
dot-sum [] f g vs = refl
dot-sum (k ∷ b) f g [] = refl
dot-sum (k ∷ b) f g (v ∷ vs) = rw (dot-sum b f g vs) (simp spread (omega (arith, ints)))

pub dot-constant : (b : List ℤ) (k : ℤ) (vs : List (List ℤ)) → length b ≡ length vs → dot b (map (λ v. k) vs) ≡ total b *ℤ k
dot-constant [] k [] l = omega (arith, ints)
dot-constant [] k (v ∷ vs) l = absurd (omega arith)
dot-constant (a ∷ b) k [] l = absurd (omega arith)
dot-constant (a ∷ b) k (v ∷ vs) l = rw (dot-constant b k vs (omega arith)) (simp spread (omega (arith, ints)))

pub map-same : (d : ℕ) (f g : List ℤ → ℤ) (vs : List (List ℤ)) → AllOfDimension d vs → ((v : List ℤ) → length v ≡ d → f v ≡ g v) → map f vs ≡ map g vs
map-same d f g [] all h = refl
map-same d f g (v ∷ vs) all h = rw (h v all.0, map-same d f g vs all.1 h) refl

pub map-map : (f : List ℤ → ℤ) (t : List ℤ) (vs : List (List ℤ)) → map f (translate t vs) ≡ map (λ v. f (plus v t)) vs
map-map f t [] = refl
map-map f t (v ∷ vs) = ap (λ l. f (plus v t) ∷ l) (map-map f t vs)

pub length-translate : (t : List ℤ) (vs : List (List ℤ)) → length (translate t vs) ≡ length vs
length-translate t [] = refl
length-translate t (v ∷ vs) = ap suc (length-translate t vs)

pub plus-dot : (x y v : List ℤ) → dot (plus x y) v ≡ dot x v +ℤ dot y v
plus-dot x y v = dot_comm (plus x y) v ∙ dot-plus v x y ∙ (rw (dot_comm v x, dot_comm v y) refl)

pub scale-dot : (k : ℤ) (x v : List ℤ) → dot (scale k x) v ≡ k *ℤ dot x v
scale-dot k x v = dot_comm (scale k x) v ∙ dot-scale v k x ∙ ap (λ n. k *ℤ n) (dot_comm v x)

pub dot-append : (q x y : List ℤ) → dot q (x ++ y) ≡ dot (take (length x) q) x +ℤ dot (drop (length x) q) y
dot-append q [] y = omega (arith, ints, dot-nil (take 0 q))
dot-append [] (a ∷ x) y = refl
dot-append (k ∷ q) (a ∷ x) y = rw (dot-append q x y) (omega (arith, ints))

pub dot-append_at : (q : List ℤ) (n : ℕ) (x y : List ℤ) → length x ≡ n → dot q (x ++ y) ≡ dot (take n q) x +ℤ dot (drop n q) y
dot-append_at q n x y l = rw l at (dot-append q x y)

-- for one t, the polar form is a linear function
pub gradient : (q t : List ℤ) → (g : List ℤ) × ((v : List ℤ) → length v ≡ length t → polar q v t ≡ dot g v)
gradient q [] = ([], at_none)
  where
    at_none : (v : List ℤ) → length v ≡ 0 → polar q v [] ≡ pos 0
    at_none [] h = dot-nil q
    at_none (a ∷ v) h = dot-nil q
gradient q (b ∷ t) =
    let n = suc (length t) in
    let row : List ℤ = take n q in
    let rest : (g : List ℤ) × ((v : List ℤ) → length v ≡ length t → polar (drop n q) v t ≡ dot g v) = gradient (drop n q) t in
    let g : List ℤ = plus (dot row (b ∷ t) ∷ []) (plus (scale b row) (pos 0 ∷ rest.0)) in
    (g, holds rest.0 rest.1)
  where
    holds : (g : List ℤ) (h : (v : List ℤ) → length v ≡ length t → polar (drop (suc (length t)) q) v t ≡ dot g v) (v : List ℤ) → length v ≡ suc (length t) → polar q v (b ∷ t) ≡ dot (plus (dot (take (suc (length t)) q) (b ∷ t) ∷ []) (plus (scale b (take (suc (length t)) q)) (pos 0 ∷ g))) v
    holds g h [] e = absurd (omega arith)
    holds g h (a ∷ v) e =
        let n = suc (length t) in
        let row : List ℤ = take n q in
        let first : List ℤ = plus (scale a (b ∷ t)) (scale b (a ∷ v)) in
        let l : length first ≡ n = ap suc (length-plus (scale a t) (scale b v) (rw (length-scale a t, length-scale b v) (omega arith)) ∙ length-scale a t) in
        let e2 : polar q (a ∷ v) (b ∷ t) ≡ dot row first +ℤ dot (drop n q) (cross v t) = dot-append_at q n first (cross v t) l in
        let e3 : dot row first ≡ a *ℤ dot row (b ∷ t) +ℤ b *ℤ dot row (a ∷ v) =
        dot-plus row (scale a (b ∷ t)) (scale b (a ∷ v)) ∙ (rw (dot-scale row a (b ∷ t), dot-scale row b (a ∷ v)) refl)
        in
        let e4 : dot (drop n q) (cross v t) ≡ dot g v = h v (omega arith) in
        let e5 : dot (plus (dot row (b ∷ t) ∷ []) (plus (scale b row) (pos 0 ∷ g))) (a ∷ v) ≡ dot row (b ∷ t) *ℤ a +ℤ pos 0 +ℤ (b *ℤ dot row (a ∷ v) +ℤ (pos 0 *ℤ a +ℤ dot g v)) =
        plus-dot (dot row (b ∷ t) ∷ []) (plus (scale b row) (pos 0 ∷ g)) (a ∷ v) ∙ (rw (plus-dot (scale b row) (pos 0 ∷ g) (a ∷ v), scale-dot b row (a ∷ v)) refl)
        in
        e2 ∙ (rw (e3, e4, e5) (omega (arith, ints)))

-- a sum of values over points that are moved by t
pub dot-value_moved : (q b : List ℤ) (vs : List (List ℤ)) (x t : List ℤ) (c : ℤ) → AllOfDimension (length t) vs → length x ≡ length t → IsExpression vs x c b → dot b (map (value q) (translate t vs)) ≡ dot b (map (value q) vs) +ℤ c *ℤ value q t +ℤ c *ℤ polar q x t
dot-value_moved q b vs x t c all l e =
    let g : List ℤ = (gradient q t).0 in
    let is : (v : List ℤ) → length v ≡ length t → polar q v t ≡ dot g v = (gradient q t).1 in
    let each : map (λ v. value q (plus v t)) vs ≡ map (λ v. (value q v +ℤ value q t) +ℤ dot g v) vs =
    map-same (length t) _ _ vs all (λ v h. value-sum q v t h ∙ ap (λ n. value q v +ℤ value q t +ℤ n) (is v h))
    in
    let constant : dot b (map (λ v. value q t) vs) ≡ total b *ℤ value q t = dot-constant b (value q t) vs e.one_each in
    let linear : dot b (map (dot g) vs) ≡ c *ℤ polar q x t =
    sym (dot-combine g b vs) ∙ (rw (e.point, dot-scale g c x, is x l) refl)
    in
    ap (dot b) (map-map (value q) t vs ∙ each) ∙ dot-sum b (λ v. value q v +ℤ value q t) (dot g) vs ∙ (rw (dot-sum b (value q) (λ v. value q t) vs, constant, linear, e.sum) refl)

-- the excess stays the same where point and simplex are moved by t
pub excess-moved : (q b : List ℤ) (vs : List (List ℤ)) (x t : List ℤ) (c : ℤ) → AllOfDimension (length t) vs → length x ≡ length t → IsExpression vs x c b → excess q (translate t vs) (plus x t) c b ≡ excess q vs x c b
excess-moved q b vs x t c all l e =
    rw (dot-value_moved q b vs x t c all l e, value-sum q x t l) (simp spread (omega (arith, ints)))
