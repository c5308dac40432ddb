-- Rows of which each is right, and the form of a right cone.
use Rattle.std.proofs.Common.{◌≡◌, refl, sym, ◌∙◌, ap, arith, ℕ, suc, ◌<◌, ℤ, pos, List, [], ◌∷◌, length, get_or}
use Rattle.lt_model.specs.Vectors.{dot}
use Rattle.lt_model.specs.Cones.{Row, normals}
use Rattle.lt_model.proofs.Vectors.{dot-scale}
use Rattle.lt_model.proofs.Squares.{length-scale}
use Rattle.lt_lp.specs.Reduced.{IsReduced}
use Rattle.lt_geometry.proofs.Primitive.{same_primitive}

pub names_all : (ns : List (List ℤ)) (rows : List Row) → length rows ≡ length ns → ((k : ℕ) (r : Row) → k < length ns → (get_or rows k r).normal ≡ get_or ns k []) → normals rows ≡ ns
names_all [] [] l h = refl
names_all [] (r ∷ rows) l h = absurd (omega arith)
names_all (n ∷ ns) [] l h = absurd (omega arith)
names_all (n ∷ ns) (r ∷ rows) l h =
    let e : r.normal ≡ n = h 0 r (omega arith) in
    let t = names_all ns rows (omega arith) (λ k s m. h (suc k) s (omega arith)) in
    ap (λ (x : List ℤ). x ∷ normals rows) e ∙ ap (λ (xs : List (List ℤ)). n ∷ xs) t

pub one_form : (xs a b : List ℤ) → IsReduced xs a → IsReduced xs b → a ≡ b
one_form xs a b r s =
    let l : length a ≡ length b = sym (length-scale (pos r.factor) a) ∙ ap (length {A = ℤ}) (sym r.times ∙ s.times) ∙ length-scale (pos s.factor) b in
    same_primitive r.factor s.factor a b r.some s.some l r.primitive s.primitive (λ u. sym (dot-scale u (pos r.factor) a) ∙ ap (dot u) (sym r.times ∙ s.times) ∙ dot-scale u (pos s.factor) b)
