-- One normal alone is along a matrix.
use Rattle.std.proofs.Common.{◌≡◌, ℕ, ℤ, ◌∙◌, sym, List}
use Rattle.lt_model.specs.Forms.{numbers_of_form}
use Rattle.lt_model.specs.Matrices.{apply, IsSquare}
use Rattle.lt_model.proofs.Vectors.{dot_comm}
use Rattle.lt_geometry.proofs.Induced.{induced, pulled, value-pulled, length-pulled, length-normal}
use Rattle.lt_geometry.proofs.Matrices.{dot-apply, same_from_dots_at}
use Rattle.lt_laws.specs.Carried.{IsNormalAlong}

pub along_once : (d : ℕ) (u : List (List ℤ)) (n m : List ℤ) → IsSquare d u → IsNormalAlong d u n m → m ≡ apply (induced u) n
along_once d u n m s h =
    same_from_dots_at (numbers_of_form d) m (apply (induced u) n) h.numbers (length-normal d u n s) (λ q lq.
    dot_comm q m
    ∙ h.values q (pulled q u) lq (length-pulled d q u s lq) (λ x lx. value-pulled d q u x s.columns lx)
    ∙ dot_comm n (pulled q u)
    ∙ sym (dot-apply q (induced u) n))
