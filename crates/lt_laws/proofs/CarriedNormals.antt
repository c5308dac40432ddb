-- A carrying matrix takes regulators to regulators and facets to facets.
use Rattle.std.proofs.Common.{◌≡◌, sym, ◌∙◌, ap, ℕ, ℤ, List, length}
use Rattle.lt_model.specs.Vectors.{dot}
use Rattle.lt_model.specs.Forms.{numbers_of_form, value}
use Rattle.lt_model.specs.Matrices.{apply, IsSquare}
use Rattle.lt_model.proofs.Vectors.{dot_comm}
use Rattle.lt_geometry.proofs.Matrices.{dot-apply}
use Rattle.lt_geometry.proofs.Induced.{induced, pulled, value-pulled, length-pulled, length-normal, forms_same}
use Rattle.lt_geometry.proofs.Regulated.{regulator_carried, facet_carried}
use Rattle.lt_laws.specs.Carried.{IsNormalAlong, RegulatorsAreCarried, FacetsAreCarried}

along : (d : ℕ) (u : List (List ℤ)) (n : List ℤ) → IsSquare d u → IsNormalAlong d u n (apply (induced u) n)
along d u n s = record {
  numbers = length-normal d u n s;
  values = λ q r lq lr same.
      let is : pulled q u ≡ r = forms_same d (pulled q u) r (length-pulled d q u s lq) lr (λ x lx. value-pulled d q u x s.columns lx ∙ sym (same x lx)) in
      dot_comm (apply (induced u) n) q ∙ dot-apply q (induced u) n ∙ ap (λ (f : List ℤ). dot f n) is ∙ dot_comm r n;
}

pub regulators_carried : RegulatorsAreCarried
regulators_carried d u t p n classes h r = (apply (induced u) n, along d u n h.square, regulator_carried d u t p n classes h r)

pub facets_carried : FacetsAreCarried
facets_carried d u t p n classes h f = (apply (induced u) n, along d u n h.square, facet_carried d u t p n classes h f)
