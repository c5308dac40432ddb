-- The greatest squared circumradius is the squared covering radius.
use Rattle.std.proofs.Common.{◌≡◌, ℤ, ◌*ℤ◌, ◌≤ℤ◌, ◌∙◌, sym, subst, List, [], get_or}
use Rattle.std.specs.List.{Contains}
use Rattle.std.proofs.lemmas.List.{get_or_default}
use Rattle.std.proofs.lemmas.List.Elements.{Contains-get_or}
use Rattle.lt_model.specs.Simplices.{IsClass, IsStrictlyEmpty}
use Rattle.lt_laws.specs.Circumradii.{IsCentre}
use Rattle.lt_laws.proofs.Circumradii.{balls_are_empty}
use Rattle.lt_laws.proofs.Covering.{greatest_covers}
use Rattle.lt_cover.specs.Laws.{CoversAreCoveringRadii}

pub covering : CoversAreCoveringRadii
covering d q t r k del h = record {
  near = λ m x pm lx. greatest_covers d q t r.num r.den del h.radius.2.denominator most m x pm lx;
  reached = (h.radius.0, h.radius.1, record { dimension = h.radius.2.dimension; multiple = h.radius.2.multiple; far = λ v lv. (balls_are_empty d q (get_or t k []) r.num r.den h.radius.0 h.radius.1 has.0.simplex has.1 h.radius.2 v lv).0 });
}
  where
    has : IsClass d (get_or t k []) × IsStrictlyEmpty d q (get_or t k [])
    has = (del.members (get_or t k [])).0 (Contains-get_or t k [] h.within)

    most : (s : List (List ℤ)) (n e g : ℤ) (c : List ℤ) → Contains t s → IsCentre d q s n e g c → (n *ℤ r.den) ≤ℤ (r.num *ℤ e)
    most s n e g c m centre = at m
      where
        at : Contains t s → (n *ℤ r.den) ≤ℤ (r.num *ℤ e)
        at (j, l, f) =
            let here : s ≡ get_or t j [] = sym (get_or_default t j [] s l ∙ f) in
            h.greatest j (record { num = n; den = e }) l (g, c, subst (λ (u : List (List ℤ)). IsCentre d q u n e g c) here centre)
