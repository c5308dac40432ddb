-- What right verdicts tell.
use Rattle.std.proofs.Common.{ℕ, ℤ, arith, refl, List, [], get_or, inl, inr, false, IsTrue}
use Rattle.std.proofs.lemmas.Int.{ints}
use Rattle.std.proofs.lemmas.Bool.{false≢true}
use Rattle.lt_laws.specs.Sections.{IsSectionWall, IsLive}
use Rattle.lt_section.specs.declared.answers.SectionVerdict.TheVariants.{Live, Dead, Combination}
use Rattle.lt_section.specs.Rows.{IsDeadBy}
use Rattle.lt_section.specs.Laws.{VerdictsTell}

-- no facet is both
not_both : (d : ℕ) (t : List (List (List ℤ))) (fs : List (List ℤ)) (r s x : List ℤ) → IsSectionWall d t fs r s → IsLive d t fs r → IsDeadBy d t fs r x → ⊥
not_both d t fs r s x w live dead =
    let p = (live s w).positive x dead.dimension dead.some in
    let z = dead.zero_there s w in
    omega (arith, ints, p, z)

no : {P : Type 0} → IsTrue false → P
no e = absurd (false≢true e)

pub tells : VerdictsTell
tells d t fs rs k (Live at form) h = record {
  live = (λ e. ((at.items, h.0.wall), h.1), λ f. refl);
  dead = (λ e. no e, λ f. absurd (not_both d t fs (get_or rs k []) at.items f.1.0 h.0.wall h.1 f.1.1));
  none = (λ e. no e, λ n. absurd (n (at.items, h.0.wall)));
  facet = λ f. inl (f, h.1);
}
tells d t fs rs k (Dead at form x) h = record {
  live = (λ e. no e, λ f. absurd (not_both d t fs (get_or rs k []) at.items x h.0.wall f.1 h.2));
  dead = (λ e. ((at.items, h.0.wall), (x, h.2)), λ f. refl);
  none = (λ e. no e, λ n. absurd (n (at.items, h.0.wall)));
  facet = λ f. inr (f, (x, h.2));
}
tells d t fs rs k (Combination factor terms) h = record {
  live = (λ e. no e, λ f. absurd (h.1 f.0));
  dead = (λ e. no e, λ f. absurd (h.1 f.0));
  none = (λ e. h.1, λ n. refl);
  facet = λ f. absurd (h.1 f);
}
