use Rattle.std.proofs.Common.{◌≡◌, ◌≤◌, ◌<◌, ◌∙◌, ap, sym, subst, ℕ, ℤ, List, [], length, get_or}
use Rattle.std.proofs.lemmas.List.{get_or_default}
use Rattle.lt_model.specs.Forms.{numbers_of_form}
use Rattle.lt_model.specs.Limits.{weight, weight_limit}
use Rattle.lt_model.specs.Triangulations.{IsDelaunay}
use Rattle.lt_model.specs.Walls.{AreRegulators}
use Rattle.lt_triang.specs.Kept.{dimension_of}
use Rattle.lt_triang.proofs.SomeForm.{delaunay_dimension}
use Rattle.lt_form_rows.proofs.sections.section_of.Goals as goal

-- the numbers of the first form, as the code reads it
first_length : (d : ℕ) (forms : List (List ℤ)) (q : List ℤ) → ((k : ℕ) (x : List ℤ) → k < length forms → length (get_or forms k x) ≡ numbers_of_form d) → 0 < length forms → q ≡ get_or forms 0 q → length q ≡ numbers_of_form d
first_length d forms q same some e = ap length e ∙ same 0 q some

pub section-requires-clause-few : goal.section-requires-clause-few
section-requires-clause-few _ c =
    let q = c.index-forms-0.result in
    let t = c.in-Ok.found.triangulation in
    let l = first_length c.args.d c.args.forms.now q c.requires.same c.requires.some c.index-forms-0.is in
    subst (λ (n : ℕ). length c.args.forms.now ≤ numbers_of_form n) (delaunay_dimension c.args.d q t (c.in-Ok.ensures.delaunay c.args.d l)) c.requires.few

pub section-requires-clause-delaunay : goal.section-requires-clause-delaunay
section-requires-clause-delaunay _ c =
    let q = c.index-forms-0.result in
    let t = c.in-Ok.found.triangulation in
    let l = first_length c.args.d c.args.forms.now q c.requires.same c.requires.some c.index-forms-0.is in
    let h : IsDelaunay c.args.d q t = c.in-Ok.ensures.delaunay c.args.d l in
    let e : q ≡ get_or c.args.forms.now 0 [] = c.index-forms-0.is ∙ get_or_default c.args.forms.now 0 q [] c.requires.some in
    subst (λ (x : List ℤ). IsDelaunay (dimension_of t) x t) e (subst (λ (n : ℕ). IsDelaunay n q t) (delaunay_dimension c.args.d q t h) h)

pub section-requires-clause-light : goal.section-requires-clause-light
section-requires-clause-light _ c =
    let q = c.index-forms-0.result in
    let t = c.in-Ok.found.triangulation in
    let l = first_length c.args.d c.args.forms.now q c.requires.same c.requires.some c.index-forms-0.is in
    let o = (c.in-Ok.ensures.located c.args.d l).reason.0 in
    subst (λ (n : ℕ). (ns : List (List ℤ)) → AreRegulators n t ns → weight n ns < weight_limit) (delaunay_dimension c.args.d q t (c.in-Ok.ensures.delaunay c.args.d l)) o.light
