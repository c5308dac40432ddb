-- A facet of an entry that has a place has one image there, behind which lies what is carried over.
use Rattle.std.proofs.Common.{ℕ, ◌≤◌, ◌∙◌, refl, subst, []}
use Rattle.std.proofs.lemmas.List.{get_or_default}
use Rattle.lt_model.specs.Atlases.{entry_at, facets, facet_at}
use Rattle.lt_merge.specs.Images.{IsOnto}
use Rattle.lt_merge.specs.Laws.{FacetsHaveImages, FacetsHaveOneImage, CrossingsGoToImages}
use Rattle.lt_merge.proofs.Crossed.{carried_over}
use Rattle.lt_merge.proofs.OneImage.{one_image}
use Rattle.lt_merge.proofs.Onto.{image, image_there, is_image}
use Rattle.lt_merge.proofs.Placed.{entry_onto}

pub facets_have_images : FacetsHaveImages
facets_have_images t a p j u pair lp lf placed =
    let low_t : 2 ≤ t.dimension = subst (λ (d : ℕ). 2 ≤ d) pair.same pair.low in
    let onto : IsOnto a j u (facet_at t.entries p) = entry_onto a t pair.same low_t pair.kept_too p.0 lp p.1 j u (facet_at t.entries p) lf placed refl in
    let there = image_there a pair.kept j u (facet_at t.entries p) onto in
    let at = get_or_default (facets (entry_at a.entries j)) there.0 [] (image a pair.kept j u (facet_at t.entries p) onto) there.1 ∙ there.2 in
    (there.0, is_image a pair.kept j u (facet_at t.entries p) onto there.0 there.1 at)

pub facets_have_one_image : FacetsHaveOneImage
facets_have_one_image t a p q r pair lp h g = one_image a t pair.low pair.kept pair.kept_too (subst (λ (d : ℕ). 2 ≤ d) pair.same pair.low) pair.same p lp q r h g

pub crossings_go_to_images : CrossingsGoToImages
crossings_go_to_images t a p q b c pair h x y = carried_over a t pair.low pair.kept pair.kept_too pair.same p q h b c x y
