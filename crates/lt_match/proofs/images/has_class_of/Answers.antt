use Rattle.std.proofs.Common.{arith, ◌≡◌, ◌∙◌, sym, subst, List, ℤ, length, ap}
use Rattle.std.specs.List.{Contains}
use Rattle.std.specs.List.Sorted.{IsPermutation, IsSorted}
use Rattle.std.proofs.lemmas.Bool.{false≢true}
use Rattle.std.proofs.lemmas.List.Sorted.{length_permutation}
use Rattle.lt_model.specs.Order.{number_list_cmp}
use Rattle.lt_triang.proofs.Least.{all_permuted}
use Rattle.lt_match.specs.Images.{HasClassOf}
use Rattle.lt_match.proofs.Placed.{moved_to_origin, class_from_found, found_from_class, found_within}
use Rattle.lt_match.proofs.images.has_class_of.Goals as goal

pub moved_back-requires-clause-count : goal.moved_back-requires-clause-count
moved_back-requires-clause-count c =
    let h : IsPermutation c.args.points.items c.sorted-ascending.result.items = c.sorted-ascending.ensures.permutation in
    ap length c.as_slice.ensures.value ∙ omega (arith, length_permutation c.args.points.items c.sorted-ascending.result.items h, c.requires.count)

pub moved_back-requires-clause-dimension : goal.moved_back-requires-clause-dimension
moved_back-requires-clause-dimension c =
    rw c.as_slice.ensures.value (all_permuted c.args.d c.args.points.items c.sorted-ascending.result.items c.sorted-ascending.ensures.permutation c.requires.dimension)

pub returns-in-Some : goal.returns-in-Some
returns-in-Some c =
    let d = c.args.d in
    let t = c.args.t.now in
    let points = c.args.points.items in
    let sorted = c.sorted-ascending.result.items in
    let perm : IsPermutation points sorted = c.sorted-ascending.ensures.permutation in
    let up : IsSorted number_list_cmp sorted = c.sorted-ascending.ensures.sorted in
    let is : c.as_slice-in-Some.result.now ≡ moved_to_origin sorted = c.as_slice-in-Some.ensures.value ∙ c.in-Some.ensures.value ∙ ap moved_to_origin c.as_slice.ensures.value in
    let told = rw is at c.is_member.ensures in
    let there : Contains t (moved_to_origin sorted) → HasClassOf d points t = λ m. (moved_to_origin sorted, m, class_from_found d points sorted c.requires.count c.requires.dimension perm (c.requires.target.classes (moved_to_origin sorted) m)) in
    let back : HasClassOf d points t → Contains t (moved_to_origin sorted) = λ (s, m, k). subst (λ (z : List (List ℤ)). Contains t z) (sym (found_from_class d points sorted s c.requires.count c.requires.dimension perm up k)) m in
    ((λ e. there (told.0 e)), (λ h. told.1 (back h)))

pub returns-in-None : goal.returns-in-None
returns-in-None c =
    let sorted = c.sorted-ascending.result.items in
    let told = rw c.as_slice.ensures.value at c.in-None.ensures.within in (
      λ e. absurd (false≢true e),
      λ h. told.1 (found_within c.args.d c.args.t.now c.args.points.items sorted c.requires.target c.requires.count c.requires.dimension c.sorted-ascending.ensures.permutation c.sorted-ascending.ensures.sorted h),
    )
