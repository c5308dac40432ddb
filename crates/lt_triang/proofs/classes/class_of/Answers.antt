use Rattle.std.proofs.Common.{arith, ◌≡◌, ◌≤◌, ◌-◌, ◌*◌, ◌^◌, length, get_or, [], negsuc, ◌∙◌, ap}
use Rattle.std.specs.List.Sorted.{IsPermutation, IsSorted}
use Rattle.std.proofs.lemmas.List.Sorted.{length_permutation}
use Rattle.lt_model.specs.Order.{number_list_cmp}
use Rattle.lt_model.specs.Limits.{span_limit}
use Rattle.lt_model.specs.Vectors.{scale}
use Rattle.lt_model.specs.Simplices.{translate}
use Rattle.lt_triang.specs.Flat.{IsClassAt}
use Rattle.lt_triang.proofs.Gaps.{twice_limit}
use Rattle.lt_triang.proofs.Steps.{sorted_dimension, sorted_near, near_more}
use Rattle.lt_triang.proofs.Least.{class_from_sorted, near_class}
use Rattle.lt_triang.proofs.classes.class_of.Goals as goal

pub first_of-least-requires : goal.first_of-least-requires
first_of-least-requires c =
    let h : IsPermutation c.args.points.now c.sorted_copies-sorted.result.items = c.sorted_copies-sorted.ensures.permutation in
    rw c.as_slice.ensures.value (omega (arith, length_permutation c.args.points.now c.sorted_copies-sorted.result.items h))

pub moved_back-moved-requires : goal.moved_back-moved-requires
moved_back-moved-requires c =
    let ps = c.args.points.now in
    let d = length ps - 1 in
    let h : IsPermutation ps c.as_slice-2.result.now = rw (c.as_slice-2.ensures.value) c.sorted_copies-sorted.ensures.permutation in
    let e : c.first_of-least.result ≡ get_or c.as_slice-2.result.now 0 [] = cc in
    let near = near_more (2 * span_limit d) (2 ^ 20) ps (omega (arith, twice_limit d)) c.requires.near in
    let few : length c.as_slice-2.result.now ≤ 7 = omega (arith, length_permutation ps c.as_slice-2.result.now h, c.requires.high) in
    let dimension = sorted_dimension d ps c.as_slice-2.result.now c.first_of-least.result (omega arith) c.requires.dimension h e in
    (omega arith, (few, (dimension, sorted_near (2 ^ 20) ps c.as_slice-2.result.now c.first_of-least.result (omega arith) near h e)))

made : (c : goal.After-moved_back-moved) → IsClassAt (length c.args.points.now - 1) c.args.points.now c.moved_back-moved.result.items c.first_of-least.result
made c =
    let h : IsPermutation c.args.points.now c.as_slice-2.result.now = rw (c.as_slice-2.ensures.value) c.sorted_copies-sorted.ensures.permutation in
    let up : IsSorted number_list_cmp c.as_slice-2.result.now = rw (c.as_slice-2.ensures.value) c.sorted_copies-sorted.ensures.sorted in
    let e : c.first_of-least.result ≡ get_or c.as_slice-2.result.now 0 [] = cc in
    let m : c.moved_back-moved.result.items ≡ translate (scale (negsuc 0) (get_or c.as_slice-2.result.now 0 [])) c.as_slice-2.result.now =
    c.moved_back-moved.ensures ∙ ap (λ p. translate (scale (negsuc 0) p) c.as_slice-2.result.now) e in
    rw (m, e) (class_from_sorted (length c.args.points.now - 1) c.args.points.now c.as_slice-2.result.now (omega arith) c.requires.dimension c.requires.independent h up)

pub invariant_of-result : goal.invariant_of-result
invariant_of-result c =
    let d = length c.args.points.now - 1 in
    let k = made c in
    (d, omega (arith, c.requires.low), omega (arith, c.requires.high), k.«class», near_class d (2 * span_limit d) c.args.points.now c.moved_back-moved.result.items c.first_of-least.result k c.requires.near)

pub returns : goal.returns
returns c = made c
