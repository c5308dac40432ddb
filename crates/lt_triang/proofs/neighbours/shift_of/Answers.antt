use Rattle.std.proofs.Common.{arith, ◌≡◌, ◌+◌, ◌^◌, get_or, sym, ◌∙◌, List, [], ℤ, length}
use Rattle.std.specs.List.{All}
use Rattle.std.proofs.lemmas.Bool.{false≢true}
use Rattle.lt_lattice.specs.Ranges.{IsWithin}
use Rattle.lt_model.specs.Vectors.{minus}
use Rattle.lt_model.specs.Facets.{without}
use Rattle.lt_model.specs.Limits.{span_limit}
use Rattle.lt_model.proofs.Dependent.{all_without}
use Rattle.lt_triang.proofs.Gaps.{twice_limit}
use Rattle.lt_triang.proofs.Shifts.{within_minus, within_more, get_within}
use Rattle.lt_triang.proofs.Parallel.{facet_point, length-facet}
use Rattle.lt_triang.proofs.neighbours.shift_of.Goals as goal

pub minus-requires : goal.minus-requires
minus-requires c =
    let low = c.requires.facet.low in
    rw (c.facet_vertex.ensures, c.facet_vertex-2.ensures)
    (facet_point c.args.d c.args.s.now c.args.i 0 c.requires.facet (omega (arith, low)) ∙ sym (facet_point c.args.d c.args.next.now c.args.j 0 c.requires.facet_too (omega (arith, low))))

pub unreachable-requires : goal.unreachable-requires
unreachable-requires c =
    let d = c.args.d in
    let low = c.requires.facet.low in
    let a : List ℤ = get_or (without c.args.i c.args.s.now) 0 [] in
    let b : List ℤ = get_or (without c.args.j c.args.next.now) 0 [] in
    let l : length a ≡ length b = facet_point d c.args.s.now c.args.i 0 c.requires.facet (omega (arith, low)) ∙ sym (facet_point d c.args.next.now c.args.j 0 c.requires.facet_too (omega (arith, low))) in
    let wa = get_within (span_limit d) 0 (without c.args.i c.args.s.now) [] (all_without (All (IsWithin (span_limit d))) c.args.i c.args.s.now c.requires.near) (omega (arith, length-facet d c.args.s.now c.args.i c.requires.facet, low)) in
    let wb = get_within (span_limit d) 0 (without c.args.j c.args.next.now) [] (all_without (All (IsWithin (span_limit d))) c.args.j c.args.next.now c.requires.near_too) (omega (arith, length-facet d c.args.next.now c.args.j c.requires.facet_too, low)) in
    let h : All (IsWithin (span_limit d + span_limit d)) (minus a b) = within_minus (span_limit d) (span_limit d) a b l wa wb in
    let k : All (IsWithin (2 ^ 20)) (minus a b) = within_more (span_limit d + span_limit d) (2 ^ 20) (minus a b) (omega (arith, twice_limit d)) h in
    false≢true (c.in-None.ensures.within.1 (rw (c.facet_vertex.ensures, c.facet_vertex-2.ensures) k))
