use Rattle.std.proofs.Common.{arith, ◌≡◌, refl, sym, ◌∙◌}
use Rattle.std.proofs.lemmas.Bool.{false≢true}
use Rattle.lt_triang.proofs.Parallel.{first_alike, facet_point, parallel_facets, parallel_points}
use Rattle.lt_triang.proofs.neighbours.are_parallel.Goals as goal

pub loop-k-init : goal.loop-k-init
loop-k-init c = λ m p.
    let first : m ≡ 0 = omega (arith, p) in
    rw first (first_alike c.args.d c.args.s.now c.args.i c.args.next.now c.args.j c.requires.facet c.requires.facet_too)

pub same_differences-requires-clause-same : goal.same_differences-requires-clause-same
same_differences-requires-clause-same c =
    let d = c.args.d in
    let h = c.requires.facet in
    rw (c.coords-to.ensures.value, c.coords-mine.ensures.value, c.facet_vertex.ensures, c.facet_vertex-in-loop-k.ensures)
    (facet_point d c.args.s.now c.args.i 0 h (omega (arith, h.low)) ∙ sym (facet_point d c.args.s.now c.args.i c.loop-k.k h c.loop-k-test.true))

pub same_differences-requires-clause-same_too : goal.same_differences-requires-clause-same_too
same_differences-requires-clause-same_too c =
    let d = c.args.d in
    rw (c.coords-theirs.ensures.value, c.coords-mine.ensures.value, c.facet_vertex-in-loop-k-2.ensures, c.facet_vertex-in-loop-k.ensures)
    (facet_point d c.args.next.now c.args.j c.loop-k.k c.requires.facet_too c.loop-k-test.true ∙ sym (facet_point d c.args.s.now c.args.i c.loop-k.k c.requires.facet c.loop-k-test.true))

pub same_differences-requires-clause-same_three : goal.same_differences-requires-clause-same_three
same_differences-requires-clause-same_three c =
    let d = c.args.d in
    let h = c.requires.facet_too in
    rw (c.coords-start.ensures.value, c.coords-mine.ensures.value, c.facet_vertex-2.ensures, c.facet_vertex-in-loop-k.ensures)
    (facet_point d c.args.next.now c.args.j 0 h (omega (arith, h.low)) ∙ sym (facet_point d c.args.s.now c.args.i c.loop-k.k c.requires.facet c.loop-k-test.true))

pub returns-then-not-same_differences : goal.returns-then-not-same_differences
returns-then-not-same_differences c =
    let told = rw (
      c.coords-mine.ensures.value,
      c.coords-to.ensures.value,
      c.coords-theirs.ensures.value,
      c.coords-start.ensures.value,
      c.facet_vertex.ensures,
      c.facet_vertex-2.ensures,
      c.facet_vertex-in-loop-k.ensures,
      c.facet_vertex-in-loop-k-2.ensures,
    ) at c.same_differences.ensures in (
      (λ t. absurd (false≢true t)),
      (λ e.
          let here = parallel_points c.args.d c.args.s.now c.args.i c.args.next.now c.args.j c.requires.facet c.requires.facet_too e c.loop-k.k c.loop-k-test.true in
          absurd (false≢true (sym c.if-not-same_differences.true ∙ told.1 here))),
    )

pub returns : goal.returns
returns c =
    ((λ _. parallel_facets c.args.d c.args.s.now c.args.i c.args.next.now c.args.j c.requires.facet c.requires.facet_too (λ m p. c.loop-k.invariant m (omega (arith, p, c.loop-k-test.false)))), (λ _. refl))
