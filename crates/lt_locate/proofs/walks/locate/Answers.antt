use Rattle.std.proofs.Common.{◌≡◌, ◌≤◌, arith, subst, ℕ, ℤ, List}
use Rattle.std.proofs.lemmas.Result.{err_from_is_err_and}
use Rattle.lt_locate.specs.Endings.{inside}
use Rattle.lt_locate.proofs.Ends.{walks_end_inside}
use Rattle.lt_locate.proofs.OnWay.{IsOnWay, begun, gone_further, ended, refused, low_dimension}
use Rattle.lt_locate.proofs.walks.locate.Goals as goal

pub loop-crossed-init : goal.loop-crossed-init
loop-crossed-init c = begun c.dimension.result _ c.args.q.now c.args.steps c.in_ok-t.t c.dimension.ensures.value c.in_ok-t.ensures.principal c.in_ok-t.ensures.delaunay

pub returns-in_err-across-clause-refused : goal.returns-in_err-across-clause-refused
returns-in_err-across-clause-refused c =
    let p = err_from_is_err_and c.from_residual-in_err-across.result c.from_residual-in_err-across.ensures.1 in
    let same : p.0 ≡ c.in_err-across.field-0.0 = p.2 in
    rw (p.1, same) (refused c.args.q.now c.args.steps c.loop-crossed.crossed c.loop-crossed.t c.in_err-across.field-0.0 c.loop-crossed.invariant c.in_err-across.ensures.stop)

pub returns-in-None-clause-located : goal.returns-in-None-clause-located
returns-in-None-clause-located c =
    let h = rw c.in-None.is at c.in_ok-across.ensures.next in
    ended c.args.q.now c.args.steps c.loop-crossed.crossed c.loop-crossed.t inside c.loop-crossed.invariant h

pub returns-in-None-clause-delaunay : goal.returns-in-None-clause-delaunay
returns-in-None-clause-delaunay c = λ d l. (
    let h = rw c.in-None.is at c.in_ok-across.ensures.next in
    walks_end_inside d c.args.q.now c.args.steps c.loop-crossed.crossed c.loop-crossed.t (low_dimension c.args.q.now c.dimension.result d c.dimension.ensures.low c.dimension.ensures.value l) l
    (ended c.args.q.now c.args.steps c.loop-crossed.crossed c.loop-crossed.t inside c.loop-crossed.invariant h d l)
    )

pub loop-crossed-preserved : goal.loop-crossed-preserved
loop-crossed-preserved c =
    let h = rw c.in-Some.is at c.in_ok-across.ensures.next in
    gone_further c.args.q.now c.args.steps c.loop-crossed.crossed c.loop-crossed.t c.in-Some.across c.loop-crossed.invariant h

at_end : (q : List ℤ) (steps i : ℕ) (t : List (List (List ℤ))) → steps ≤ i → i ≤ steps → IsOnWay q steps i t → IsOnWay q steps steps t
at_end q steps i t h k w = let e : i ≡ steps = omega arith in subst (λ (j : ℕ). IsOnWay q steps j t) e w

pub returns-in_err-next-clause-refused : goal.returns-in_err-next-clause-refused
returns-in_err-next-clause-refused c =
    let p = err_from_is_err_and c.from_residual-in_err-next.result c.from_residual-in_err-next.ensures.1 in
    let same : p.0 ≡ c.in_err-next.field-0.0 = p.2 in
    rw (p.1, same) (refused c.args.q.now c.args.steps c.args.steps c.loop-crossed.t c.in_err-next.field-0.0 (at_end c.args.q.now c.args.steps c.loop-crossed.crossed c.loop-crossed.t c.loop-crossed-test.false c.loop-crossed.auto.crossed-end c.loop-crossed.invariant) c.in_err-next.ensures.stop)

pub returns-clause-located : goal.returns-clause-located
returns-clause-located c =
    let h = rw c.in-None-2.is at c.in_ok-next.ensures.next in
    ended c.args.q.now c.args.steps c.args.steps c.loop-crossed.t inside (at_end c.args.q.now c.args.steps c.loop-crossed.crossed c.loop-crossed.t c.loop-crossed-test.false c.loop-crossed.auto.crossed-end c.loop-crossed.invariant) h

pub returns-clause-delaunay : goal.returns-clause-delaunay
returns-clause-delaunay c = λ d l. (
    let h = rw c.in-None-2.is at c.in_ok-next.ensures.next in
    walks_end_inside d c.args.q.now c.args.steps c.args.steps c.loop-crossed.t (low_dimension c.args.q.now c.dimension.result d c.dimension.ensures.low c.dimension.ensures.value l) l
    (ended c.args.q.now c.args.steps c.args.steps c.loop-crossed.t inside (at_end c.args.q.now c.args.steps c.loop-crossed.crossed c.loop-crossed.t c.loop-crossed-test.false c.loop-crossed.auto.crossed-end c.loop-crossed.invariant) h d l)
    )
