use Rattle.std.proofs.Common.{◌≡◌, ℤ, List, [], length, get_or, arith, subst, ℕ}
use Rattle.lt_triang.specs.Kept.{dimension_of, IsTriangulation}
use Rattle.lt_triang.proofs.Expressed.{dimension_is}
use Rattle.lt_locate.specs.Collected.{Gathers, IsEdgeBelow, IsEdgeOfFirst}
use Rattle.lt_locate.proofs.Gathered.{first_none, first_more, are_edges}
use Rattle.lt_locate.proofs.edge_lists.edges.Goals as goal

pub loop-class-init : goal.loop-class-init
loop-class-init c = rw c.new-all.ensures.items (first_none c.args.t.now [])

pub loop-class-preserved : goal.loop-class-preserved
loop-class-preserved c =
    let t = c.args.t.now in
    let s = get_or t c.loop-class.class [] in
    let h : Gathers (IsEdgeBelow s (length s)) c.loop-class.all.items c.push_edges_of.new.all.items = subst (λ (r : List (List ℤ)). Gathers (IsEdgeBelow r (length r)) c.loop-class.all.items c.push_edges_of.new.all.items) c.class.ensures c.in_ok-push_edges_of.ensures in
    first_more t c.loop-class.class [] c.loop-class.all.items c.push_edges_of.new.all.items c.loop-class.invariant h

pub returns : goal.returns
returns c =
    let t = c.args.t.now in
    let k = c.dimension-dimension.ensures in
    let e = dimension_is c.dimension-dimension.result t k in
    let at : IsTriangulation (dimension_of t) t = subst (λ (n : ℕ). IsTriangulation n t) e k in
    let end : c.loop-class.class ≡ length t = omega (arith, c.loop-class-test.false, c.len-class-end.ensures) in
    let all : Gathers (IsEdgeOfFirst t (length t)) [] c.loop-class.all.items = subst (λ (n : ℕ). Gathers (IsEdgeOfFirst t n) [] c.loop-class.all.items) end c.loop-class.invariant in
    are_edges (dimension_of t) t at c.loop-class.all.items c.sorted_distinct.result.items all c.sorted_distinct.ensures.ascending c.sorted_distinct.ensures.members
