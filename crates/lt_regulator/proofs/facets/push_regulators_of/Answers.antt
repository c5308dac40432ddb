use Rattle.std.proofs.Common.{arith, ◌≡◌, ◌<◌, ◌-◌, suc, ℕ, get_or, [], length, subst}
use Rattle.lt_triang.specs.Across.{IsFirstAcross}
use Rattle.lt_triang.specs.Kept.{dimension_of}
use Rattle.lt_triang.proofs.Expressed.{dimension_is, member_dimension}
use Rattle.lt_regulator.proofs.Listed.{listed_more, listed_before, listed_whole}
use Rattle.lt_regulator.proofs.facets.push_regulators_of.Goals.{then-neighbour-class+in_ok-push, else-neighbour-class}
use Rattle.lt_regulator.proofs.facets.push_regulators_of.Goals as goal

less_one : (d e n : ℕ) → n ≡ suc d → d ≡ e → n - 1 ≡ e
less_one d e n a b = omega arith

pub loop-facet-preserved : goal.loop-facet-preserved
loop-facet-preserved c =
    let t = c.args.t.now in
    let m = c.args.class in
    let i = c.loop-facet.facet in
    let all = c.loop-facet.all.items in
    let e = dimension_is c.dimension.result t c.dimension.ensures in
    let p : i < suc (dimension_of t) = omega (arith, e, c.loop-facet-test.true, c.from-facet-end.ensures) in
    elim c.if-neighbour-class.branch [
      | then-neighbour-class+in_ok-push w ↦ rw (w.all-is, w.in_ok-push.ensures.items) (listed_more t m i all w.regulator.result c.loop-facet.invariant c.requires.class p w.regulator.ensures)
      | else-neighbour-class w ↦
          let n = c.neighbour.result in
          let same = less_one c.dimension.result (dimension_of t) (length (get_or t m [])) (member_dimension c.dimension.result t m c.dimension.ensures c.requires.class) e in
          let f : IsFirstAcross (dimension_of t) t (get_or t m []) i n.class n.shift n.vertex = subst (λ (k : ℕ). IsFirstAcross k t (get_or t m []) i n.class n.shift n.vertex) same c.neighbour.ensures in
          rw w.all-is (listed_before c.requires.delaunay.0 t m i n.class n.shift n.vertex all c.requires.delaunay.1 c.loop-facet.invariant c.requires.class p (omega (arith, w.if-neighbour-class.false)) f)
    ]

pub returns : goal.returns
returns c =
    let e = dimension_is c.dimension.result c.args.t.now c.dimension.ensures in
    listed_whole c.args.t.now c.args.class c.loop-facet.facet c.loop-facet.all.items c.loop-facet.invariant (omega (arith, e, c.loop-facet-test.false, c.from-facet-end.ensures))
