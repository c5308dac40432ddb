use Rattle.std.proofs.Common.{◌<◌, arith, length}
use Rattle.lt_triang.specs.Kept.{dimension_of}
use Rattle.lt_cover.proofs.Best.{first_best, better, worse, covered, not_less}
use Rattle.lt_cover.proofs.covers.greatest.Goals.{in-Less, in_default}
use Rattle.lt_cover.proofs.covers.greatest.Goals as goal

pub loop-class-init : goal.loop-class-init
loop-class-init c = record {
  best = first_best (dimension_of c.args.t.now) c.args.q.now c.args.t.now c.requires.delaunay c.radius_at.result c.radius_at.ensures.radius;
  lowest = c.radius_at.ensures.lowest;
}

pub loop-class-preserved : goal.loop-class-preserved
loop-class-preserved c =
    let t = c.args.t.now in
    let q = c.args.q.now in
    let l : c.loop-class.class < length t = omega (arith, c.loop-class-test.true, c.len-class-end.ensures) in
    elim c.match-cmp.branch [
      | in-Less w ↦ rw w.best-is (record { best = better (dimension_of t) q t c.requires.delaunay c.loop-class.class c.loop-class.best.radius c.radius_at-radius.result c.loop-class.best.class l c.loop-class.invariant.best c.radius_at-radius.ensures.radius w.in-Less.ensures; lowest = c.radius_at-radius.ensures.lowest })
      | in_default w ↦ rw w.best-is (record { best = worse (dimension_of t) q t c.requires.delaunay c.loop-class.class c.loop-class.best.radius c.radius_at-radius.result c.loop-class.best.class l c.loop-class.invariant.best c.radius_at-radius.ensures.radius (not_less c.cmp.result _ _ c.cmp.ensures w.in_default.not-Less); lowest = c.loop-class.invariant.lowest })
    ]

pub returns-clause-cover : goal.returns-clause-cover
returns-clause-cover c = covered (dimension_of c.args.t.now) c.args.q.now c.args.t.now c.requires.delaunay c.loop-class.class c.loop-class.best.radius c.loop-class.best.class (omega (arith, c.loop-class-test.false, c.loop-class.auto.class-end, c.len-class-end.ensures)) c.loop-class.invariant.best
