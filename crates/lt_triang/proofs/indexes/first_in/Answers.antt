use Rattle.std.proofs.Common.{ℕ, [], get_or}
use borrow.Author.Count.{below_more}
use Rattle.lt_triang.specs.Across.{IsNotFacing}
use Rattle.lt_triang.proofs.indexes.first_in.Goals as goal

pub loop-q-preserved : goal.loop-q-preserved
loop-q-preserved c =
    let t = c.args.classes.now in
    let fs = c.args.facets.now in
    below_more (λ (q : ℕ). IsNotFacing c.args.d (get_or t c.args.n []) c.args.i (get_or t (get_or fs q (0, 0)).0 []) (get_or fs q (0, 0)).1) c.loop-q.q c.loop-q.invariant (rw c.in_default.is at c.in_ok-wall.ensures)
