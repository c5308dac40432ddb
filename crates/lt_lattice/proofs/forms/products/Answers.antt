use Rattle.std.proofs.Common.{arith, ◌≡◌, pos, get_or, ◌*ℤ◌, ◌++◌, ◌∷◌, []}
use Rattle.lt_lattice.proofs.Products.{row_room, row_more, cast_product}
use Rattle.lt_lattice.proofs.forms.products.Goals as goal

pub push-requires : goal.push-requires
push-requires c = (omega arith, row_room c.args.x.now c.loop-j.all.items _ c.loop-j.j _ c.requires.few c.loop-j-test.true c.loop-j.invariant)

pub loop-j-preserved : goal.loop-j-preserved
loop-j-preserved c =
    let xi = get_or c.args.x.now c.loop-i.i (pos 0) in
    let xj = get_or c.args.x.now c.loop-j.j (pos 0) in
    let e = cast_product xi xj (c.requires.within c.loop-i.i (pos 0) c.loop-i-test.true) (c.requires.within c.loop-j.j (pos 0) c.loop-j-test.true) in
    let h : c.push.new.self.items ≡ c.loop-j.all.items ++ (xi *ℤ xj) ∷ [] = rw e at c.push.ensures.items in
    let k = row_more c.args.x.now c.loop-j.all.items _ c.loop-i.i c.loop-j.j _ c.loop-j-test.true c.loop-j.invariant in
    rw h k
