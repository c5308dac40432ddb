use Rattle.std.proofs.Common.{arith, ◌≡◌, pos, get_or, ◌+ℤ◌, ◌*ℤ◌, ◌++◌, ◌∷◌, [], refl}
use Rattle.lt_merge.proofs.Numbers.{row_begins, row_more, row_room, more_room, product_fits, cast_product, sum_fits, cast_sum}
use Rattle.lt_merge.proofs.images.product_numbers.Goals as goal

pub overflow_mul-r : goal.overflow_mul-r
overflow_mul-r c =
    let x = get_or c.args.r.now c.loop-i.i (pos 0) in
    let y = get_or c.args.s.now c.loop-i.i (pos 0) in
    product_fits x y (c.requires.below c.loop-i.i (pos 0) (omega arith)) (c.requires.below_too c.loop-i.i (pos 0) (omega arith))

pub push-requires : goal.push-requires
push-requires c = (omega arith, row_room c.args.r.now c.args.s.now c.loop-i.all.items _ c.requires.few c.requires.same c.loop-i.invariant c.loop-i.i c.loop-i-test.true refl)

pub loop-j-init : goal.loop-j-init
loop-j-init c =
    let x = get_or c.args.r.now c.loop-i.i (pos 0) in
    let y = get_or c.args.s.now c.loop-i.i (pos 0) in
    let e = cast_product x y (c.requires.below c.loop-i.i (pos 0) (omega arith)) (c.requires.below_too c.loop-i.i (pos 0) (omega arith)) in
    let h : c.push.new.self.items ≡ c.loop-i.all.items ++ (x *ℤ y) ∷ [] = rw e at c.push.ensures.items in
    let k = row_begins c.args.r.now c.args.s.now c.loop-i.all.items _ c.loop-i.i (omega arith) (omega arith) c.loop-i.invariant in
    rw h k

pub overflow_mul-r-in-loop-j : goal.overflow_mul-r-in-loop-j
overflow_mul-r-in-loop-j c =
    let x = get_or c.args.r.now c.loop-i.i (pos 0) in
    let w = get_or c.args.s.now c.loop-j.j (pos 0) in
    product_fits x w (c.requires.below c.loop-i.i (pos 0) (omega arith)) (c.requires.below_too c.loop-j.j (pos 0) (omega arith))

pub overflow_mul-s : goal.overflow_mul-s
overflow_mul-s c =
    let y = get_or c.args.s.now c.loop-i.i (pos 0) in
    let z = get_or c.args.r.now c.loop-j.j (pos 0) in
    product_fits y z (c.requires.below_too c.loop-i.i (pos 0) (omega arith)) (c.requires.below c.loop-j.j (pos 0) (omega arith))

pub overflow_add-r : goal.overflow_add-r
overflow_add-r c =
    let x = get_or c.args.r.now c.loop-i.i (pos 0) in
    let y = get_or c.args.s.now c.loop-i.i (pos 0) in
    let z = get_or c.args.r.now c.loop-j.j (pos 0) in
    let w = get_or c.args.s.now c.loop-j.j (pos 0) in
    sum_fits x w y z (c.requires.below c.loop-i.i (pos 0) (omega arith)) (c.requires.below_too c.loop-j.j (pos 0) (omega arith)) (c.requires.below_too c.loop-i.i (pos 0) (omega arith)) (c.requires.below c.loop-j.j (pos 0) (omega arith))

pub push-requires-in-loop-j : goal.push-requires-in-loop-j
push-requires-in-loop-j c =
    (omega arith, more_room c.args.r.now c.args.s.now c.loop-j.all.items _ c.requires.few c.requires.same c.loop-j.invariant _ _ _ c.loop-j.j (omega arith) refl)

pub loop-j-preserved : goal.loop-j-preserved
loop-j-preserved c =
    let x = get_or c.args.r.now c.loop-i.i (pos 0) in
    let y = get_or c.args.s.now c.loop-i.i (pos 0) in
    let z = get_or c.args.r.now c.loop-j.j (pos 0) in
    let w = get_or c.args.s.now c.loop-j.j (pos 0) in
    let e = cast_sum x w y z (c.requires.below c.loop-i.i (pos 0) (omega arith)) (c.requires.below_too c.loop-j.j (pos 0) (omega arith)) (c.requires.below_too c.loop-i.i (pos 0) (omega arith)) (c.requires.below c.loop-j.j (pos 0) (omega arith)) in
    let h : c.push-in-loop-j.new.self.items ≡ c.loop-j.all.items ++ (x *ℤ w +ℤ y *ℤ z) ∷ [] = rw e at c.push-in-loop-j.ensures.items in
    let k = row_more c.args.r.now c.args.s.now c.loop-j.all.items _ _ x y c.loop-j.j (omega arith) (omega arith) c.loop-j.invariant in
    rw h k
