use Rattle.std.proofs.Common.{arith, ◌≡◌, ◌≤◌, ◌^◌, pos, ℤ, get_or, ◌-ℤ◌, ◌++◌, ◌∷◌, [], ◌∙◌, nat_abs}
use Rattle.std.proofs.lemmas.Int.{ints, to_z-of_z}
use mir.Val.{SFits}
use mir.Syntax.{w64}
use Rattle.lt_lattice.proofs.Coordinates.{difference_step, cast_difference}
use Rattle.lt_triang.proofs.vertices.push_differences.Goals as goal

fits64 : (x y : ℤ) → nat_abs x ≤ 2 ^ 20 → nat_abs y ≤ 2 ^ 20 → SFits w64 (x -ℤ y)
fits64 x y hx hy = omega (arith, ints)

pub loop-k-preserved : goal.loop-k-preserved
loop-k-preserved c =
    let x = get_or c.args.a.now c.loop-k.k (pos 0) in
    let y = get_or c.args.b.now c.loop-k.k (pos 0) in
    let hx = c.requires.left c.loop-k.k (pos 0) (omega arith) in
    let hy = c.requires.right c.loop-k.k (pos 0) (omega arith) in
    let e : c.from.result ≡ x -ℤ y = c.from.ensures ∙ cast_difference x y hx hy in
    let h : c.push.new.self.items ≡ c.loop-k.all.items ++ (x -ℤ y) ∷ [] = rw (e, to_z-of_z w64 (x -ℤ y) (fits64 x y hx hy)) at c.push.ensures.items in
    record {
      so_far = rw h (difference_step c.args.a.now c.args.b.now c.loop-k.all.items _ c.loop-k.k (omega arith) (omega arith) c.loop-k.invariant.so_far);
      count = omega (arith, c.push.ensures.len, c.loop-k.invariant.count);
    }
