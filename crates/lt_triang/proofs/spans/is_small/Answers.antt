use Rattle.std.proofs.Common.{rules, arith, ◌≡◌, ℤ, pos, nat_abs, take, get_or, w32, FitsSigned}
use Rattle.std.specs.List.{All}
use Rattle.std.proofs.lemmas.Int.{to_z-of_z}
use Rattle.std.proofs.lemmas.List.{take_all}
use Rattle.std.proofs.lemmas.List.Elements.{All-more}
use Rattle.lt_lattice.specs.Ranges.{IsWithin}
use Rattle.lt_triang.proofs.spans.is_small.Goals as goal

pub loop-coord-preserved : goal.loop-coord-preserved
loop-coord-preserved c =
    let x : ℤ = get_or c.args.coords.now c.loop-coord.coord-index (pos 0) in
    let fits : FitsSigned w32 x = search rules in
    let value : c.unsigned_abs.result ≡ nat_abs x = rw (to_z-of_z w32 x fits) at c.unsigned_abs.ensures.value in
    All-more (IsWithin c.args.bound) c.args.coords.now c.loop-coord.coord-index (pos 0) c.loop-coord-test.true c.loop-coord.invariant (omega (arith, value, c.if-unsigned_abs-bound.false))

pub returns : goal.returns
returns c =
    let whole : take c.loop-coord.coord-index c.args.coords.now ≡ c.args.coords.now = take_all _ _ c.loop-coord-test.false in
    let within : All (IsWithin c.args.bound) c.args.coords.now = rw whole at c.loop-coord.invariant in
    ((λ _. within), (λ _. search rules))
