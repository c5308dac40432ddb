use Rattle.std.proofs.Common.{◌≡◌, ◌++◌, map, drop}
use Rattle.lt_model.specs.Flat.{flat}
use Rattle.lt_model.specs.Forms.{polar}
use Rattle.lt_cover.specs.Gram.{gram}
use Rattle.lt_cover.proofs.columns.products.Given as goal

abbrev pub invariant-loop-j : goal.invariant-loop-j
invariant-loop-j l = l.all.items ++ flat (map (λ w. map (λ v. polar l.q v w) (drop 1 l.class)) (drop l.j l.class)) ≡ flat (gram l.q (drop 1 l.class))
