use Rattle.std.proofs.Common.{◌≡◌, ◌++◌, map, drop, get_or, []}
use Rattle.lt_model.specs.Forms.{polar}
use Rattle.lt_cover.proofs.columns.push_column.Given as goal

abbrev pub invariant-loop-i : goal.invariant-loop-i
invariant-loop-i l = l.all.items ++ map (λ v. polar l.q v (get_or l.class l.j [])) (drop l.i l.class) ≡ l.initial.all.items ++ map (λ v. polar l.q v (get_or l.class l.j [])) (drop 1 l.class)
