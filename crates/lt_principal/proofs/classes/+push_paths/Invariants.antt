use Rattle.std.proofs.Common.{◌≡◌, ◌++◌, ◌-◌}
use Rattle.lt_principal.specs.Paths.{points_of, last_point, ways, ways_below, before_each}
use Rattle.lt_principal.proofs.classes.«+push_paths».Given as goal

abbrev pub invariant-loop-j : goal.invariant-loop-j
invariant-loop-j l =
    points_of l.out.items ++ before_each l.path (ways_below l.d (ways l.d (l.steps - 1)) l.last (l.d - l.j)) ≡ points_of l.initial.out.items ++ before_each l.path (ways l.d l.steps (last_point l.path))

abbrev pub decreases-push_paths : goal.decreases-push_paths
decreases-push_paths l = l.steps
