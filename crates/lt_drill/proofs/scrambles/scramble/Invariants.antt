use Rattle.std.proofs.Common.{◌≡◌, ◌*◌}
use Rattle.lt_drill.specs.States.{after}
use Rattle.lt_drill.proofs.Standing.{Stands}
use Rattle.lt_drill.proofs.scrambles.scramble.Given as goal

abbrev pub invariant-loop-turn : goal.invariant-loop-turn
invariant-loop-turn l = record {
  stands : Stands l._turn l.d l.t l.fn.draws l.u l.scrambled;
  draws : l.draws ≡ after (3 * l._turn) l.fn.draws;
}
