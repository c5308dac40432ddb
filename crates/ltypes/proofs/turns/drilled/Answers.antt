use Rattle.std.proofs.Common.{◌≡◌, ℕ, ◌+◌, arith, sym, ◌∙◌, subst, inl, inr}
use Rattle.lt_words.proofs.Ranges.{few_turns}
use Rattle.ltypes.specs.Drills.{open_positions}
use Rattle.ltypes.proofs.Openings.{none_undecided}
use Rattle.ltypes.proofs.Turned.{IsDrilledTo, no_turn, next_turn, is_drilled}
use Rattle.ltypes.proofs.turns.drilled.Goals as goal

pub loop-turn-init : goal.loop-turn-init
loop-turn-init c = record { start = (c.in-Ok.atlas, c.in-Ok.ensures, no_turn c.args.d c.args.draws.now c.in-Ok.atlas c.in-Ok.ensures); within = omega arith }

pub take_turn-requires-clause-few : goal.take_turn-requires-clause-few
take_turn-requires-clause-few c =
    let few = c.loop-turn.invariant.start.2.few in
    let turns = c.requires.turns in
    omega (arith, few, c.loop-turn-test.true, turns, few_turns c.args.d)

pub loop-turn-preserved : goal.loop-turn-preserved
loop-turn-preserved c =
    let (s, start, h) = c.loop-turn.invariant.start in
    let next = next_turn s c.args.draws.now c.loop-turn.draws c.loop-turn._turn c.loop-turn.atlas c.take_turn.new.atlas h c.in_ok-take_turn.ensures.turn in
    record {
      start = (s, start, subst (λ (x : ℕ). IsDrilledTo s c.args.draws.now x (c.loop-turn._turn + 1) c.take_turn.new.atlas) (sym c.take_turn.ensures.draws) next);
      within = omega (arith, c.loop-turn-test.true);
    }

pub returns-then-count-eq0-clause-drilled : goal.returns-then-count-eq0-clause-drilled
returns-then-count-eq0-clause-drilled c =
    let (s, start, h) = c.loop-turn.invariant.start in
    let a = c.loop-turn.atlas in
    let none : open_positions a ≡ 0 = sym c.count_open-count.ensures ∙ c.if-count-eq0.true in
    is_drilled c.args.d c.args.draws.now c.args.turns c.loop-turn.draws c.loop-turn._turn s a start h c.keeps.ensures.kept (inr (c.loop-turn-test.true, none_undecided a c.keeps.ensures.kept none))

pub returns-then-count-eq0-clause-few : goal.returns-then-count-eq0-clause-few
returns-then-count-eq0-clause-few c = let few = c.loop-turn.invariant.start.2.few in omega (arith, few, c.loop-turn-test.true)

pub returns-clause-drilled : goal.returns-clause-drilled
returns-clause-drilled c =
    let (s, start, h) = c.loop-turn.invariant.start in
    let within = c.loop-turn.invariant.within in
    let all : c.loop-turn._turn ≡ c.args.turns = omega (arith, within, c.loop-turn-test.false) in
    is_drilled c.args.d c.args.draws.now c.args.turns c.loop-turn.draws c.loop-turn._turn s c.loop-turn.atlas start h c.keeps-2.ensures.kept (inl all)

pub returns-clause-few : goal.returns-clause-few
returns-clause-few c =
    let few = c.loop-turn.invariant.start.2.few in
    let within = c.loop-turn.invariant.within in
    omega (arith, few, within)
