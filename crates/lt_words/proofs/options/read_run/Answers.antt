use Rattle.std.proofs.Common.{◌+◌, [], take, get_or, sym, ap, subst, ◌∙◌, arith}
use Rattle.lt_words.specs.Grammar.{texts, FaultAt}
use Rattle.lt_words.specs.Rests.{HasRead, StopsAt, GoesTo}
use Rattle.lt_words.proofs.Walks.{read_more, fault_here, end_fault, end_spelt, tail_word, tail_place, tail_end, some_word}
use Rattle.lt_words.proofs.options.read_run.Goals as goal

pub returns-in-None-clause-fault : goal.returns-in-None-clause-fault
returns-in-None-clause-fault c =
    let ws = texts c.args.words.now in
    let i = c.loop-word.word-index in
    let lt = tail_place c.args.words.now i c.loop-word-test.true in
    let here : StopsAt c.loop-word.options (get_or ws (i + 1) []) = subst (StopsAt c.loop-word.options) (tail_word c.args.words.now i _ c.loop-word-test.true) c.in-None.ensures.stops in
    subst (FaultAt ws) (sym c.loop-word.invariant.place)
    (fault_here ws (i + 1) c.loop-word.options lt (subst (λ p. HasRead (take p ws) c.loop-word.options) c.loop-word.invariant.place c.loop-word.invariant.read) c.loop-word.invariant.sound here)

pub loop-word-preserved : goal.loop-word-preserved
loop-word-preserved c =
    let ws = texts c.args.words.now in
    let i = c.loop-word.word-index in
    let lt = tail_place c.args.words.now i c.loop-word-test.true in
    let next = c.in-Some.next in
    let goes : GoesTo c.loop-word.options (get_or ws (i + 1) []) next = subst (λ w. GoesTo c.loop-word.options w next) (tail_word c.args.words.now i _ c.loop-word-test.true) c.in-Some.ensures.goes in
    let read = read_more ws (i + 1) c.loop-word.options next lt (subst (λ p. HasRead (take p ws) c.loop-word.options) c.loop-word.invariant.place c.loop-word.invariant.read) goes in
    record {
      place = ap (λ p. p + 1) c.loop-word.invariant.place;
      room = omega (arith, c.in-Some.ensures.words, c.loop-word.invariant.room);
      sound = c.in-Some.ensures.sound;
      read = subst (λ p. HasRead (take p ws) next) (ap (λ p. p + 1) (sym c.loop-word.invariant.place)) read;
    }

pub returns-clause-command : goal.returns-clause-command
returns-clause-command c =
    let ws = texts c.args.words.now in
    let len = c.loop-word.invariant.place ∙ tail_end c.args.words.now c.loop-word.word-index (some_word c.args.words.now _ c.requires) c.loop-word.auto.word-index-end c.loop-word-test.false in
    rw c.ok_or.ensures.value (end_spelt ws c.loop-word.options c.command.result c.loop-word.place c.loop-word.invariant.read len c.command.ensures.range c.command.ensures.whole)

pub returns-clause-fault : goal.returns-clause-fault
returns-clause-fault c =
    let ws = texts c.args.words.now in
    let len = c.loop-word.invariant.place ∙ tail_end c.args.words.now c.loop-word.word-index (some_word c.args.words.now _ c.requires) c.loop-word.auto.word-index-end c.loop-word-test.false in
    rw c.ok_or.ensures.value (end_fault ws c.loop-word.options c.command.result c.loop-word.place c.loop-word.invariant.read len c.loop-word.invariant.sound c.command.ensures.missing)
