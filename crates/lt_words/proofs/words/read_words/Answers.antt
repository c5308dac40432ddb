use Rattle.std.proofs.Common.{◌≡◌, ◌∙◌, ◌<◌, arith, length, rules}
use Rattle.std.proofs.lemmas.List.{length-map}
use Rattle.lt_words.specs.Grammar.{texts}
use Rattle.lt_words.proofs.Tails.{no_word, other_kind, word_here, first_is}
use Rattle.lt_words.proofs.words.read_words.Goals as goal

pub returns-then-is_empty-clause-fault : goal.returns-then-is_empty-clause-fault
returns-then-is_empty-clause-fault c =
    let n : length c.args.words.now ≡ 0 = search rules in
    no_word (texts c.args.words.now) (omega (arith, n, length-map c.args.words.now (λ w. w.now)))

pub returns-in-None-clause-fault : goal.returns-in-None-clause-fault
returns-in-None-clause-fault c =
    let some : 0 < length c.args.words.now = search rules in
    other_kind (texts c.args.words.now) (omega (arith, some, length-map c.args.words.now (λ w. w.now))) (λ k e. c.in-None.ensures.none k (word_here c.args.words.now 0 _ some ∙ e))

pub read_command-requires : goal.read_command-requires
read_command-requires c =
    let some : 0 < length c.args.words.now = search rules in
    first_is c.args.words.now _ _ some c.in-Some.ensures.found
