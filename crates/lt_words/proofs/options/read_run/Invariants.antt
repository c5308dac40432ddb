use Rattle.std.proofs.Common.{◌≡◌, ◌+◌, ◌≤◌, take}
use Rattle.lt_words.specs.Grammar.{texts}
use Rattle.lt_words.specs.Rests.{IsSound, HasRead, words_read}
use Rattle.lt_words.proofs.options.read_run.Given as goal

abbrev pub invariant-loop-word : goal.invariant-loop-word
invariant-loop-word l = record {
  place : l.place ≡ l.word-index + 1;
  room : l.place ≤ words_read l.options + 1;
  sound : IsSound l.options;
  read : HasRead (take l.place (texts l.fn.words)) l.options;
}
