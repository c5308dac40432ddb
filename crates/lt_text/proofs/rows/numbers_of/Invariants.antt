use Rattle.std.proofs.Common.{◌≡◌, ◌*◌, take, length}
use Rattle.lt_text.specs.Texts.{term_numbers}
use Rattle.lt_text.proofs.rows.numbers_of.Given as goal

abbrev pub invariant-loop-term : goal.invariant-loop-term
invariant-loop-term l = record {
  so_far : l.numbers.items ≡ term_numbers (take l.term-index l.terms.items);
  len : length l.numbers.items ≡ 2 * l.term-index;
}
