use Rattle.std.proofs.Common.{◌≡◌, ◌≤◌, map, length}
use Rattle.std.specs.Fmt.{signed_decimal}
use Rattle.std.specs.List.{All}
use Rattle.lt_model.specs.Forms.{numbers_of_form}
use Rattle.lt_lattice.specs.Ranges.{IsWithin}
use Rattle.lt_words.specs.Grammar.{texts}
use Rattle.lt_words.specs.Parts.{HasWords}
use Rattle.lt_words.proofs.forms.form_at.Given as goal

abbrev pub invariant-loop-i : goal.invariant-loop-i
invariant-loop-i l = record {
  count : length l.numbers.items ≡ l.i;
  few : l.i ≤ l.i-end;
  all : l.i-end ≡ numbers_of_form l.d;
  within : All (IsWithin l.most) l.numbers.items;
  words : HasWords (texts l.fn.words) l.place (map signed_decimal l.numbers.items);
}
