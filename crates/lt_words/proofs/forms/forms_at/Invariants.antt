use Rattle.std.proofs.Common.{◌≡◌, ◌≤◌, map, length}
use Rattle.std.specs.Fmt.{signed_decimal}
use Rattle.std.specs.List.{All, flat_map}
use Rattle.lt_model.specs.Forms.{numbers_of_form}
use Rattle.lt_lattice.specs.Ranges.{IsWithin}
use Rattle.lt_words.specs.Grammar.{texts, most_in_section}
use Rattle.lt_words.specs.Parts.{HasWords}
use Rattle.lt_words.proofs.forms.forms_at.Given as goal

abbrev pub invariant-loop-i : goal.invariant-loop-i
invariant-loop-i l = record {
  count : length l.forms.items ≡ l.i;
  few : l.i ≤ l.count;
  each : l.each ≡ numbers_of_form l.d;
  numbers : All (λ q. length q ≡ numbers_of_form l.d) l.forms.items;
  within : All (All (IsWithin most_in_section)) l.forms.items;
  words : HasWords (texts l.fn.words) l.place (map signed_decimal (flat_map (λ q. q) l.forms.items));
}
