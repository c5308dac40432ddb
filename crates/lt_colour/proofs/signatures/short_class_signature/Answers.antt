use Rattle.std.proofs.Common.{◌≡◌, ◌∙◌, ap, length, drop}
use Rattle.std.proofs.lemmas.List.{take_at}
use Rattle.std.proofs.lemmas.List.Sorted.{length_permutation}
use Rattle.std.specs.List.Sorted.{IsPermutation}
use Rattle.lt_model.specs.Flat.{flat}
use Rattle.lt_colour.proofs.signatures.short_class_signature.Goals as goal

pub returns : goal.returns
returns c =
    let old = c.short_signatures-pairs.result.items in
    let new = c.sort.new.pairs in
    let p : IsPermutation old new = rw c.as_mut_slice.ensures.value at c.sort.ensures.permutation in
    let e : c.as_slice.result.now ≡ new = c.as_slice.ensures.value ∙ take_at new (drop (length new) old) (length old) (length_permutation old new p) in
    record {
      pairs = old;
      signatures = c.short_signatures-pairs.ensures;
      ascending = new;
      in_order = record { permutation = p; ascending = c.sort.ensures.ascending };
      is = c.joined.ensures ∙ ap flat e;
    }
