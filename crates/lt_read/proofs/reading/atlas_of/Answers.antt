use Rattle.std.proofs.Common.{◌<◌, ℕ, length, map, subst, arith}
use Rattle.std.specs.Prelude.{IfSome, IfNone}
use Rattle.lt_core.specs.Marks.{entry_of}
use Rattle.lt_grammar.specs.Parsed.{entries_of}
use Rattle.lt_grammar.proofs.Growing.{length-entries}
use Rattle.lt_read.specs.Built.{spelt_marks, AreBuilt, AreAllRight, HasNoTwin, IsFirstWrong, IsFirstTwin}
use Rattle.lt_read.proofs.Checked.{AreAllBuilt, each, square, few_facets, refused_cross, some_form, prints, refused_twin, right_atlas, settled, read_atlas}
use Rattle.lt_read.proofs.reading.atlas_of.Goals.{In_ok-entries, In_ok-k, In-Some, In-Some-2, In_default, In_default-2}
use Rattle.lt_read.proofs.reading.atlas_of.Goals as goal

pub check_entries-requires-clause-few : goal.check_entries-requires-clause-few
check_entries-requires-clause-few c =
    let n = length-entries c.args.parsed.entries.items c.args.parsed.marks.items c.requires.paired in
    let few = c.requires.fits.1.0.1 in
    omega (arith, n, few)

built_here : (c : In_ok-entries) → AreAllBuilt c.args.version c.args.parsed c.in_ok-entries.entries.items
built_here c = record {
  fits = c.requires.fits;
  paired = c.requires.paired;
  count = c.in_ok-entries.ensures.count;
  built = subst (λ mss. AreBuilt c.args.version c.args.parsed.d (entries_of c.args.parsed.entries.items mss) (map entry_of c.in_ok-entries.entries.items)) c.deref.ensures.value c.in_ok-entries.ensures.built;
  sound = c.in_ok-entries.ensures.sound;
}

pub wrong_cross-requires-clause-sound : goal.wrong_cross-requires-clause-sound
wrong_cross-requires-clause-sound c = rw c.deref-2.ensures.value c.in_ok-entries.ensures.sound

pub wrong_cross-requires-clause-each : goal.wrong_cross-requires-clause-each
wrong_cross-requires-clause-each c =
    let h = built_here (goal.at.wrong_cross-requires-clause-each c).In_ok-entries in
    rw (c.deref-2.ensures.value, c.deref-3.ensures.value) (each c.args.version c.args.parsed c.in_ok-entries.entries.items h)

pub wrong_cross-requires-clause-square : goal.wrong_cross-requires-clause-square
wrong_cross-requires-clause-square c =
    let h = built_here (goal.at.wrong_cross-requires-clause-square c).In_ok-entries in
    rw c.deref-3.ensures.value (square c.args.version c.args.parsed c.in_ok-entries.entries.items h)

wrong_here : (c : In-Some) → IsFirstWrong c.args.parsed.d (map entry_of c.in_ok-entries.entries.items) (spelt_marks c.args.parsed.marks.items) (c.in-Some.k, c.in-Some.facet)
wrong_here c =
    let w = subst (λ r. IfSome r (IsFirstWrong c.args.parsed.d (map entry_of c.deref-2.result.now) (spelt_marks c.deref-3.result.now))) c.in-Some.is c.in_ok-k.ensures.wrong in
    rw (c.deref-2.ensures.value, c.deref-3.ensures.value) at w

pub overflow_cast-result-in-Some : goal.overflow_cast-result-in-Some
overflow_cast-result-in-Some c =
    let h = built_here (goal.at.overflow_cast-result-in-Some c).In_ok-entries in
    let few = few_facets c.args.version c.args.parsed c.in_ok-entries.entries.items h (c.in-Some.k, c.in-Some.facet) (wrong_here (goal.at.overflow_cast-result-in-Some c).In-Some) in
    omega (arith, few)

pub returns-in-Some-clause-why : goal.returns-in-Some-clause-why
returns-in-Some-clause-why c =
    let h = built_here (goal.at.returns-in-Some-clause-why c).In_ok-entries in
    refused_cross c.args.version c.args.parsed c.in_ok-entries.entries.items h c.in-Some.k c.in-Some.facet (wrong_here (goal.at.returns-in-Some-clause-why c).In-Some)

right_here : (c : In_default) → AreAllRight c.args.parsed.d (map entry_of c.in_ok-entries.entries.items) (spelt_marks c.args.parsed.marks.items)
right_here c =
    let w = subst (λ r. IfNone r (AreAllRight c.args.parsed.d (map entry_of c.deref-2.result.now) (spelt_marks c.deref-3.result.now))) c.in_default.is c.in_ok-k.ensures.none in
    rw (c.deref-2.ensures.value, c.deref-3.ensures.value) at w

pub prints_of-requires : goal.prints_of-requires
prints_of-requires c =
    let h = built_here (goal.at.prints_of-requires c).In_ok-entries in
    rw c.deref-4.ensures.value (some_form c.args.version c.args.parsed c.in_ok-entries.entries.items h)

pub first_twin-requires-clause-sound : goal.first_twin-requires-clause-sound
first_twin-requires-clause-sound c = rw c.deref-5.ensures.value c.in_ok-entries.ensures.sound

pub first_twin-requires-clause-prints : goal.first_twin-requires-clause-prints
first_twin-requires-clause-prints c =
    let h = built_here (goal.at.first_twin-requires-clause-prints c).In_ok-entries in
    let n = rw c.deref-4.ensures.value at c.in_ok-prints.ensures.count in
    let g = rw c.deref-4.ensures.value at c.in_ok-prints.ensures.each in
    rw (c.deref-5.ensures.value, c.deref-6.ensures.value) (prints c.args.version c.args.parsed c.in_ok-entries.entries.items h c.in_ok-prints.prints.items n g)

pub returns-in-Some-2-clause-why : goal.returns-in-Some-2-clause-why
returns-in-Some-2-clause-why c =
    let h = built_here (goal.at.returns-in-Some-2-clause-why c).In_ok-entries in
    let w = subst (λ r. IfSome r (λ x. IsFirstTwin c.args.parsed.d (map entry_of c.deref-5.result.now) x.0 x.1 x.2)) c.in-Some-2.is c.in_ok-i.ensures.found in
    refused_twin c.args.version c.args.parsed c.in_ok-entries.entries.items h (right_here (goal.at.returns-in-Some-2-clause-why c).In_default) c.in-Some-2.i c.in-Some-2.j c.in-Some-2.matrix (rw c.deref-5.ensures.value at w)

pub of-requires-clause-right : goal.of-requires-clause-right
of-requires-clause-right c =
    let h = built_here (goal.at.of-requires-clause-right c).In_ok-entries in
    let w = subst (λ r. IfNone r ((i : ℕ) → i < length c.deref-5.result.now → HasNoTwin c.args.parsed.d (map entry_of c.deref-5.result.now) i)) c.in_default-2.is c.in_ok-i.ensures.none in
    rw c.in_ok-marks.ensures (right_atlas c.args.version c.args.parsed c.in_ok-entries.entries.items h (right_here (goal.at.of-requires-clause-right c).In_default) (rw c.deref-5.ensures.value at w))

pub of-requires-clause-settled : goal.of-requires-clause-settled
of-requires-clause-settled c =
    let h = built_here (goal.at.of-requires-clause-settled c).In_ok-entries in
    rw c.in_ok-marks.ensures (settled c.args.version c.args.parsed c.in_ok-entries.entries.items h)

pub returns-clause-atlas : goal.returns-clause-atlas
returns-clause-atlas c =
    let h = built_here (goal.at.returns-clause-atlas c).In_ok-entries in
    read_atlas c.args.version c.args.parsed c.in_ok-entries.entries.items h c.in_ok-atlas.atlas (rw c.in_ok-marks.ensures at c.in_ok-atlas.ensures)
