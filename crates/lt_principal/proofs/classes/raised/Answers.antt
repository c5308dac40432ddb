use Rattle.std.proofs.Common.{refl, arith, ◌≡◌, ◌∙◌, length, ◌++◌, ◌∷◌, [], ◌^◌, w64}
use Rattle.std.proofs.lemmas.Int.{ints, to_z-of_z}
use Rattle.std.proofs.lemmas.List.Elements.{All-append, All-cons, All-nil}
use Rattle.lt_lattice.specs.Ranges.{IsWithin}
use Rattle.lt_model.specs.Vectors.{plus, unit}
use Rattle.lt_geometry.proofs.Paths.{length-step}
use Rattle.lt_principal.proofs.Ways.{taken_more, taken_whole}
use Rattle.lt_principal.proofs.classes.raised.Goals as goal

pub loop-i-preserved : goal.loop-i-preserved
loop-i-preserved c =
    let x = c.args.x.now in
    let goal = plus x (unit (length x) c.args.k) in
    let i = c.loop-i.i in
    let e : c.push.new.self.items ≡ c.loop-i.coords.items ++ c.raised_coord.result ∷ [] = rw (to_z-of_z w64 c.raised_coord.result (omega (arith, ints))) at c.push.ensures.items in
    let l : length goal ≡ length x = length-step (length x) c.args.k x refl in
    record {
      so_far = e ∙ taken_more goal i c.loop-i.coords.items c.raised_coord.result (omega arith) c.loop-i.invariant.so_far c.raised_coord.ensures.value;
      within = rw e (All-append (IsWithin (2 ^ 20)) c.loop-i.coords.items (c.raised_coord.result ∷ []) c.loop-i.invariant.within (All-cons (IsWithin (2 ^ 20)) c.raised_coord.result [] c.raised_coord.ensures.small (All-nil (IsWithin (2 ^ 20)))));
    }

pub of-requires-clause-low : goal.of-requires-clause-low
of-requires-clause-low c =
    let x = c.args.x.now in
    let goal = plus x (unit (length x) c.args.k) in
    let l : length goal ≡ length x = length-step (length x) c.args.k x refl in
    let e : c.as_slice.result.now ≡ goal = c.as_slice.ensures.value ∙ taken_whole goal c.loop-i.i c.loop-i.coords.items (omega arith) c.loop-i.invariant.so_far in
    rw e (omega arith)

pub returns : goal.returns
returns c =
    let x = c.args.x.now in
    let goal = plus x (unit (length x) c.args.k) in
    let l : length goal ≡ length x = length-step (length x) c.args.k x refl in
    c.of.ensures ∙ c.as_slice.ensures.value ∙ taken_whole goal c.loop-i.i c.loop-i.coords.items (omega arith) c.loop-i.invariant.so_far
