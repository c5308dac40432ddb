use Rattle.std.proofs.Common.{◌+◌, ◌<◌, ℕ, ℤ, List, length, get_or, map, ap, arith, subst, sym, ◌∙◌, []}
use Rattle.lt_model.specs.Atlases.{Entry, entry_at}
use Rattle.lt_triang.specs.Kept.{dimension_of, IsOfSomeForm}
use Rattle.lt_colour.specs.Signatures.{IsFingerprint}
use Rattle.lt_colour.proofs.Numbers.{each_more}
use Rattle.lt_core.specs.Marks.{entry_of}
use Rattle.lt_core.proofs.Undo.{length_more}
use Rattle.lt_core.proofs.Printed.{entry_read}
use Rattle.lt_core.proofs.prints.prints_of.Goals as goal

pub loop-entry-init : goal.loop-entry-init
loop-entry-init c = record { count = ap length c.new-all.ensures.items; each = λ k l. absurd (omega (arith, l)) }

pub print_of-requires : goal.print_of-requires
print_of-requires c =
    let e = entry_read c.args.entries.now c.loop-entry.entry-index c.entry-item.result c.loop-entry-test.true c.entry-item.is in
    subst (λ (z : Entry). IsOfSomeForm z.triangulation) (sym e) (c.requires c.loop-entry.entry-index c.loop-entry-test.true)

pub loop-entry-preserved : goal.loop-entry-preserved
loop-entry-preserved c =
    let es = map entry_of c.args.entries.now in
    let k = c.loop-entry.entry-index in
    let p = c.in_ok-print_of.field-0 in
    let ps = c.loop-entry.all.items in
    let e = entry_read c.args.entries.now k c.entry-item.result c.loop-entry-test.true c.entry-item.is in
    let s = c.in_ok-push.ensures.items in
    let m = length_more ps p in
    let it : IsFingerprint (dimension_of (entry_at es k).triangulation) (entry_at es k).triangulation p = subst (λ (z : Entry). IsFingerprint (dimension_of z.triangulation) z.triangulation p) e c.in_ok-print_of.ensures in
    record {
      count = ap length s ∙ (let n = c.loop-entry.invariant.count in omega (arith, m, n));
      each = subst (λ (qs : List (List ℤ)). (i : ℕ) → i < k + 1 → IsFingerprint (dimension_of (entry_at es i).triangulation) (entry_at es i).triangulation (get_or qs i [])) (sym s)
          (each_more (λ i x. IsFingerprint (dimension_of (entry_at es i).triangulation) (entry_at es i).triangulation x) ps p [] k c.loop-entry.invariant.count c.loop-entry.invariant.each it);
    }

pub returns-clause-count : goal.returns-clause-count
returns-clause-count c = omega (arith, c.loop-entry.invariant.count, c.loop-entry-test.false, c.loop-entry.auto.entry-index-end)

pub returns-clause-each : goal.returns-clause-each
returns-clause-each c = λ k l. c.loop-entry.invariant.each k (omega (arith, l, c.loop-entry-test.false))
