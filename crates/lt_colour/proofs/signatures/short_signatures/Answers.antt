use Rattle.std.proofs.Common.{arith, [], get_or}
use Rattle.lt_triang.specs.Kept.{dimension_of}
use Rattle.lt_colour.specs.Signatures.{IsPairSignature}
use Rattle.lt_colour.proofs.Numbers.{each_more}
use Rattle.lt_colour.proofs.signatures.short_signatures.Goals as goal

pub loop-facet-preserved : goal.loop-facet-preserved
loop-facet-preserved c =
    let t = c.args.t.now in
    let s = get_or t c.args.class [] in
    record {
      count = omega (arith, c.push.ensures.len, c.loop-facet.invariant.count);
      each = rw c.push.ensures.items (each_more (λ i p. IsPairSignature (dimension_of t) t s i p) c.loop-facet.all.items c.short_signature.result [] c.loop-facet.facet c.loop-facet.invariant.count c.loop-facet.invariant.each c.short_signature.ensures);
    }
