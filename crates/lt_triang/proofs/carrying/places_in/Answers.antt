use Rattle.std.proofs.Common.{arith, ◌≡◌, ℕ, get_or, []}
use Rattle.std.specs.Prelude.{Option}
use Rattle.std.proofs.lemmas.List.{length_push, get_or_read}
use Rattle.lt_triang.specs.Carried.{IsPlaceIn}
use Rattle.lt_triang.proofs.Rowed.{row_pushed}
use Rattle.lt_triang.proofs.carrying.places_in.Goals as goal

pub loop-class-preserved : goal.loop-class-preserved
loop-class-preserved c =
    let into = c.args.into.now in
    let from = c.args.from.now in
    let i = c.loop-class.class-index in
    let class : c.class-item.result ≡ get_or from i [] = get_or_read from i c.class-item.result (omega (arith, c.loop-class-test.true)) c.class-item.is [] in
    let here : IsPlaceIn into (get_or from i []) c.place_at.result = rw class at c.place_at.ensures in
    rw c.in_ok-push.ensures.items (record {
      count = omega (arith, length_push c.loop-class.places.items c.place_at.result, c.loop-class.invariant.count);
      each = row_pushed (λ (q : ℕ) (r : Option ℕ). IsPlaceIn into (get_or from q []) r) c.loop-class.places.items i c.place_at.result c.loop-class.invariant.count c.loop-class.invariant.each here;
    })

pub returns : goal.returns
returns c = record {
  count = omega (arith, c.loop-class.invariant.count);
  each = λ q e l. c.loop-class.invariant.each q e (omega (arith, l));
}
