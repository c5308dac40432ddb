use Rattle.std.proofs.Common.{arith, ◌≡◌, ◌<◌, ◌≤◌, ◌*◌, ◌^◌, ◌∙◌, ℕ, suc, ℤ, List, [], length, get_or, sym, ap, Fits, w64}
use Rattle.std.proofs.lemmas.Bool.{false≢true}
use Rattle.std.proofs.lemmas.List.{get_or_read}
use Rattle.std.proofs.lemmas.List.Elements.{Contains-get_or}
use Rattle.std.specs.List.{All}
use Rattle.lt_lattice.specs.Ranges.{IsWithin}
use Rattle.lt_model.specs.Limits.{span_limit}
use Rattle.lt_model.specs.Principal.{IsOrder}
use Rattle.lt_model.specs.Simplices.{IsClass}
use Rattle.lt_model.specs.Vectors.{minus}
use Rattle.lt_triang.proofs.Gaps.{twice_limit}
use Rattle.lt_triang.proofs.Shifts.{within_more}
use Rattle.lt_match.proofs.Orders.{order_below, vertex_length, written_more}
use Rattle.lt_match.proofs.matching.targets.Goals as goal

fits : (d n : ℕ) → d ≤ 6 → n < suc d → Fits w64 (n * 32)
fits d n few h = omega (arith, few, h)

place : (d i : ℕ) (s : List (List ℤ)) (p : List ℕ) → IsClass d s → IsOrder (suc d) p → i < length p → get_or p i 0 < length s
place d i s p c o h = let k = order_below d p i o (omega (arith, o.count, h)) in omega (arith, c.simplex.count, k)

pub offset_bounds-s-k : goal.offset_bounds-s-k
offset_bounds-s-k c = fits c.args.d (get_or c.args.order.now c.loop-k.k-index 0) c.requires.few (order_below c.args.d c.args.order.now c.loop-k.k-index c.requires.order (omega (arith, c.requires.order.count, c.loop-k-test.true)))

pub bounds-s-k : goal.bounds-s-k
bounds-s-k c = place c.args.d c.loop-k.k-index c.args.s.now c.args.order.now c.requires.class c.requires.order c.loop-k-test.true

pub offset_bounds-s-order : goal.offset_bounds-s-order
offset_bounds-s-order c = fits c.args.d (get_or c.args.order.now 0 0) c.requires.few (order_below c.args.d c.args.order.now 0 c.requires.order (omega arith))

pub bounds-s-order : goal.bounds-s-order
bounds-s-order c = place c.args.d 0 c.args.s.now c.args.order.now c.requires.class c.requires.order (omega (arith, c.requires.order.count))

pub minus-requires : goal.minus-requires
minus-requires c =
    let p = c.args.order.now in
    let s = c.args.s.now in
    let i = c.loop-k.k-index in
    let a : c.index-s-k.result ≡ get_or s (get_or p i 0) [] = get_or_read s (get_or p i 0) _ (place c.args.d i s p c.requires.class c.requires.order c.loop-k-test.true) c.index-s-k.is [] in
    let b : c.index-s-order.result ≡ get_or s (get_or p 0 0) [] = get_or_read s (get_or p 0 0) _ (place c.args.d 0 s p c.requires.class c.requires.order (omega (arith, c.requires.order.count))) c.index-s-order.is [] in
    ap length a ∙ vertex_length c.args.d (get_or p i 0) s c.requires.class (order_below c.args.d p i c.requires.order (omega (arith, c.requires.order.count, c.loop-k-test.true))) ∙ sym (ap length b ∙ vertex_length c.args.d (get_or p 0 0) s c.requires.class (order_below c.args.d p 0 c.requires.order (omega arith)))

pub unreachable-requires : goal.unreachable-requires
unreachable-requires c =
    let d = c.args.d in
    let p = c.args.order.now in
    let s = c.args.s.now in
    let i = c.loop-k.k-index in
    let hi = place d i s p c.requires.class c.requires.order c.loop-k-test.true in
    let h0 = place d 0 s p c.requires.class c.requires.order (omega (arith, c.requires.order.count)) in
    let a : c.index-s-k.result ≡ get_or s (get_or p i 0) [] = get_or_read s (get_or p i 0) _ hi c.index-s-k.is [] in
    let b : c.index-s-order.result ≡ get_or s (get_or p 0 0) [] = get_or_read s (get_or p 0 0) _ h0 c.index-s-order.is [] in
    let near : All (IsWithin (span_limit d)) (minus (get_or s (get_or p i 0) []) (get_or s (get_or p 0 0) [])) = c.requires.near (get_or s (get_or p i 0) []) (get_or s (get_or p 0 0) []) (Contains-get_or s (get_or p i 0) [] hi) (Contains-get_or s (get_or p 0 0) [] h0) in
    let wide : All (IsWithin (2 ^ 20)) (minus (get_or s (get_or p i 0) []) (get_or s (get_or p 0 0) [])) = within_more (span_limit d) (2 ^ 20) (minus (get_or s (get_or p i 0) []) (get_or s (get_or p 0 0) [])) (omega (arith, twice_limit d)) near in
    false≢true (c.in-None.ensures.within.1 (rw (a, b) wide))

pub loop-k-preserved : goal.loop-k-preserved
loop-k-preserved c =
    let d = c.args.d in
    let p = c.args.order.now in
    let s = c.args.s.now in
    let i = c.loop-k.k-index in
    let a : c.index-s-k.result ≡ get_or s (get_or p i 0) [] = get_or_read s (get_or p i 0) _ (place d i s p c.requires.class c.requires.order c.loop-k-test.true) c.index-s-k.is [] in
    let b : c.index-s-order.result ≡ get_or s (get_or p 0 0) [] = get_or_read s (get_or p 0 0) _ (place d 0 s p c.requires.class c.requires.order (omega (arith, c.requires.order.count))) c.index-s-order.is [] in
    record {
      so_far = rw (c.push.ensures.items, c.in-Some.ensures.value, a, b) (written_more (λ k. minus (get_or s k []) (get_or s (get_or p 0 0) [])) p c.loop-k.all.items _ i c.loop-k-test.true c.loop-k.invariant.so_far);
      count = omega (arith, c.push.ensures.len, c.loop-k.invariant.count);
    }

pub push-requires : goal.push-requires
push-requires c = (omega arith, omega (arith, c.loop-k.invariant.count, c.loop-k-test.true, c.requires.order.count, c.requires.few))
