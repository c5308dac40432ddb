use Rattle.std.proofs.Common.{arith, ◌≡◌, ◌*◌, ◌-◌, ◌≤◌, ◌∙◌, ℕ, suc, ap, sym, length, get_or, drop, mul-le-mul, []}
use Rattle.std.proofs.lemmas.List.{length-append, get_or_read}
use Rattle.lt_model.specs.Flat.{flat}
use Rattle.lt_model.proofs.Points.{get_dimension}
use Rattle.lt_match.proofs.Written.{length-flat_rest}
use Rattle.lt_match.proofs.bases.numbers_of.Goals as goal

pub push_coords-requires : goal.push_coords-requires
push_coords-requires c =
    let ps = c.args.points.now in
    let d = c.args.d in
    let i = c.loop-i.i in
    let here : c.index-points-i.result ≡ get_or ps i [] = get_or_read ps i _ (omega (arith, c.requires.count, c.loop-i-test.true)) c.index-points-i.is [] in
    let long : length c.coords.result.now ≡ d = ap length (c.coords.ensures.value ∙ here) ∙ get_dimension d i ps [] c.requires.dimension (omega (arith, c.requires.count, c.loop-i-test.true)) in
    let all = sym (length-append c.loop-i.all.items (flat (drop i ps))) ∙ ap length c.loop-i.invariant in
    let rest = length-flat_rest d i ps c.requires.dimension in
    let whole = length-flat_rest d 1 ps c.requires.dimension in
    let some : 1 * d ≤ (length ps - i) * d = mul-le-mul (omega (arith, c.requires.count, c.loop-i-test.true)) (least d) in
    let square : d * d ≤ 36 = mul-le-mul c.requires.few c.requires.few in
    let same : (length ps - 1) * d ≡ d * d = ap (λ n. n * d) (less_one (length ps) d c.requires.count) in
    omega (arith, all, rest, whole, some, square, same, long)
  where
    least : (d : ℕ) → d ≤ d
    least d = omega arith

    less_one : (n d : ℕ) → n ≡ suc d → n - 1 ≡ d
    less_one n d e = omega arith
