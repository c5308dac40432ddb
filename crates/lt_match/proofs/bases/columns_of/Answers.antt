use Rattle.std.proofs.Common.{arith, ◌≡◌, ◌*◌, ◌-◌, ◌∙◌, ℕ, suc, ap, length, drop}
use Rattle.std.specs.List.{All}
use Rattle.lt_model.specs.Limits.{span_limit}
use Rattle.lt_model.specs.Flat.{flat, rows}
use Rattle.lt_model.proofs.Points.{count_rest}
use Rattle.lt_lattice.specs.Ranges.{IsWithin}
use Rattle.lt_triang.proofs.Columned.{All-flat, drop_dimension}
use Rattle.lt_match.proofs.Written.{length-flat_rest, rows-points, drop_within}
use Rattle.lt_match.proofs.bases.columns_of.Goals as goal

less_one : (n d : ℕ) → n ≡ suc d → n - 1 ≡ d
less_one n d e = omega arith

pub of-requires-clause-square : goal.of-requires-clause-square
of-requires-clause-square c =
    let ps = c.args.points.now in
    ap length (c.as_slice.ensures.value ∙ c.numbers_of.ensures) ∙ length-flat_rest c.args.d 1 ps c.requires.dimension ∙ ap (λ n. n * c.args.d) (less_one (length ps) c.args.d c.requires.count)

pub of-requires-clause-small : goal.of-requires-clause-small
of-requires-clause-small c =
    let ps = c.args.points.now in
    let e : c.as_slice.result.now ≡ flat (drop 1 ps) = c.as_slice.ensures.value ∙ c.numbers_of.ensures in
    let all : All (IsWithin (span_limit c.args.d)) (flat (drop 1 ps)) = All-flat (IsWithin (span_limit c.args.d)) (drop 1 ps) (drop_within (span_limit c.args.d) 1 ps c.requires.near) in
    rw e (λ k x h. omega (arith, all k x h))

pub returns : goal.returns
returns c =
    let ps = c.args.points.now in
    let d = c.args.d in
    c.of.ensures ∙ ap (rows d) (c.as_slice.ensures.value ∙ c.numbers_of.ensures) ∙ rows-points d (drop 1 ps) (count_rest d ps c.requires.count) (drop_dimension d 1 ps c.requires.dimension)
