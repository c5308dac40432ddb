use Rattle.std.proofs.Common.{◌≡◌, ◌^◌, sym, ℕ, List, ℤ, subst, length}
use Rattle.std.proofs.lemmas.Bool.{false≢true}
use Rattle.std.specs.List.{All}
use Rattle.lt_lattice.specs.Ranges.{IsWithin}
use Rattle.lt_model.specs.Matrices.{apply}
use Rattle.lt_model.specs.Flat.{rows}
use Rattle.lt_model.proofs.Points.{get_dimension}
use Rattle.lt_match.proofs.Placed.{each_image}
use Rattle.lt_match.proofs.images.images.Goals as goal

pub returns-in-None-clause-within : goal.returns-in-None-clause-within
returns-in-None-clause-within c =
    let x = c.point-item.result in
    let k = c.loop-point.point-index in
    let d = c.args.d in
    let l : length x ≡ d = subst (λ (v : List ℤ). length v ≡ d) (sym c.point-item.is) (get_dimension d k c.args.points.now x c.requires.dimension c.loop-point-test.true) in (
      λ e. absurd (false≢true e),
      λ h.
          let here : All (IsWithin (2 ^ 20)) (apply (rows d c.args.u.now) x) =
          subst (λ (v : List ℤ). All (IsWithin (2 ^ 20)) (apply (rows d c.args.u.now) v)) (sym c.point-item.is) (each_image (2 ^ 20) k (apply (rows d c.args.u.now)) c.args.points.now x h c.loop-point-test.true)
          in
          c.in-None.ensures.within.1 (subst (λ (n : ℕ). All (IsWithin (2 ^ 20)) (apply (rows n c.args.u.now) x)) (sym l) here),
    )
