use Rattle.std.proofs.Common.{arith, ◌≡◌, ◌^◌, sym, negsuc, List, ℤ, [], get_or, subst}
use Rattle.std.proofs.lemmas.Bool.{false≢true}
use Rattle.std.proofs.lemmas.List.{get_or_read}
use Rattle.std.specs.List.{All}
use Rattle.lt_lattice.specs.Ranges.{IsWithin}
use Rattle.lt_model.specs.Vectors.{plus, minus, scale}
use Rattle.lt_triang.proofs.Shifts.{each_moved}
use Rattle.lt_match.proofs.images.moved_back.Goals as goal

pub returns-in-None-clause-within : goal.returns-in-None-clause-within
returns-in-None-clause-within c =
    let x = c.point-item.result in
    let k = c.loop-point.point-index in
    let ps = c.args.points.now in
    let o : c.index-points-0.result ≡ get_or ps 0 [] = get_or_read ps 0 _ (omega arith) c.index-points-0.is [] in (
      λ e. absurd (false≢true e),
      λ h.
          let here : All (IsWithin (2 ^ 20)) (plus x (scale (negsuc 0) (get_or ps 0 []))) =
          subst (λ (v : List ℤ). All (IsWithin (2 ^ 20)) (plus v (scale (negsuc 0) (get_or ps 0 [])))) (sym c.point-item.is) (each_moved (2 ^ 20) k (scale (negsuc 0) (get_or ps 0 [])) ps x h c.loop-point-test.true)
          in
          c.in-None.ensures.within.1 (subst (λ (v : List ℤ). All (IsWithin (2 ^ 20)) (minus x v)) (sym o) here),
    )
