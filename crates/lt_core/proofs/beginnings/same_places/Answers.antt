use Rattle.std.proofs.Common.{◌≡◌, ℕ, ap}
use Rattle.std.specs.Prelude.{◌&&◌, ◌==◌}
use Rattle.std.specs.Bool.{Decides}
use Rattle.std.specs.Cmp.{unsigned_Decides}
use Rattle.std.proofs.lemmas.Bool.Decides.{Decides-and}
use Rattle.std.proofs.lemmas.Slice.Eq.{slice_eq-Decides}
use Rattle.lt_core.proofs.Recording.{same_place}
use Rattle.lt_core.proofs.beginnings.same_places.Goals as goal

place_decides : (p q : ℕ × ℕ) → Decides ((p.0 == q.0) && (p.1 == q.1)) (p ≡ q)
place_decides p q =
    let d = Decides-and (p.0 == q.0) (p.1 == q.1) (unsigned_Decides p.0 q.0) (unsigned_Decides p.1 q.1) in
    (λ e. same_place p q (d.0 e).0 (d.0 e).1, λ s. d.1 (ap (λ (r : ℕ × ℕ). r.0) s, ap (λ (r : ℕ × ℕ). r.1) s))

pub returns : goal.returns
returns c = slice_eq-Decides place_decides c.args.places.now c.args.others.now c.eq.result c.eq.ensures
