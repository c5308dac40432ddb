-- Numbers of points that are written one after the other.
use Rattle.std.proofs.Common.{◌≡◌, ◌-◌, ◌*◌, ℕ, zero, suc, ℤ, ap, ◌∙◌, List, [], ◌∷◌, length, drop}
use Rattle.std.proofs.lemmas.List.{length-drop}
use Rattle.lt_model.specs.Flat.{flat, rows}
use Rattle.lt_model.specs.Simplices.{AllOfDimension}
use Rattle.lt_model.proofs.Flat.{length-flat, rows-flat}
use Rattle.lt_triang.specs.Bounds.{AreWithin}
use Rattle.lt_triang.proofs.Columned.{drop_dimension}

pub length-flat_rest : (d i : ℕ) (ps : List (List ℤ)) → AllOfDimension d ps → length (flat (drop i ps)) ≡ (length ps - i) * d
length-flat_rest d i ps all = length-flat d (drop i ps) (drop_dimension d i ps all) ∙ ap (λ n. n * d) (length-drop i ps)

pub drop_within : (m i : ℕ) (ps : List (List ℤ)) → AreWithin m ps → AreWithin m (drop i ps)
drop_within m zero ps all = all
drop_within m (suc i) [] all = tt
drop_within m (suc i) (p ∷ ps) all = drop_within m i ps all.1

-- the rows of the numbers of points are the points
pub rows-points : (d : ℕ) (ps : List (List ℤ)) → length ps ≡ d → AllOfDimension d ps → rows d (flat ps) ≡ ps
rows-points d ps l all = rows-flat d ps (record { rows = l; columns = all })
