-- Facets suffice, in the words of the model.
use Rattle.std.proofs.Common.{◌≡◌, ℕ, ℤ, pos, ◌<ℤ◌, ◌≤◌, refl, List, length, ◌↔◌}
use Rattle.lt_model.proofs.Sets.{number_list_cmp_total}
use Rattle.lt_model.specs.Order.{number_list_cmp}
use Rattle.lt_model.specs.Vectors.{dot}
use Rattle.lt_model.specs.Forms.{numbers_of_form}
use Rattle.lt_model.specs.Triangulations.{IsDelaunay}
use Rattle.lt_model.specs.Reached.{IsReached}
use Rattle.lt_model.specs.Walls.{IsRegulator}
use Rattle.lt_geometry.proofs.LocalToGlobal.{local_to_global}
use Rattle.lt_geometry.proofs.Reached.{reached_delaunay}
use Rattle.lt_geometry.proofs.Regulators.{regulators_positive}
use Rattle.lt_geometry.proofs.Sorting.{sorted_is_distinct}
use Rattle.lt_laws.specs.Facets.{IsInside}
use Rattle.lt_laws.proofs.RegulatorLists.{has_regulators}
use Rattle.lt_laws.proofs.Suffice.{suffice}

pub facets_bound : (d : ℕ) (a q : List ℤ) (t : List (List (List ℤ))) → IsDelaunay d a t → IsInside d t q → (n : List ℤ) → IsRegulator d t n → pos 0 <ℤ dot n q
facets_bound d a q t k h n r =
    let l = has_regulators d a t k in
    suffice (length l.0) (numbers_of_form d) a q l.0 refl
    (record {
      distinct = sorted_is_distinct number_list_cmp number_list_cmp_total l.0 l.1.ascending;
      dimension = λ m c. (regulators_positive d a t m k ((l.1.members m).0 c)).1;
      primitive = λ m c. (regulators_positive d a t m k ((l.1.members m).0 c)).0;
      above = λ m c. (regulators_positive d a t m k ((l.1.members m).0 c)).2;
    })
    (λ m c w wall. h m (w, record { regulator = (l.1.members m).0 c; numbers = wall.numbers; zero_there = wall.zero_there; others = λ v g e. wall.others v ((l.1.members v).1 g) e }))
    n ((l.1.members n).1 r)

pub facets_suffice : (d : ℕ) (a q : List ℤ) (t : List (List (List ℤ))) → IsDelaunay d a t → length q ≡ numbers_of_form d → IsDelaunay d q t ↔ IsInside d t q
facets_suffice d a q t k l =
    let g = local_to_global d a q t k l in
    (λ j n f. g.0 j n f.1.regulator, λ h. g.1 (facets_bound d a q t k h))

pub reached_facets_suffice : (d : ℕ) (q : List ℤ) (t : List (List (List ℤ))) → 2 ≤ d → IsReached d t → length q ≡ numbers_of_form d → IsDelaunay d q t ↔ IsInside d t q
reached_facets_suffice d q t two r l = let k = reached_delaunay d two t r in facets_suffice d k.0 q t k.1 l
