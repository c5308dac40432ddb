-- Walls that are taken over from a triangulation with classes in common.
use Rattle.std.proofs.Common.{◌≡◌, ℕ, suc, ℤ, ◌<◌, arith, refl, List, [], length, get_or}
use Rattle.std.specs.Prelude.{Option}
use Rattle.std.specs.declared.option.Option.TheVariants.{Some, None}
use Rattle.std.specs.List.{Contains}
use Rattle.std.specs.Ordering.{int_eq}
use Rattle.std.specs.Bool.{Decides}
use Rattle.std.specs.Cmp.Lexicographic.{pointwise}
use Rattle.std.proofs.lemmas.Bool.Decides.{Decides-int_eq}
use Rattle.std.proofs.lemmas.Slice.Eq.{slice_eq-Decides}
use Rattle.lt_triang.specs.Across.{IsFacing, IsFirstAcross, HasOneAcross}
use Rattle.lt_triang.specs.Walled.{IsWall, shift_to}
use Rattle.lt_triang.specs.Carried.{ArePlacesIn, IsMoved}
use Rattle.lt_triang.specs.declared.walls.Wall.{Wall}

-- ---- equal classes

points : (x y : List ℤ) → Decides (pointwise int_eq x y) (x ≡ y)
points x y = slice_eq-Decides Decides-int_eq x y _ refl

pub same_class : (x y : List (List ℤ)) → Decides (pointwise (pointwise int_eq) x y) (x ≡ y)
same_class x y = slice_eq-Decides points x y _ refl

-- ---- walls

-- what is said of the neighbour in the old classes holds at its new place
pub carried_wall : (d : ℕ) (t old : List (List (List ℤ))) (places : List (Option ℕ)) (s : List (List ℤ)) (i m : ℕ) (v w : Wall) →
    HasOneAcross d t → Contains t s → i < suc d → ArePlacesIn old t places → IsWall d old s i v → get_or places v.class None ≡ Some m → IsMoved v m w → IsWall d t s i w
carried_wall d t old places s i m v w one c hi h k e of = record {
  scale = k.scale;
  coefficients = k.coefficients;
  first = rw (of.class, of.vertex) first;
  outer = rw (of.class, of.vertex, same) k.outer;
  numbers = rw of.numbers k.numbers;
}
  where
    at : (m < length t) × (get_or t m [] ≡ get_or old v.class [])
    at = h.each v.class None k.first.member m e

    same : get_or t m [] ≡ get_or old v.class []
    same = at.1

    shift : List ℤ
    shift = shift_to s i (get_or t m []) v.vertex

    facing : IsFacing d s i (get_or t m []) shift v.vertex
    facing = rw same k.first.facing

    first : IsFirstAcross d t s i m shift v.vertex
    first = record {
      member = at.0;
      place = k.first.place;
      facing = facing;
      earlier = λ a b la lb p g. let q : a ≡ m = one s i a m p shift b v.vertex c hi (omega (arith, la, at.0)) at.0 lb k.first.place g facing in omega (arith, la, q);
      before = λ b l. rw same (k.first.before b l);
    }
