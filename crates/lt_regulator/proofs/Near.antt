-- Members of a triangulation lie near 0.
use Rattle.std.proofs.Common.{ℕ, suc, ℤ, ◌<◌, ◌≤◌, List, [], ◌∷◌, length, get_or, arith}
use Rattle.std.proofs.lemmas.List.Elements.{Contains-get_or}
use Rattle.lt_model.specs.Limits.{span_limit}
use Rattle.lt_model.specs.Simplices.{IsClass}
use Rattle.lt_triang.specs.Bounds.{AreWithin}
use Rattle.lt_triang.specs.Kept.{IsTriangulation, dimension_of}
use Rattle.lt_triang.proofs.Gaps.{member_near, within_from_near, small_limit}
use Rattle.lt_triang.proofs.Made.{classes_of}
use Rattle.lt_triang.proofs.Shifts.{within_more}
use Rattle.lt_triang.proofs.Expressed.{dimension_is, member_dimension}

all_more : (m n : ℕ) (vs : List (List ℤ)) → m ≤ n → AreWithin m vs → AreWithin n vs
all_more m n [] le h = tt
all_more m n (v ∷ vs) le h = (within_more m n v le h.0, all_more m n vs le h.1)

pub member_class : (d : ℕ) (t : List (List (List ℤ))) (m : ℕ) → IsTriangulation d t → m < length t → IsClass d (get_or t m [])
member_class d t m h l = h.classes (get_or t m []) (Contains-get_or t m [] l)

pub member_within : (d : ℕ) (t : List (List (List ℤ))) (m : ℕ) → IsTriangulation d t → m < length t → AreWithin 400 (get_or t m [])
member_within d t m h l =
    all_more (span_limit d) 400 (get_or t m []) (small_limit d)
    (within_from_near (span_limit d) d (get_or t m []) (member_class d t m h l) (member_near d t (get_or t m []) (classes_of d t h) (Contains-get_or t m [] l)))

pub facet_place : (d : ℕ) (t : List (List (List ℤ))) (m i : ℕ) → IsTriangulation d t → m < length t → i < length (get_or t m []) → i < suc (dimension_of t)
facet_place d t m i h l p = let e = member_dimension d t m h l in omega (arith, e, p, dimension_is d t h)
