-- Images of triangulations whose span is above the limit.
use Rattle.std.specs.Prelude.{ℕ, ℤ, pos, min, ◌<◌, ◌^◌, ◌≡◌, List, map, length, get_or, []}
use Rattle.std.specs.List.Sorted.{IsStrictlySortedBy}
use Rattle.lt_model.specs.Limits.{span, span_limit, class_span}
use Rattle.lt_model.specs.Matrices.{apply, Carries}
use Rattle.lt_model.specs.Order.{simplex_cmp}
use Rattle.lt_model.specs.Simplices.{IsClassOf}

-- the span of the images of a class, or 2^20 where it is more
abbrev pub told_span : List (List ℤ) → List (List ℤ) → ℕ
told_span u s = min (2 ^ 20) (class_span (map (apply u) s))

-- the ascending list of the classes of the images has a span above the limit; w is that span, or 2^20 where it is more
pub record IsWideImage (d : ℕ) (u : List (List ℤ)) (t : List (List (List ℤ))) (w : ℤ) : Type 0 where
  pub list : List (List (List ℤ))
  pub ascending : IsStrictlySortedBy simplex_cmp list
  pub carries : Carries d u t list
  pub above : span_limit d < span list
  pub told : w ≡ pos (min (2 ^ 20) (span list))

-- the class at each place is that of the images of the class there
pub record AreImages (d : ℕ) (u : List (List ℤ)) (t classes : List (List (List ℤ))) : Type 0 where
  pub count : length classes ≡ length t
  pub each : (n : ℕ) → n < length t → IsClassOf d (map (apply u) (get_or t n [])) (get_or classes n [])
