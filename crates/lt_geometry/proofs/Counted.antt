-- A matrix carries where each class goes to a class and there are as many of both.
use Rattle.std.proofs.Common.{◌≡◌, ℕ, ℤ, arith, sym, ◌∙◌, subst, List, [], length, map, ◌≤◌}
use Rattle.std.specs.List.{Contains}
use Rattle.std.specs.List.Sorted.{IsStrictlySortedBy}
use Rattle.lt_model.specs.Matrices.{apply, Carries}
use Rattle.lt_model.specs.Order.{simplex_cmp}
use Rattle.lt_model.specs.Simplices.{IsClassOf}
use Rattle.lt_model.proofs.Sets.{simplex_cmp_total}
use Rattle.lt_geometry.specs.Carrying.{AreClasses}
use Rattle.lt_geometry.proofs.Crossed.{HasImages, images, HasImage, has_image}
use Rattle.lt_geometry.proofs.Images.{carries_undone, carries_back, classes_carried, IsCarried, carried_from, carried_unique, HasOrigin, carries_by, carries_from}
use Rattle.lt_geometry.proofs.Matrices.{IsUndone}
use Rattle.lt_geometry.proofs.Rearranged.{IsDistinct, no_longer, IsArranged, arranged_from, arranged_members}
use Rattle.lt_geometry.proofs.Sorting.{sorted_is_distinct}

no_more : (d : ℕ) (u : List (List ℤ)) (t t2 : List (List (List ℤ))) → AreClasses d t → IsDistinct t2 → Carries d u t t2 → length t2 ≤ length t
no_more d u t t2 classes distinct h =
    let k : HasImages d u h.inverse t = images d u h.inverse t (carries_undone d u t t2 h) classes in
    let l : length t2 ≤ length k.list = no_longer k.list t2 distinct (λ s2 m. let o = carries_from d u t t2 s2 classes h m in k.to o.list s2 o.member o.is) in
    omega (arith, l, k.count)

-- triangulations of which one is carried onto the other have as many classes
pub as_many : (d : ℕ) (u : List (List ℤ)) (t t2 : List (List (List ℤ))) → AreClasses d t → IsStrictlySortedBy simplex_cmp t → IsStrictlySortedBy simplex_cmp t2 → Carries d u t t2 → length t ≡ length t2
as_many d u t t2 classes asc asc2 h =
    let a = no_more d u t t2 classes (sorted_is_distinct simplex_cmp simplex_cmp_total t2 asc2) h in
    let b = no_more d h.inverse t2 t (classes_carried d u t t2 classes h) (sorted_is_distinct simplex_cmp simplex_cmp_total t asc) (carries_back d u t t2 classes h) in
    omega (arith, a, b)

-- one pass is enough where both lists ascend and are as long
pub carries_from_counts : (d : ℕ) (u v : List (List ℤ)) (t t2 : List (List (List ℤ))) → IsUndone d u v → AreClasses d t → IsStrictlySortedBy simplex_cmp t → length t ≡ length t2 →
    ((s : List (List ℤ)) → Contains t s → (s2 : List (List ℤ)) × Contains t2 s2 × IsClassOf d (map (apply u) s) s2) → Carries d u t t2
carries_from_counts d u v t t2 h classes asc l each = carries_by d u v t t2 h classes to from
  where
    to : (s s2 : List (List ℤ)) → Contains t s → IsCarried d u v s s2 → Contains t2 s2
    to s s2 m c = at (each s m)
      where
        at : ((s3 : List (List ℤ)) × Contains t2 s3 × IsClassOf d (map (apply u) s) s3) → Contains t2 s2
        at (s3, k, e) = subst (λ (z : List (List ℤ)). Contains t2 z) (carried_unique d u v s s3 s2 (carried_from d u v s s3 h (classes s m) e) c) k

    image : HasImage d u v t
    image = has_image d u v t h classes

    origin : (s2 : List (List ℤ)) → Contains image.list s2 → HasOrigin d u v t s2
    origin s2 m = subst (λ (w : List (List ℤ)). HasOrigin d u w t s2) image.inverse (carries_from d u t image.list s2 classes image.carries m)

    all : IsArranged [] t2 image.list
    all =
        arranged_from [] t2 image.list (sym l ∙ as_many d u t image.list classes asc image.ascending image.carries) (sorted_is_distinct simplex_cmp simplex_cmp_total image.list image.ascending)
        (λ s2 m. let o = origin s2 m in to o.list s2 o.member o.is)

    from : (s2 : List (List ℤ)) → Contains t2 s2 → HasOrigin d u v t s2
    from s2 m = origin s2 (arranged_members [] t2 image.list all s2 m)
