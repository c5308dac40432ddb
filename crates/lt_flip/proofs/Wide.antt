-- The flip is a triangulation where no span is above the limit.
use Rattle.std.proofs.Common.{◌≡◌, ℕ, ℤ, pos, ◌<◌, ◌≤◌, arith, ap, sym, ◌∙◌, subst, List, [], length, get_or}
use Rattle.std.specs.List.{Contains}
use Rattle.std.proofs.lemmas.List.{get_or_default}
use Rattle.std.proofs.lemmas.List.Elements.{Contains-get_or}
use Rattle.lt_model.specs.Limits.{class_span, span_limit}
use Rattle.lt_model.specs.Vectors.{minus, scale}
use Rattle.lt_model.specs.Simplices.{IsClass}
use Rattle.lt_model.specs.Triangulations.{IsDelaunay}
use Rattle.lt_model.specs.Walls.{IsAcross}
use Rattle.lt_model.specs.Flips.{IsFlipOf}
use Rattle.lt_geometry.proofs.FlipOf.{flips_are_across}
use Rattle.lt_triang.specs.Kept.{IsTriangulation, AreClasses, dimension_of, IsOfSomeForm}
use Rattle.lt_triang.proofs.Gaps.{greatest_at_most}
use Rattle.lt_triang.proofs.SomeForm.{some_form as of_some_form}
use Rattle.lt_flip.specs.Flipped.{IsFirstWide, IsWideFlip}
use Rattle.lt_flip.proofs.Collected.{IsFlippable}

pub member_class : (d : ℕ) (q : List ℤ) (t : List (List (List ℤ))) → IsDelaunay d q t → (s : List (List ℤ)) → Contains t s → IsClass d s
member_class d q t k s m = ((k.members s).0 m).0

pub delaunay_dimension : (d : ℕ) (q : List ℤ) (t : List (List (List ℤ))) → IsDelaunay d q t → dimension_of t ≡ d
delaunay_dimension d q t k =
    let c : IsClass d (get_or t 0 []) = member_class d q t k (get_or t 0 []) (Contains-get_or t 0 [] k.occupied) in
    omega (arith, c.simplex.count)

-- the flip is Delaunay for some form
pub some_form : (d : ℕ) (a : List ℤ) (t t' : List (List (List ℤ))) (n : List ℤ) → IsFlippable d a t n → IsFlipOf d t n t' → (q : List ℤ) × IsDelaunay d q t'
some_form d a t t' n k f =
    let x = flips_are_across d a n t t' k.two k.delaunay k.facet f in
    (minus (scale (pos x.bound) x.wall) x.form, x.beyond x.bound (omega arith))

pub narrow_classes : (d : ℕ) (q : List ℤ) (t : List (List (List ℤ))) → 2 ≤ d → d ≤ 6 → IsDelaunay d q t → ((i : ℕ) → i < length t → class_span (get_or t i []) ≤ span_limit d) → AreClasses d t
narrow_classes d q t low high k each = record {
  low = low;
  high = high;
  classes = member_class d q t k;
  narrow = greatest_at_most class_span t (span_limit d) (λ s (i, l, e). subst (λ (z : List (List ℤ)). class_span z ≤ span_limit d) (get_or_default t i [] s l ∙ e) (each i l));
}

-- what is known of the sorted classes of a flip
pub record IsSortedFlip (d : ℕ) (t : List (List (List ℤ))) (n : List ℤ) (classes : List (List (List ℤ))) : Type 0 where
  pub flip : IsFlipOf d t n classes
  pub across : IsAcross d t n classes
  pub form : List ℤ
  pub delaunay : IsDelaunay d form classes
  pub some_form : IsOfSomeForm classes
  pub dimension : dimension_of classes ≡ d

pub sorted_flip : (d : ℕ) (a : List ℤ) (t : List (List (List ℤ))) (n : List ℤ) (classes : List (List (List ℤ))) → IsFlippable d a t n → IsFlipOf d t n classes → IsSortedFlip d t n classes
sorted_flip d a t n classes k f =
    let q = some_form d a t classes n k f in
    record {
      flip = f;
      across = flips_are_across d a n t classes k.two k.delaunay k.facet f;
      form = q.0;
      delaunay = q.1;
      some_form = of_some_form d q.0 classes q.1;
      dimension = delaunay_dimension d q.0 classes q.1;
    }

pub narrow_flip : (d : ℕ) (t : List (List (List ℤ))) (n : List ℤ) (classes now : List (List (List ℤ))) (e : ℕ) → 2 ≤ d → d ≤ 6 → IsSortedFlip d t n classes → now ≡ classes → e ≡ d → ((i : ℕ) → i < length now → class_span (get_or now i []) ≤ span_limit e) → AreClasses (dimension_of classes) classes
narrow_flip d t n classes now e low high h is same each =
    subst (λ (m : ℕ). AreClasses m classes) (sym h.dimension)
    (narrow_classes d h.form classes low high h.delaunay (subst (λ (l : List (List (List ℤ))). (i : ℕ) → i < length l → class_span (get_or l i []) ≤ span_limit d) is (subst (λ (m : ℕ). (i : ℕ) → i < length now → class_span (get_or now i []) ≤ span_limit m) same each)))

-- the sorted classes are a triangulation, where no span is above the limit
pub flip_triangulation : (d : ℕ) (t : List (List (List ℤ))) (n : List ℤ) (classes : List (List (List ℤ))) → IsSortedFlip d t n classes → AreClasses (dimension_of classes) classes → IsTriangulation d classes
flip_triangulation d t n classes h given =
    let k : AreClasses d classes = subst (λ (m : ℕ). AreClasses m classes) h.dimension given in
    record { low = k.low; high = k.high; occupied = h.delaunay.occupied; ascending = h.flip.ascending; classes = k.classes; closed = h.delaunay.closed; narrow = k.narrow }

pub wide_flip : (d : ℕ) (t : List (List (List ℤ))) (n : List ℤ) (classes now : List (List (List ℤ))) (e i : ℕ) (found s : List (List ℤ)) (c : ℤ) → IsSortedFlip d t n classes → now ≡ classes → e ≡ d → IsFirstWide e now i → found ≡ get_or classes i found → s ≡ found → c ≡ pos (class_span found) → IsWideFlip d t n s c
wide_flip d t n classes now e i found s c h is same first at s_is c_is =
    let f : IsFirstWide d classes i = subst (λ (l : List (List (List ℤ))). IsFirstWide d l i) is (subst (λ (m : ℕ). IsFirstWide m now i) same first) in
    record {
      flipped = classes;
      flip = h.flip;
      across = h.across;
      place = i;
      first = f;
      class_is = s_is ∙ at ∙ get_or_default classes i found [] f.place;
      span_is = c_is ∙ ap (λ (l : List (List ℤ)). pos (class_span l)) (sym s_is);
    }
