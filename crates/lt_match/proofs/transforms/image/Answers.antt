use Rattle.std.proofs.Common.{arith, ◌≡◌, ◌<◌, ◌≤◌, ◌-◌, ◌*◌, ◌^◌, ◌∙◌, refl, ap, sym, subst, ℕ, suc, ℤ, pos, List, [], length, map, get_or, min, true, false, Err, Bool, T}
use Rattle.std.specs.Prelude.{◌<ℤ◌}
use Rattle.std.proofs.lemmas.Int.{ints, to_z-of_z}
use mir.Val.{SFits, to_z, of_z}
use mir.Syntax.{w64}
use lib.Signed.{lt_z}
use Rattle.std.specs.Int.Signed.{lt_z_yes}
use Rattle.lt_model.specs.Flat.{rows}
use Rattle.lt_model.specs.Limits.{greatest, span, span_limit}
use Rattle.lt_model.specs.Matrices.{IsSquare, IsInverse, Carries}
use Rattle.lt_model.specs.Simplices.{IsClass}
use Rattle.lt_model.proofs.Flat.{rows_square}
use Rattle.lt_geometry.proofs.Crossed.{HasImage, has_image}
use Rattle.lt_geometry.proofs.Matrices.{undone}
use Rattle.lt_triang.specs.Across.{IsOpenAnswer}
use Rattle.lt_triang.specs.Kept.{IsTriangulation, AreClasses, dimension_of}
use Rattle.lt_triang.proofs.Gaps.{twice_limit}
use Rattle.lt_match.specs.Wide.{told_span, IsWideImage, AreImages}
use Rattle.lt_match.proofs.Spans.{told_of_image, carried_list, image_classes, none_open}
use Rattle.lt_match.proofs.Tested.{dimension_is, square_at}
use Rattle.lt_match.proofs.transforms.image.Goals as goal

inverse_at : (d : ℕ) (u : List ℤ) (t : List (List (List ℤ))) → IsTriangulation d t → ((v : List (List ℤ)) × IsInverse (dimension_of t) (rows (dimension_of t) u) v) → (v : List (List ℤ)) × IsInverse d (rows d u) v
inverse_at d u t h k = subst (λ (n : ℕ). (v : List (List ℤ)) × IsInverse n (rows n u) v) (dimension_is d t h) k

limit_fits : (d : ℕ) → SFits w64 (pos (span_limit d))
limit_fits d = omega (arith, ints, twice_limit d)

number_fits : (n : ℕ) → n < 2 ^ 32 → SFits w64 (pos n)
number_fits n h = omega (arith, ints, h)

above : (a b : ℕ) → lt_z (pos a) (pos b) ≡ true → a < b
above a b e = let l : pos a <ℤ pos b = lt_z_yes (subst T (sym e) tt) in omega (arith, ints, l)

not_above : (a b : ℕ) → lt_z (pos a) (pos b) ≡ false → b ≤ a
not_above a b e = omega (arith, ints, e)

-- what the two tests say of the spans
at_limit : (d n : ℕ) (limit from : ℤ) (b : Bool) → n < 2 ^ 32 → limit ≡ pos (span_limit d) → from ≡ pos n → lt_z (to_z w64 (of_z w64 limit)) (to_z w64 (of_z w64 from)) ≡ b → lt_z (pos (span_limit d)) (pos n) ≡ b
at_limit d n limit from b small el ef e = rw (el, ef, to_z-of_z w64 (pos (span_limit d)) (limit_fits d), to_z-of_z w64 (pos n) (number_fits n small)) at e

same_span : (n : ℕ) (from w : ℤ) → n < 2 ^ 32 → from ≡ pos n → to_z w64 (of_z w64 from) ≡ w → w ≡ pos n
same_span n from w small ef e = sym e ∙ (rw (ef, to_z-of_z w64 (pos n) (number_fits n small)) refl)

wide_image : (d n : ℕ) (u : List ℤ) (t : List (List (List ℤ))) (w : ℤ) → IsTriangulation d t → length u ≡ d * d → ((v : List (List ℤ)) × IsInverse d (rows d u) v) → n ≡ greatest (map (told_span (rows d u)) t) → span_limit d < n → w ≡ pos n → IsWideImage d (rows d u) t w
wide_image d n u t w h l (v, inverse) is over told =
    let square : IsSquare d (rows d u) = rows_square d u l in
    let k : HasImage d (rows d u) v t = has_image d (rows d u) v t (undone d (rows d u) v square inverse) h.classes in
    let e : n ≡ min (2 ^ 20) (span k.list) = is ∙ told_of_image d (rows d u) t k.list h k.carries in
    record { list = k.list; ascending = k.ascending; carries = k.carries; above = omega (arith, over, e); told = told ∙ ap pos e }

pub returns-then-span-span_limit-clause-wide : goal.returns-then-span-span_limit-clause-wide
returns-then-span-span_limit-clause-wide c = λ w e.
    let d = c.dimension-d.result in
    let t = c.args.t.now in
    let h : IsTriangulation d t = c.dimension-d.ensures in
    let n = c.widest_image.result in
    let small : n < 2 ^ 32 = omega arith in
    let over = above (span_limit d) n (at_limit d n c.span_limit.result c.from-span.result true small c.span_limit.ensures c.from-span.ensures c.if-span-span_limit.true) in
    let told : to_z w64 (of_z w64 c.from-span.result) ≡ w = cc in
    let wide : IsWideImage d (rows d c.args.u.now) t w = wide_image d n c.args.u.now t w h (square_at d c.args.u.now t h c.requires.square) (inverse_at d c.args.u.now t h c.requires.inverse) c.widest_image.ensures over (same_span n c.from-span.result w small c.from-span.ensures told) in
    subst (λ (m : ℕ). IsWideImage m (rows m c.args.u.now) t w) (sym (dimension_is d t h)) wide

-- the classes are of the dimension that the first of them tells
less_one : (d n : ℕ) → n ≡ suc d → n - 1 ≡ d
less_one d n e = omega arith

told_dimension : (d : ℕ) (u : List (List ℤ)) (t classes : List (List (List ℤ))) → IsTriangulation d t → AreImages d u t classes → length (get_or classes 0 []) - 1 ≡ d
told_dimension d u t classes h k =
    let is = k.each 0 h.occupied in
    let c : IsClass d (get_or classes 0 []) = is.«class» in
    less_one d (length (get_or classes 0 [])) c.simplex.count

pub of-requires-clause-classes : goal.of-requires-clause-classes
of-requires-clause-classes c =
    let d = c.dimension-d.result in
    let t = c.args.t.now in
    let h : IsTriangulation d t = c.dimension-d.ensures in
    let n = c.widest_image.result in
    let within = not_above (span_limit d) n (at_limit d n c.span_limit.result c.from-span.result false (omega arith) c.span_limit.ensures c.from-span.ensures c.if-span-span_limit.false) in
    let near : greatest (map (told_span (rows d c.args.u.now)) t) ≤ span_limit d = omega (arith, c.widest_image.ensures, within) in
    let k : AreImages d (rows d c.args.u.now) t c.in-Ok.classes.items = c.in-Ok.ensures in
    subst (λ (m : ℕ). AreClasses m c.in-Ok.classes.items) (sym (told_dimension d (rows d c.args.u.now) t c.in-Ok.classes.items h k)) (image_classes d (rows d c.args.u.now) t c.in-Ok.classes.items h k near)

pub unreachable-requires : goal.unreachable-requires
unreachable-requires c =
    let d = c.dimension-d.result in
    let t = c.args.t.now in
    let h : IsTriangulation d t = c.dimension-d.ensures in
    let n = c.widest_image.result in
    let within = not_above (span_limit d) n (at_limit d n c.span_limit.result c.from-span.result false (omega arith) c.span_limit.ensures c.from-span.ensures c.if-span-span_limit.false) in
    let near : greatest (map (told_span (rows d c.args.u.now)) t) ≤ span_limit d = omega (arith, c.widest_image.ensures, within) in
    let k : AreImages d (rows d c.args.u.now) t c.in-Ok.classes.items = c.in-Ok.ensures in
    let v = inverse_at d c.args.u.now t h c.requires.inverse in
    let a = c.in-Err-OpenFacet.ensures.open c.in-Err-OpenFacet.field-0-0 c.in-Err-OpenFacet.field-0-1 (ap Err c.in-Err-OpenFacet.field-0-is) in
    let o : IsOpenAnswer d c.in-Ok.classes.items c.in-Err-OpenFacet.field-0-0 c.in-Err-OpenFacet.field-0-1 = subst (λ (m : ℕ). IsOpenAnswer m c.in-Ok.classes.items c.in-Err-OpenFacet.field-0-0 c.in-Err-OpenFacet.field-0-1) (told_dimension d (rows d c.args.u.now) t c.in-Ok.classes.items h k) a in
    none_open d (rows d c.args.u.now) v.0 t c.in-Ok.classes.items c.in-Err-OpenFacet.field-0-0 c.in-Err-OpenFacet.field-0-1 h (rows_square d c.args.u.now (square_at d c.args.u.now t h c.requires.square)) v.1 k near o

pub returns-in-Ok-of-clause-made : goal.returns-in-Ok-of-clause-made
returns-in-Ok-of-clause-made c =
    let d = c.dimension-d.result in
    let t = c.args.t.now in
    let h : IsTriangulation d t = c.dimension-d.ensures in
    let v = inverse_at d c.args.u.now t h c.requires.inverse in
    let k : AreImages d (rows d c.args.u.now) t c.in-Ok.classes.items = c.in-Ok.ensures in
    let all : Carries d (rows d c.args.u.now) t c.in-Ok-of.made = carried_list d (rows d c.args.u.now) v.0 t c.in-Ok.classes.items c.in-Ok-of.made (rows_square d c.args.u.now (square_at d c.args.u.now t h c.requires.square)) v.1 k c.in-Ok-of.ensures.made in
    subst (λ (m : ℕ). Carries m (rows m c.args.u.now) t c.in-Ok-of.made) (sym (dimension_is d t h)) all
