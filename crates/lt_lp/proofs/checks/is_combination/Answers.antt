use Rattle.std.proofs.Common.{refl, ◌≡◌, sym, ◌∙◌, subst, ◌<◌, ◌^◌, [], ◌∷◌, length, get_or, nat_abs, Bool, true, false}
use Rattle.std.proofs.lemmas.Int.{to_z-of_z}
use Rattle.std.proofs.lemmas.List.Elements.{All-cons}
use Rattle.lt_model.specs.Vectors.{IsPrimitive}
use Rattle.lt_model.specs.Cones.{AreBelow, coefficients}
use Rattle.lt_tableau.proofs.Turned.{get_or_any}
use Rattle.lt_lp.specs.Checks.{AreTerms}
use Rattle.lt_lp.proofs.Checked.{parts_right, right_parts, below_terms}
use Rattle.lt_lp.proofs.checks.is_combination.Goals as goal

no : (b : Bool) → b ≡ false → b ≡ true → ⊥
no true e f = cc
no false e f = cc

pub returns-then-not-are_in_range : goal.returns-then-not-are_in_range
returns-then-not-are_in_range c = λ d h.
    let ns = c.args.normals.now in
    let k = c.args.k in
    let z : c.index-normals-k.result ≡ get_or ns k [] = c.index-normals-k.is ∙ get_or_any ns k _ [] c.requires.place in
    let n : c.numbers.result.now ≡ get_or ns k [] = c.numbers.ensures.value ∙ z in
    let y = c.ranges.scale in
    let r = simp to_z-of_z at c.are_in_range.ensures in (
      (λ t. absurd (no false refl t)),
      (λ p. (let q = right_parts d ns k c.args.scale c.args.terms.now h c.requires.place p in
          absurd (no c.are_in_range.result c.if-not-are_in_range.true (r.1 (q.some, q.small, rw n q.few))))),
    )

pub returns-then-not-are_terms : goal.returns-then-not-are_terms
returns-then-not-are_terms c = λ d h.
    let ns = c.args.normals.now in
    let k = c.args.k in (
      (λ t. absurd (no false refl t)),
      (λ p. (let q = right_parts d ns k c.args.scale c.args.terms.now h c.requires.place p in
          absurd (no c.are_terms.result c.if-not-are_terms.true (c.are_terms.ensures.1 q.terms)))),
    )

pub is_primitive-requires-clause-below : goal.is_primitive-requires-clause-below
is_primitive-requires-clause-below c =
    let y = c.ranges.scale in
    let r = (simp to_z-of_z at c.are_in_range.ensures).0 c.if-not-are_in_range.false in
    let t : AreTerms 0 (length c.args.normals.now) c.args.k c.args.terms.now = c.are_terms.ensures.0 c.if-not-are_terms.false in
    let v : c.as_slice.result.now ≡ c.args.scale ∷ coefficients c.args.terms.now = c.as_slice.ensures.value ∙ (simp to_z-of_z at c.with_scale.ensures) in
    subst (AreBelow (2 ^ 62)) (sym v) (All-cons (λ x. nat_abs x < 2 ^ 62) c.args.scale (coefficients c.args.terms.now) r.1 (below_terms 0 (length c.args.normals.now) c.args.k c.args.terms.now t))

pub returns-then-not-is_primitive : goal.returns-then-not-is_primitive
returns-then-not-is_primitive c = λ d h.
    let ns = c.args.normals.now in
    let k = c.args.k in
    let y = c.ranges.scale in
    let v : c.as_slice.result.now ≡ c.args.scale ∷ coefficients c.args.terms.now = c.as_slice.ensures.value ∙ (simp to_z-of_z at c.with_scale.ensures) in (
      (λ t. absurd (no false refl t)),
      (λ p. (let q = right_parts d ns k c.args.scale c.args.terms.now h c.requires.place p in
          absurd (no c.is_primitive.result c.if-not-is_primitive.true (c.is_primitive.ensures.1 (subst IsPrimitive (sym v) q.primitive))))),
    )

pub returns : goal.returns
returns c = λ d h.
    let ns = c.args.normals.now in
    let k = c.args.k in
    let y = c.ranges.scale in
    let z : c.index-normals-k.result ≡ get_or ns k [] = c.index-normals-k.is ∙ get_or_any ns k _ [] c.requires.place in
    let n : c.numbers.result.now ≡ get_or ns k [] = c.numbers.ensures.value ∙ z in
    let r = (simp to_z-of_z at c.are_in_range.ensures).0 c.if-not-are_in_range.false in
    let t : AreTerms 0 (length ns) k c.args.terms.now = c.are_terms.ensures.0 c.if-not-are_terms.false in
    let v : c.as_slice.result.now ≡ c.args.scale ∷ coefficients c.args.terms.now = c.as_slice.ensures.value ∙ (simp to_z-of_z at c.with_scale.ensures) in
    let i : IsPrimitive (c.args.scale ∷ coefficients c.args.terms.now) = subst IsPrimitive v (c.is_primitive.ensures.0 c.if-not-is_primitive.false) in
    let m = simp to_z-of_z at c.sums_match.ensures in (
      (λ b. parts_right d ns k c.args.scale c.args.terms.now h c.requires.place record { some = r.0; small = r.1; few = rw n at r.2; terms = t; primitive = i; sums = m.0 b }),
      (λ p. m.1 (right_parts d ns k c.args.scale c.args.terms.now h c.requires.place p).sums),
    )
