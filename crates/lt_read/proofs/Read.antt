-- Bytes that are read as a right atlas aren't refused, and are read as one alone.
use Rattle.std.proofs.Common.{◌≡◌, ℕ, ◌^◌, inl, inr, ◌<◌, ◌≤◌, sym, ap, ◌∙◌, subst, arith, List, map, length, Option, lit<}
use Rattle.std.proofs.lemmas.List.{same_lists, get_or_default}
use Rattle.lt_model.specs.Cones.{Cone}
use Rattle.lt_model.specs.Walls.{IsAcross}
use Rattle.lt_model.specs.Atlases as model
use Rattle.lt_model.specs.Atlases.{Classes, Atlas}
use Rattle.lt_model.specs.RightAtlases.{AreRight, fresh_atlas}
use Rattle.lt_grammar.specs.Texts.{Entry, Text, text}
use Rattle.lt_grammar.specs.Ranges.{EntriesFit, TextFits}
use Rattle.lt_grammar.proofs.Laws.{one_value}
use Rattle.lt_core.proofs.Crossings.{HasForm, across_laws}
use Rattle.lt_core.proofs.Reaching.{entry_form}
use Rattle.lt_text.specs.Values.{IsVersion}
use Rattle.lt_read.specs.Refused.{entry_at, read_mark, IsRefused, IsFirstRefusal}
use Rattle.lt_read.specs.Reading.{IsEntryOf, read_marks, IsAtlasOf, IsRead}
use Rattle.lt_read.specs.Laws.{WhatIsReadIsNotRefused, BytesAreReadOnce}
use Rattle.lt_read.specs.declared.refusals.Refusal.{Refusal}
use Rattle.lt_read.specs.declared.refusals.Refusal.TheVariants.{TooLong, Syntax, OtherDimension, NotPrincipal, BadOrigin, BadSimplices, BadCone, BadCross, Twin}
use Rattle.lt_read.proofs.Passed.{AreRead}
use Rattle.lt_read.proofs.NotRefused.{none_refused}
use Rattle.lt_read.proofs.Halves.{same_listed}

small : (version : ℕ) → IsVersion version → version < 10 ^ 18
small version (inl e) = rw e (lit< tt)
small version (inr e) = rw e (lit< tt)

pub same_text : (version : ℕ) → IsVersion version → (t s : Text) → TextFits t → TextFits s → text version t ≡ text version s → t ≡ s
same_text version known t s p q e = one_value version t s (small version known) p q e

module _ (version d : ℕ) (known : IsVersion version) (bytes : List ℕ) (a : Atlas) (read : IsRead version d bytes a) where
  abbrev t : Text
  t = read.value

  pub size : a.dimension ≡ d
  size = ap (λ (z : Atlas). z.dimension) read.atlas.fresh ∙ read.dimension

  pub low : 2 ≤ d
  low = let l = read.fits.0.0 in let e = read.dimension in omega (arith, l, e)

  fits : EntriesFit d 0 t.entries
  fits = subst (λ (n : ℕ). EntriesFit n 0 t.entries) read.dimension read.fits.1.1

  marks : a.marks ≡ map (λ e. map (read_mark d) e.marks) t.entries
  marks = ap (λ (z : Atlas). z.marks) read.atlas.fresh ∙ ap (λ (n : ℕ). map (λ e. map (read_mark n) e.marks) t.entries) read.dimension

  are_read : AreRead version d t.entries a.entries a.marks
  are_read = record { count = read.atlas.count; entries = read.atlas.entries; marks = marks }

  pub parts : AreRight (IsAcross d) d a.entries a.marks
  parts = subst (λ (n : ℕ). AreRight (IsAcross n) n a.entries a.marks) size read.right.parts

  pub form : (k : ℕ) → k < length a.entries → HasForm d (model.entry_at a.entries k).triangulation
  form k l = entry_form (IsAcross d) d (across_laws d low) a.entries a.marks parts k l

  late : (r : Refusal) → ((s : Text) × TextFits s × (s.dimension ≡ d) × (bytes ≡ text version s) × IsRefused version d s.entries r) → ⊥
  late r x =
      let same : x.0 ≡ t = same_text version known x.0 t x.1 read.fits (sym x.3 ∙ read.spelt) in
      none_refused version d t.entries a.entries a.marks low fits are_read parts r (subst (λ (s : Text). IsRefused version d s.entries r) same x.4)

  not_refused : (r : Refusal) → IsFirstRefusal version d bytes r → ⊥
  not_refused TooLong h = let l = read.within in absurd (omega (arith, h, l))
  not_refused (Syntax line) (l, f) = f.outside (t, read.fits, read.spelt)
  not_refused (OtherDimension found) (l, ne, (s, p, e, is)) = ne (sym e ∙ ap (λ (z : Text). z.dimension) (same_text version known s t p read.fits (sym is ∙ read.spelt)) ∙ read.dimension)
  not_refused NotPrincipal (l, x) = late NotPrincipal x
  not_refused (BadOrigin k) (l, x) = late (BadOrigin k) x
  not_refused (BadSimplices k) (l, x) = late (BadSimplices k) x
  not_refused (BadCone k row) (l, x) = late (BadCone k row) x
  not_refused (BadCross k f) (l, x) = late (BadCross k f) x
  not_refused (Twin i j u) (l, x) = late (Twin i j u) x

pub read_not_refused : WhatIsReadIsNotRefused
read_not_refused version d bytes a r known read h = not_refused version d known bytes a read r h

-- ---- one atlas

abbrev made : Classes → Cone → Option (ℕ × ℕ) → model.Entry
made t k o = record { triangulation = t; cone = k; origin = o }

whole : (t u : Classes) (k l : Cone) (o p : Option (ℕ × ℕ)) → t ≡ u → k ≡ l → o ≡ p → made t k o ≡ made u l p
whole t u k l o p a b c = ap (λ z. made z k o) a ∙ ap (λ z. made u z o) b ∙ ap (made u l) c

same_entry : (version d : ℕ) (e : Entry) (b c : model.Entry) → 2 ≤ d → IsEntryOf version e b → IsEntryOf version e c → HasForm d b.triangulation → HasForm d c.triangulation → b ≡ c
same_entry version d e b c low h g p q =
    let t : b.triangulation ≡ c.triangulation = same_listed version d b.triangulation c.triangulation low p q (h.listed ∙ sym g.listed) in
    let k : b.cone ≡ c.cone = h.cone ∙ sym g.cone in
    let o : b.origin ≡ c.origin = h.origin ∙ sym g.origin in
    whole b.triangulation c.triangulation b.cone c.cone b.origin c.origin t k o

pub one_read : BytesAreReadOnce
one_read version d bytes a b known x y =
    let same : x.value ≡ y.value = same_text version known x.value y.value x.fits y.fits (sym x.spelt ∙ y.spelt) in
    let other : IsAtlasOf version x.value b = subst (λ (t : Text). IsAtlasOf version t b) (sym same) y.atlas in
    let count : length a.entries ≡ length b.entries = x.atlas.count ∙ sym other.count in
    let entries : a.entries ≡ b.entries = same_lists a.entries b.entries count (λ k e l.
    let here : k < length x.value.entries = (let n = x.atlas.count in omega (arith, l, n)) in
    let there : k < length b.entries = omega (arith, l, count) in
    get_or_default a.entries k e model.no_entry l
    ∙ same_entry version d (entry_at x.value.entries k) (model.entry_at a.entries k) (model.entry_at b.entries k) (low version d known bytes a x) (x.atlas.entries k here) (other.entries k here) (form version d known bytes a x k l) (form version d known bytes b y k there)
    ∙ get_or_default b.entries k model.no_entry e there) in
    x.atlas.fresh ∙ ap (λ (es : List model.Entry). fresh_atlas x.value.dimension es (read_marks x.value)) entries ∙ sym other.fresh
