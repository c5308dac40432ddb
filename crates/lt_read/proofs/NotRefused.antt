-- The text of a right atlas isn't refused.
use Rattle.std.proofs.Common.{◌≡◌, ℕ, ◌<◌, ◌≤◌, sym, subst, arith, List, length}
use Rattle.lt_model.specs.Cones.{IsRightCone, normals}
use Rattle.lt_model.specs.Walls.{IsAcross}
use Rattle.lt_model.specs.Atlases as model
use Rattle.lt_model.specs.Atlases.{Classes}
use Rattle.lt_model.specs.RightAtlases.{AreRight}
use Rattle.lt_cone.proofs.NoFault.{none_wrong}
use Rattle.lt_grammar.specs.Texts.{Entry}
use Rattle.lt_grammar.specs.Ranges.{EntriesFit}
use Rattle.lt_read.specs.Refused.{entry_at, at, IsCrossed, AreTwins, HavePassed, IsRefused}
use Rattle.lt_read.specs.Built.{triangulations}
use Rattle.lt_read.specs.declared.refusals.Refusal.{Refusal}
use Rattle.lt_read.specs.declared.refusals.Refusal.TheVariants.{TooLong, Syntax, OtherDimension, NotPrincipal, BadOrigin, BadSimplices, BadCone, BadCross, Twin}
use Rattle.lt_read.proofs.Passing.{listed_same}
use Rattle.lt_read.proofs.OnePassing.{one_listed, one_passed}
use Rattle.lt_read.proofs.Earlier.{same_front}
use Rattle.lt_read.proofs.Passed.{AreRead, came, listed, right_cone, passed, crossed, no_twins}

module _ (version d : ℕ) (es : List Entry) (bs : List model.Entry) (ms : List (List model.Mark)) (low : 2 ≤ d) (fits : EntriesFit d 0 es) (read : AreRead version d es bs ms) (h : AreRight (IsAcross d) d bs ms) where
  abbrev ts : List Classes
  ts = triangulations bs

  abbrev own : ℕ → Classes
  own k = (model.entry_at bs k).triangulation

  all : HavePassed version d es ts (length es)
  all = passed version d es bs ms fits read h

  same : (us : List Classes) (k : ℕ) → k < length es → HavePassed version d es us k → (i : ℕ) → i < k → at us i ≡ at ts i
  same us k l g = same_front version d es us ts k (length es) low (omega (arith, l)) g all

  whole : (us : List Classes) → HavePassed version d es us (length es) → us ≡ ts
  whole us g = one_passed version d es us ts (length es) low g all

  pub none_refused : (r : Refusal) → IsRefused version d es r → ⊥
  none_refused TooLong x = x
  none_refused (Syntax line) x = x
  none_refused (OtherDimension found) x = x
  none_refused NotPrincipal x = x (own 0) (listed version d es bs ms fits read h 0 (let o = h.occupied in let c = read.count in omega (arith, o, c)))
  none_refused (BadOrigin k) (us, g, l, ne, none) = none (came version d es bs ms fits read h k (omega (arith, ne)) l).0
  none_refused (BadSimplices k) (us, g, l, o, none) = none (own k) (listed_same version d es ts us k (own k) (λ i s. sym (same us k l g i s)) (listed version d es bs ms fits read h k l))
  none_refused (BadCone k row) (us, g, l, (t, x, f)) =
      let is : t ≡ own k = one_listed version d es us ts k t (own k) low (same us k l g) x (listed version d es bs ms fits read h k l) in
      let cone = (entry_at es k).cone in
      let right = subst (λ (z : Classes). IsRightCone d z cone) (sym is) (right_cone version d es bs ms fits read h k l) in
      none_wrong d t cone (normals cone.rows) row right.regulators right (f (normals cone.rows) right.regulators)
  none_refused (BadCross k f) (us, g, l, s, wrong, before) = wrong (subst (λ (z : List Classes). IsCrossed d es z (k, f)) (sym (whole us g)) (crossed version d es bs ms fits read h (k, f) l s))
  none_refused (Twin i j u) (us, g, c, twins, before, first, size) = no_twins version d es bs ms fits read h (i, j) (subst (λ (z : List Classes). AreTwins d z (i, j)) (whole us g) twins)
