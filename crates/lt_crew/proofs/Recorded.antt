-- What a worker knows becomes what a recording asks, where the copies stand.
use Rattle.std.proofs.Common.{◌≡◌, ℕ, ℤ, pos, ◌^◌, ◌<◌, ◌≤◌, arith, sym, ap, ◌∙◌, subst, List, length, take, false, inl, inr}
use Rattle.std.specs.Prelude.{nat_abs}
use Rattle.std.proofs.lemmas.List.{get_or-take, length-take}
use mir.Val.{SFits, to_z, of_z}
use mir.Syntax.{w128}
use Rattle.std.proofs.lemmas.Int.{ints, to_z-of_z}
use Rattle.lt_model.specs.Walls.{IsAcross, AreRegulators}
use Rattle.lt_model.specs.Limits.{weight}
use Rattle.lt_model.specs.Matrices.{AreEquivalent, Carries}
use Rattle.lt_model.specs.Cones.{Cone, IsRightCone}
use Rattle.lt_model.specs.Atlases.{Classes, Entry, Atlas, no_entry, open_mark, mark_at, cross, wide, heavy, entry_at, place_at, push, grow}
use Rattle.lt_model.specs.Logs.{IsKept, IsLegal, IsStuck, IsWide, IsHeavy, IsCandidate, IsUnlikeAll}
use Rattle.lt_triang.specs.Kept.{dimension_of}
use Rattle.lt_flip.specs.Flipped.{IsWideFlip}
use Rattle.lt_cone.specs.Errors.{IsHeavyCone}
use Rattle.lt_cone.specs.declared.error.ConeError.TheVariants.{Heavy}
use Rattle.lt_core.specs.Candidates.{candidate}
use Rattle.lt_crew.specs.declared.desk.Task.{Task}
use Rattle.lt_crew.specs.declared.desk.Test.{Test}
use Rattle.lt_match.specs.Matches.{IsFirstMatch}
use Rattle.lt_core.proofs.Equivalent.{carries_back, carries_on}
use Rattle.lt_crew.specs.Settled.{LiesAcross, IsNarrow, IsFirstKnown, IsSettled}
use Rattle.lt_crew.specs.Standing.{StandsAt}
use Rattle.lt_crew.specs.Tasks.{home_of, known_of, IsBeyond, IsCarried, IsTest, AreKnown}
use Rattle.lt_core.proofs.Reaching.{classes_of_form}
use Rattle.lt_crew.proofs.Beyond.{wide_here, narrow_form, ends_new}
use Rattle.std.proofs.Math.Nat.{min-le_left}
use Rattle.lt_crew.proofs.Prints.{other_print}
use Rattle.lt_crew.proofs.Places.{is_facet, form_here}
use Rattle.lt_crew.proofs.Beyond.{facet_here}
use Rattle.lt_crew.proofs.Standing.{beyond_across, beyond_narrow}

module _ (a : Atlas) (low : 2 ≤ a.dimension) (kept : IsKept (IsAcross a.dimension) a) (p : ℕ) (here : p < length a.queue) (t : Task) (s : StandsAt a p (dimension_of (home_of t)) (home_of t) t.normal) where
  -- a flip that is too wide
  pub wide_stuck : (c : List (List ℤ)) (n : ℤ) (m tested : ℕ) → IsWideFlip (dimension_of (home_of t)) (home_of t) t.normal c n → m ≡ nat_abs n → IsStuck (IsAcross a.dimension) a p tested (wide c m)
  wide_stuck c n m tested w e =
      let f = form_here a low kept p here (home_of t) s.triangulation in
      let facet = facet_here a p (dimension_of (home_of t)) (home_of t) t.normal s (is_facet a low kept p here) in
      let x = wide_here a p (home_of t) t.normal c n s low f facet w in
      let k : m ≡ x.1 = e ∙ ap nat_abs x.4 in
      record { no_cross = tt; across = x.0; is_across = x.2; cause = subst (λ (z : ℕ). IsWide a.dimension x.0 c z) (sym k) x.3 }

  -- and what settling records then
  pub wide_settled : (c : List (List ℤ)) (n : ℤ) (m : ℕ) (b : Atlas) → IsWideFlip (dimension_of (home_of t)) (home_of t) t.normal c n → m ≡ nat_abs n → b ≡ push a p (wide c m) → IsSettled a p b
  wide_settled c n m b w e g =
      let f = form_here a low kept p here (home_of t) s.triangulation in
      let facet = facet_here a p (dimension_of (home_of t)) (home_of t) t.normal s (is_facet a low kept p here) in
      let x = wide_here a p (home_of t) t.normal c n s low f facet w in
      let k : m ≡ x.1 = e ∙ ap nat_abs x.4 in
      record { across = x.0; is_across = x.2; end = inl (c, m, subst (λ (z : ℕ). IsWide a.dimension x.0 c z) (sym k) x.3, g) }

  module _ (r : Classes) (b : IsBeyond t r) where
    across : LiesAcross a p r
    across = beyond_across a p t r s b

    narrow : IsNarrow a.dimension r
    narrow = beyond_narrow a p t r s b

    module _ (test : Test) (h : IsTest r test) (known : AreKnown a test.print.items (known_of test) test.tested) where
      pub unlike : (i : ℕ) → i < test.tested → i < length a.entries → AreEquivalent a.dimension r (entry_at a.entries i).triangulation → ⊥
      unlike i l n e =
          other_print a low kept r narrow test.print.items h.print i n
          (λ f. let k = known i l n f in
          h.unlike k.0 k.1 (subst (λ (z : Classes). AreEquivalent (dimension_of r) r z) (sym k.2) (subst (λ (z : ℕ). AreEquivalent z r (entry_at a.entries i).triangulation) (sym narrow.dimension) e)))
          e

      module _ (most : test.tested ≤ length a.entries) where
        pub new_stands : (c : Cone) → IsRightCone (dimension_of r) r c → IsCandidate (IsAcross a.dimension) a p test.tested (candidate a p r c)
        new_stands c right = record {
          is_across = across;
          right = record { classes = classes_of_form a.dimension r (narrow_form a.dimension r narrow); narrow = narrow.narrow; cone = subst (λ (z : ℕ). IsRightCone z r c) narrow.dimension right };
          unlike = λ i l. unlike i l (omega (arith, l, most));
        }

        unlike_taken : IsUnlikeAll a.dimension r (take test.tested a.entries)
        unlike_taken i l e =
            let n = length-take test.tested a.entries in
            let k : i < test.tested = omega (arith, l, n, most) in
            let same : entry_at (take test.tested a.entries) i ≡ entry_at a.entries i = get_or-take test.tested a.entries i no_entry k in
            unlike i k (omega (arith, k, most)) (subst (λ (z : Entry). AreEquivalent a.dimension r z.triangulation) same e)

        pub heavy_stuck : (w : ℤ) → IsHeavyCone (dimension_of r) r (Heavy w) → IsStuck (IsAcross a.dimension) a p test.tested (heavy (nat_abs (to_z w128 (of_z w128 w))))
        heavy_stuck w h =
            let k : ℕ = weight (dimension_of r) h.0 in
            let least : k ≤ 2 ^ 120 = min-le_left (2 ^ 120) _ in
            let fits : SFits w128 (pos k) = omega (arith, ints, least) in
            let e : nat_abs (to_z w128 (of_z w128 w)) ≡ k = ap (λ (z : ℤ). nat_abs (to_z w128 (of_z w128 z))) h.2 ∙ ap nat_abs (to_z-of_z w128 (pos k) fits) in
            let there : IsHeavy a.dimension (take test.tested a.entries) r k = record {
              narrow = narrow.narrow;
              new = unlike_taken;
              normals = h.0;
              regulators = subst (λ (z : ℕ). AreRegulators z r h.0) narrow.dimension h.1;
              number = ap (λ (z : ℕ). weight z h.0) narrow.dimension;
              above = h.3;
            } in
            record { no_cross = tt; across = r; is_across = across; cause = subst (λ (z : ℕ). IsHeavy a.dimension (take test.tested a.entries) r z) (sym e) there }

        -- where the worker compared all entries, a new entry is what settling gives
        module _ (all : length a.entries ≤ test.tested) where
          unlike_all : IsUnlikeAll a.dimension r a.entries
          unlike_all i l = unlike i (omega (arith, l, all)) l

          pub new_settled : (next : Atlas) (c : Cone) → IsRightCone (dimension_of r) r c → next ≡ grow a p (candidate a p r c) → IsSettled a p next
          new_settled next c right e = ends_new a p r next across narrow c right unlike_all e

-- a carried triangulation makes a legal crossing
pub cross_legal : (a : Atlas) (p : ℕ) → p < length a.queue → (t : Task) → StandsAt a p (dimension_of (home_of t)) (home_of t) t.normal → (image : Classes) (u : List (List ℤ)) → IsCarried t image u → (k : ℕ) → k < length a.entries → (entry_at a.entries k).triangulation ≡ image
    → mark_at a.marks (place_at a.queue p) ≡ open_mark → IsLegal (IsAcross a.dimension) a a.entries (record { position = p; mark = cross k u; fresh = false })
cross_legal a p here t s image u x k l same o =
    let n = beyond_narrow a p t x.beyond s x.is_beyond in
    record {
      position = record { queued = here; undecided = o };
      across = x.beyond;
      is_across = beyond_across a p t x.beyond s x.is_beyond;
      cause = record { present = l; narrow = n.narrow; carries = subst (λ (z : Classes). Carries a.dimension u x.beyond z) (sym same) (subst (λ (z : ℕ). Carries z u x.beyond image) s.dimension x.first.first.«match».carries) };
    }

-- no two entries are equivalent, so an entry onto which t is carried is the first such
only_known : (a : Atlas) → IsKept (IsAcross a.dimension) a → (t : Classes) → IsNarrow a.dimension t → (k : ℕ) (u : List (List ℤ)) → k < length a.entries → IsFirstMatch a.dimension t (entry_at a.entries k).triangulation u → IsFirstKnown a t k u
only_known a kept t n k u l m = record { present = l; first = m; before = before } where
  before : (i : ℕ) → i < k → AreEquivalent a.dimension t (entry_at a.entries i).triangulation → ⊥
  before i h e =
      let there : i < length a.entries = omega (arith, h, l) in
      let back = carries_back a.dimension t (entry_at a.entries i).triangulation (classes_of_form a.dimension t (narrow_form a.dimension t n)) e in
      kept.right.parts.apart i k there l (λ same. omega (arith, h, same))
      (carries_on a.dimension (entry_at a.entries i).triangulation t (entry_at a.entries k).triangulation (kept.right.parts.entries i there).classes back (u, m.first.«match».carries))

-- and a crossing by the first matrix is what settling gives
pub cross_settled : (a : Atlas) → IsKept (IsAcross a.dimension) a → (p : ℕ) (t : Task) → StandsAt a p (dimension_of (home_of t)) (home_of t) t.normal → (image : Classes) (u : List (List ℤ)) → IsCarried t image u → (k : ℕ) → k < length a.entries → (entry_at a.entries k).triangulation ≡ image
    → (b : Atlas) → b ≡ push a p (cross k u) → IsSettled a p b
cross_settled a kept p t s image u x k l same b e =
    let n = beyond_narrow a p t x.beyond s x.is_beyond in
    let m = subst (λ (z : Classes). IsFirstMatch a.dimension x.beyond z u) (sym same) (subst (λ (z : ℕ). IsFirstMatch z x.beyond image u) s.dimension x.first) in
    record { across = x.beyond; is_across = beyond_across a p t x.beyond s x.is_beyond; end = inr (n.narrow, inl (k, u, only_known a kept x.beyond n k u l m, e)) }
