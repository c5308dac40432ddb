-- What a drill finds: its entries match their scrambled images, its text is read again where it isn't too long, and how it ends.
use Rattle.std.proofs.Common.{◌≡◌, ℕ, ℤ, ◌+◌, ◌*◌, ◌<◌, ◌≤◌, refl, arith, sym, ap, ◌∙◌, subst, inl, inr, List, [], ◌++◌, length, true, length-append}
use Rattle.std.specs.Prelude.{Option, Some, None, Result, MatchOption, is_some}
use Rattle.std.proofs.lemmas.Bool.{cases_lt}
use Rattle.lt_io.specs.Bytes.{AppendsFront, Wrote}
use Rattle.lt_io.proofs.Compose.{nothing_appended}
use Rattle.lt_model.specs.Atlases.{Atlas, begin}
use Rattle.lt_model.specs.Limits.{input_limit}
use Rattle.lt_model.specs.Logs.{IsKept}
use Rattle.lt_model.specs.Matrices.{AreEquivalent}
use Rattle.lt_model.specs.Flat.{rows}
use Rattle.lt_model.specs.Walls.{IsAcross}
use Rattle.lt_geometry.proofs.Images.{carries_back}
use Rattle.lt_crew.specs.Runs.{IsRunOf, AreBelow, IsSettledBelow}
use Rattle.lt_triang.specs.Kept.{IsTriangulation, dimension_of}
use Rattle.lt_match.proofs.Tested.{dimension_is}
use Rattle.lt_drill.specs.Scrambles.{IsScrambleOf}
use Rattle.lt_read.specs.Laws.{IsOfRun, IsResumed, resumed}
use Rattle.lt_read.specs.Reading.{IsRead, ReadsAtlas, IsWhyUnread}
use Rattle.lt_read.specs.Refused.{IsFirstRefusal}
use Rattle.lt_read.specs.declared.refusals.ReadError.TheVariants as read
use Rattle.lt_read.specs.declared.refusals.Refusal.{Refusal}
use Rattle.lt_read.specs.declared.refusals.Refusal.TheVariants.{TooLong}
use Rattle.lt_read.proofs.Exact.{one_refusal_of_bytes}
use Rattle.lt_read.proofs.Resumed.{written_resumed, start_free}
use Rattle.lt_text.specs.Texts.{atlas_text}
use Rattle.lt_text.specs.Values.{text_in}
use Rattle.lt_text.proofs.AsSpelt.{as_spelt}
use Rattle.lt_words.specs.Grammar.{IsDimension}
use Rattle.ltypes.specs.declared.status.Cause.{Cause}
use Rattle.ltypes.specs.declared.status.Cause.TheVariants.{Refused, Memory}
use Rattle.ltypes.specs.Changes.{change}
use Rattle.ltypes.specs.Drills.{IsDrilled, AreDrilled, IsUnread, IsUndrilled, AnswersDrill}
use Rattle.ltypes.proofs.Ending.{is_run}

-- ---- matching

-- a triangulation matches each of its scrambled images
pub image_matches : (d x : ℕ) (t image : List (List (List ℤ))) (u : List ℤ) (r : Option (List ℤ)) (P : List ℤ → Type 0) → IsTriangulation d t → IsScrambleOf t x u image → dimension_of image ≡ dimension_of t →
    MatchOption r (AreEquivalent (dimension_of image) image t → ⊥) P → is_some r ≡ true
image_matches d x t image u (Some v) P h s same m = refl
image_matches d x t image u None P h s same m =
    let n = dimension_of t in
    let k : IsTriangulation n t = subst (λ (e : ℕ). IsTriangulation e t) (sym (dimension_is d t h)) h in
    let carries = s.is_image.carries in
    absurd (m (subst (λ (e : ℕ). AreEquivalent e image t) (sym same) (carries.inverse, carries_back n (rows n u) t image k.classes carries)))

-- ---- reading again

-- more bytes than the limit stand at the front of a text that is too long
pub front_too_long : (limit : ℕ) (held text : List ℕ) → AppendsFront (Some []) (Some held) text → limit < length held → limit < length text
front_too_long limit held text (front, back, all, is) more =
    let whole : length front + length back ≡ length text = sym (length-append front back) ∙ ap length all in
    let part : length held ≡ length front = ap length is in
    omega (arith, whole, part, more)

-- the same, of what a sink gained that held nothing
pub gained_too_long : (d limit : ℕ) (old held text : List ℕ) → old ≡ [] → limit ≡ input_limit d → AppendsFront (Some old) (Some held) text → limit < length held → input_limit d < length text
gained_too_long d limit old held text none same front more =
    let long = front_too_long limit held text (subst (λ (l : List ℕ). AppendsFront (Some l) (Some held) text) none front) more in
    omega (arith, long, same)

pub gained_all : (old held text : List ℕ) → old ≡ [] → held ≡ old ++ text → held ≡ text
gained_all old held text none all = all ∙ ap (λ (l : List ℕ). l ++ text) none

module _ (d : ℕ) (a : Atlas) (run : IsOfRun a) (at : a.dimension ≡ d) (few : length a.entries ≤ 100001) where
  is_resumed : length (atlas_text a) ≤ input_limit d → IsResumed 2 a
  is_resumed short = written_resumed a run few (subst (λ (n : ℕ). length (atlas_text a) ≤ input_limit n) (sym at) short)

  module _ (held : List ℕ) (left : Option (List ℕ)) (spelt : held ≡ atlas_text a) where
    pub read_short : (b : Atlas) → ReadsAtlas 2 d (Some held) left b → length (atlas_text a) ≤ input_limit d
    read_short b (bytes, taken, is) =
        let same : length bytes ≡ length (atlas_text a) = ap length (sym taken.left ∙ spelt) in
        let within = is.within in
        omega (arith, same, within)

    -- what is read is the atlas with its entries and crosses
    pub read_resumed : (b : Atlas) → ReadsAtlas 2 d (Some held) left b → b ≡ resumed a
    read_resumed b (bytes, taken, is) =
        let same : bytes ≡ text_in 2 a = sym taken.left ∙ spelt ∙ as_spelt a in
        (is_resumed (read_short b (bytes, taken, is))).only b
        (subst (λ (n : ℕ). IsRead 2 n (text_in 2 a) b) (sym at) (subst (λ (l : List ℕ). IsRead 2 d l b) same is))

    -- and it is refused only where it is too long
    pub refused_long : (before now : ℕ) (r : Refusal) → IsWhyUnread 2 d (Some held) left before now (read.Refused r) → IsUnread d a (Refused r)
    refused_long before now r (bytes, taken, is) =
        let same : bytes ≡ text_in 2 a = sym taken.left ∙ spelt ∙ as_spelt a in
        let first : IsFirstRefusal 2 d (text_in 2 a) r = subst (λ (l : List ℕ). IsFirstRefusal 2 d l r) same is in
        elim (cases_lt (input_limit d) (length (atlas_text a))) [
          | inl long ↦
              let there : IsFirstRefusal 2 d (text_in 2 a) TooLong = subst (λ (l : List ℕ). input_limit d < length l) (as_spelt a) long in
              subst (λ (s : Refusal). IsUnread d a (Refused s)) (one_refusal_of_bytes 2 d (text_in 2 a) TooLong r (inr refl) there first) long
          | inr short ↦ absurd ((is_resumed short).accepted r (subst (λ (n : ℕ). IsFirstRefusal 2 n (text_in 2 a) r) (sym at) first))
        ]

-- ---- the end

-- an atlas after its turns is one of a run
pub drilled_run : (d seed turns : ℕ) (a : Atlas) → IsDimension d → IsDrilled d seed turns a → IsOfRun a
drilled_run d seed turns a (low, high) h =
    let same = sym h.dimension in
    record {
      low = subst (λ (z : ℕ). 2 ≤ z) same low;
      high = subst (λ (z : ℕ). z ≤ 6) same high;
      kept = subst (λ (z : ℕ). IsKept (IsAcross z) a) same h.kept;
      began = start_free d (begin a) h.begins;
    }

-- the two atlases of a drill: s is what the text of a was read as, and b is that of the run from s
pub are_drilled : (d seed turns : ℕ) (a s b : Atlas) → IsDrilled d seed turns a → length (atlas_text a) ≤ input_limit d → s ≡ resumed a → IsRunOf s b → AreBelow (2 * turns + 100) b.log → IsSettledBelow (2 * turns + 100) b →
    IsKept (IsAcross b.dimension) b → AreDrilled d seed turns a b
are_drilled d seed turns a s b h short same run below settled kept =
    record { drilled = h; short = short; run = is_run d 1 (2 * turns + 100) (resumed a) b h.dimension (run.begins ∙ same) below run.settled (λ _. run.order) kept; settled = settled }

-- the atlas that is read is one from which a run may go on
pub unrun : (a s : Atlas) → s ≡ resumed a → s.log ≡ []
unrun a s same = ap (λ (z : Atlas). z.log) same

pub as_many : (a s : Atlas) → s ≡ resumed a → length s.entries ≡ length a.entries
as_many a s same = ap (λ (z : Atlas). length z.entries) same

-- where there is nothing to write, the cause is the answer
pub undrilled : (d seed turns before now : ℕ) (held : Option (List ℕ)) (cause : Cause) → IsUndrilled d seed turns cause → AnswersDrill d seed turns (change held held before now) cause
undrilled d seed turns before now held cause (inl e) = subst (λ (c : Cause). AnswersDrill d seed turns (change held held before now) c) (sym e) (nothing_appended held)
undrilled d seed turns before now held (Refused r) (inr (a, drilled, why)) = (a, drilled, why, nothing_appended held)
undrilled d seed turns before now held Memory (inr (a, drilled, why)) = nothing_appended held
undrilled d seed turns before now held _ (inr (a, drilled, why)) = absurd why

-- what is written, by another name
pub told : {T E : Type 0} (a b : Option (List ℕ)) (r : Result T E) (x y : List ℕ) → x ≡ y → Wrote a b r x → Wrote a b r y
told a b r x y same w = subst (λ (l : List ℕ). Wrote a b r l) same w
