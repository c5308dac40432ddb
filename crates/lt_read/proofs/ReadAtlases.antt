-- The atlas of a text that has passed all checks, and the answers of reading.
use Rattle.std.proofs.Common.{◌≡◌, ℕ, zero, suc, ◌+◌, ◌<◌, ◌≤◌, refl, sym, ap, ◌∙◌, subst, arith, List, ◌++◌, length, take}
use Rattle.std.specs.Prelude.{Option, Some, None, Result}
use Rattle.std.specs.Result.{IfErr, IsErrAnd}
use Rattle.std.specs.Io.KnownBytes.{Consumes}
use Rattle.std.proofs.lemmas.List.{take_all, take-append-le, append-nil, length-append}
use Rattle.lt_scan.proofs.Refusals.{at_exit}
use Rattle.lt_io.specs.Whole.{ReadsAll, WhyNotAll}
use Rattle.lt_io.specs.declared.source.ReadAllError.{ReadAllError}
use Rattle.lt_io.specs.declared.source.ReadAllError.TheVariants as source
use Rattle.lt_model.specs.Limits.{input_limit}
use Rattle.lt_model.specs.Atlases as model
use Rattle.lt_model.specs.Atlases.{Classes}
use Rattle.lt_model.specs.RightAtlases.{IsRight, fresh_atlas}
use Rattle.lt_model.specs.Walls.{IsAcross}
use Rattle.lt_grammar.specs.Texts.{Mark, Entry, Text, text}
use Rattle.lt_grammar.specs.Ranges.{TextFits}
use Rattle.lt_grammar.specs.Parsed.{IsWhy}
use Rattle.lt_grammar.specs.declared.parsed.ParseError.{ParseError}
use Rattle.lt_grammar.specs.declared.parsed.ParseError.TheVariants as parse
use Rattle.lt_read.specs.Refused.{entry_at, at, Lists, IsListed, IsRefused, IsFirstRefusal}
use Rattle.lt_read.specs.Built.{triangulations, AreMarks, AreBuilt}
use Rattle.lt_read.specs.Stops.{IsStop}
use Rattle.lt_read.specs.Errors.{of_source, of_parse, of_stop}
use Rattle.lt_read.specs.Reading.{read_marks, IsAtlasOf, AreTaken, ReadsAtlas, IsWhyUnread}
use Rattle.lt_read.specs.declared.refusals.Stop.{Stop}
use Rattle.lt_read.specs.declared.refusals.Stop.TheVariants as stop
use Rattle.lt_read.specs.declared.refusals.ReadError.{ReadError}
use Rattle.lt_read.specs.declared.refusals.Refusal.{Refusal}
use Rattle.lt_read.specs.declared.refusals.Refusal.TheVariants.{TooLong, Syntax, OtherDimension, NotPrincipal, BadOrigin, BadSimplices, BadCone, BadCross, Twin}
use Rattle.lt_read.proofs.Passing.{tri}

-- ---- the atlas of a text

listed_classes : (version d : ℕ) (es : List Entry) (ts : List Classes) (k : ℕ) (t : Classes) → IsListed version d es ts k t → Lists version (entry_at es k).classes t
listed_classes version d es ts zero t h = h.1
listed_classes version d es ts (suc k) t (o, x, l, c) = c

pub atlas_is : (version : ℕ) (t : Text) (bs : List model.Entry) (mss : List (List Mark)) (ms : List (List model.Mark)) → AreBuilt version t.dimension t.entries bs → AreMarks t.entries mss → length bs ≡ length t.entries → ms ≡ read_marks t → IsAtlasOf version t (fresh_atlas t.dimension bs ms)
atlas_is version t bs mss ms built marks whole is = record {
  count = whole;
  entries = λ k l.
      let here : k < length bs = omega (arith, l, whole) in
      record {
        cone = built.cones k here;
        origin = built.origins k here;
        listed = subst (Lists version (entry_at t.entries k).classes) (tri version t.dimension t.entries bs mss built marks k here) (listed_classes version t.dimension t.entries (triangulations bs) k (at (triangulations bs) k) (built.passed.listed k here));
      };
  fresh = ap (fresh_atlas t.dimension bs) is;
}

-- ---- the bytes of a source

pub all_taken : (old new : Option (List ℕ)) (bytes : List ℕ) (limit : ℕ) → ReadsAll old new bytes limit → AreTaken old new bytes limit
all_taken None new bytes limit h = record { left = tt; taken = tt; at_end = λ l. h.at_end }
all_taken (Some told) None bytes limit h = absurd h.taken
all_taken (Some told) (Some rest) bytes limit h =
    let n = h.within in
    record {
      left = h.taken ∙ ap (λ r. bytes ++ r) h.at_end ∙ append-nil bytes;
      taken = h.taken ∙ ap (λ b. b ++ rest) (sym (take_all (limit + 1) bytes (omega (arith, n))));
      at_end = λ l. h.at_end;
    }

pub too_long : (old new : Option (List ℕ)) (taken : List ℕ) (limit : ℕ) → Consumes old new taken → length taken ≡ limit + 1 → (bytes : List ℕ) × AreTaken old new bytes limit × (limit < length bytes)
too_long None new taken limit h n = (taken, record { left = tt; taken = tt; at_end = λ l. absurd (omega (arith, l, n)) }, omega (arith, n))
too_long (Some told) None taken limit h n = absurd h
too_long (Some told) (Some rest) taken limit h n =
    let long : length told ≡ limit + 1 + length rest = ap length h ∙ length-append taken rest ∙ ap (λ m. m + length rest) n in
    let front : take (limit + 1) told ≡ taken = ap (take (limit + 1)) h ∙ take-append-le (limit + 1) taken rest (omega (arith, n)) ∙ take_all (limit + 1) taken (omega (arith, n)) in
    (told, record { left = refl; taken = h ∙ ap (λ b. b ++ rest) (sym front); at_end = λ l. absurd (omega (arith, l, long)) }, omega (arith, long))

-- ---- why nothing is read

first_refusal : (version d : ℕ) (bytes : List ℕ) (t : Text) (r : Refusal) → length bytes ≤ input_limit d → TextFits t → t.dimension ≡ d → bytes ≡ text version t → IsRefused version d t.entries r → IsFirstRefusal version d bytes r
first_refusal version d bytes t TooLong l f e is h = absurd h
first_refusal version d bytes t (Syntax line) l f e is h = absurd h
first_refusal version d bytes t (OtherDimension found) l f e is h = absurd h
first_refusal version d bytes t NotPrincipal l f e is h = (l, (t, f, e, is, h))
first_refusal version d bytes t (BadOrigin k) l f e is h = (l, (t, f, e, is, h))
first_refusal version d bytes t (BadSimplices k) l f e is h = (l, (t, f, e, is, h))
first_refusal version d bytes t (BadCone k row) l f e is h = (l, (t, f, e, is, h))
first_refusal version d bytes t (BadCross k facet) l f e is h = (l, (t, f, e, is, h))
first_refusal version d bytes t (Twin i j matrix) l f e is h = (l, (t, f, e, is, h))

source_why : (version d : ℕ) (old new : Option (List ℕ)) (before now : ℕ) (e : ReadAllError) → WhyNotAll old new before now (input_limit d) e → IsWhyUnread version d old new before now (of_source e)
source_why version d old new before now source.Failed h = h
source_why version d old new before now source.TooLong (taken, h, n) = too_long old new taken (input_limit d) h n
source_why version d old new before now source.Memory h = tt

parse_why : (version d : ℕ) (old new : Option (List ℕ)) (before now : ℕ) (bytes : List ℕ) (e : ParseError) → ReadsAll old new bytes (input_limit d) → IsWhy version bytes d e → IsWhyUnread version d old new before now (of_parse e)
parse_why version d old new before now bytes (parse.Syntax line) all h = (bytes, all_taken old new bytes (input_limit d) all, (all.within, h))
parse_why version d old new before now bytes (parse.OtherDimension found) all h = (bytes, all_taken old new bytes (input_limit d) all, (all.within, h.0, h.1))
parse_why version d old new before now bytes parse.Memory all h = tt

-- the bytes are a text of the dimension
pub record AreText (version d : ℕ) (bytes : List ℕ) (t : Text) : Type 0 where
  pub fits : TextFits t
  pub dimension : t.dimension ≡ d
  pub spelt : bytes ≡ text version t

stop_why : (version d : ℕ) (old new : Option (List ℕ)) (before now : ℕ) (bytes : List ℕ) (t : Text) (s : Stop) → ReadsAll old new bytes (input_limit d) → AreText version d bytes t → IsStop version t.dimension t.entries s → IsWhyUnread version d old new before now (of_stop s)
stop_why version d old new before now bytes t (stop.Refused r) all h x =
    (bytes, all_taken old new bytes (input_limit d) all, first_refusal version d bytes t r all.within h.fits h.dimension h.spelt (subst (λ (n : ℕ). IsRefused version n t.entries r) h.dimension x))
stop_why version d old new before now bytes t stop.Memory all h x = tt

-- ---- what reading answers

module _ {A : Type 0} (version d : ℕ) (old new : Option (List ℕ)) (before now : ℕ) (r : Result A ReadError) where
  pub unread : (e : ReadAllError) → IsErrAnd r (λ y. y ≡ of_source e) → WhyNotAll old new before now (input_limit d) e → IfErr r (IsWhyUnread version d old new before now)
  unread e is h = at_exit r (IsWhyUnread version d old new before now) (of_source e) is (source_why version d old new before now e h)

  module _ (bytes : List ℕ) (all : ReadsAll old new bytes (input_limit d)) where
    pub no_text : (e : ParseError) → IsErrAnd r (λ y. y ≡ of_parse e) → IsWhy version bytes d e → IfErr r (IsWhyUnread version d old new before now)
    no_text e is h = at_exit r (IsWhyUnread version d old new before now) (of_parse e) is (parse_why version d old new before now bytes e all h)

    pub stopped : (t : Text) → AreText version d bytes t → (s : Stop) → IsErrAnd r (λ y. y ≡ of_stop s) → IsStop version t.dimension t.entries s → IfErr r (IsWhyUnread version d old new before now)
    stopped t h s is x = at_exit r (IsWhyUnread version d old new before now) (of_stop s) is (stop_why version d old new before now bytes t s all h x)

pub reads : (version d : ℕ) (old new : Option (List ℕ)) (bytes : List ℕ) (t : Text) (a : model.Atlas) → ReadsAll old new bytes (input_limit d) → AreText version d bytes t → IsAtlasOf version t a → IsRight (IsAcross a.dimension) a → ReadsAtlas version d old new a
reads version d old new bytes t a all h x right = (bytes, all_taken old new bytes (input_limit d) all, record { value = t; within = all.within; fits = h.fits; dimension = h.dimension; spelt = h.spelt; atlas = x; right = right })
