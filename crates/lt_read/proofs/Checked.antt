-- The entries of what was parsed that have passed: what the further checks ask and answer, and the atlas.
use Rattle.std.proofs.Common.{◌≡◌, ℕ, ℤ, ◌^◌, ◌<◌, ◌≤◌, sym, ◌∙◌, subst, arith, List, [], map, length, get_or}
use Rattle.std.proofs.lemmas.List.{length-map}
use Rattle.lt_model.specs.Walls.{IsAcross}
use Rattle.lt_model.specs.Atlases as model
use Rattle.lt_model.specs.Atlases.{Classes}
use Rattle.lt_model.specs.RightAtlases.{AreRight, fresh_atlas}
use Rattle.lt_triang.specs.Kept.{dimension_of, IsOfSomeForm}
use Rattle.lt_colour.specs.Signatures.{IsFingerprint}
use Rattle.lt_grammar.specs.Texts as text
use Rattle.lt_grammar.specs.Texts.{Mark}
use Rattle.lt_grammar.specs.Ranges.{TextFits}
use Rattle.lt_grammar.specs.Parsed.{mark_of, text_of}
use Rattle.lt_grammar.specs.declared.parsed.Parsed.{Parsed}
use Rattle.lt_grammar.proofs.Growing.{length-entries}
use Rattle.lt_core.specs.Marks.{entry_of}
use Rattle.lt_core.specs.Prints.{ArePrints}
use Rattle.lt_core.specs.declared.marks.Entry.{Entry}
use Rattle.lt_core.proofs.Printed.{form_print}
use Rattle.lt_read.specs.Refused.{IsRefused}
use Rattle.lt_read.specs.Built.{spelt_marks, spelt_at, AreSound, AreMarks, AreBuilt, kept_mark, IsSquareMark, AreAllRight, IsFirstWrong, HasNoTwin, IsFirstTwin}
use Rattle.lt_read.specs.Reading.{IsAtlasOf}
use Rattle.lt_read.specs.declared.refusals.Refusal.TheVariants.{BadCross, Twin}
use Rattle.lt_read.proofs.Parsing.{marks_spelt}
use Rattle.lt_read.proofs.Facets.{entry_within}
use Rattle.lt_read.proofs.Likes.{has_form}
use Rattle.lt_read.proofs.Crossed as crossed
use Rattle.lt_read.proofs.Paired as paired
use Rattle.lt_read.proofs.Counted.{one_each, all_square}
use Rattle.lt_read.proofs.Fitting.{all_read, none_stuck, few_marks}
use Rattle.lt_read.proofs.Right.{right_parts}
use Rattle.lt_read.proofs.ReadAtlases.{atlas_is}

-- all entries of what was parsed are built
pub record AreAllBuilt (version : ℕ) (p : Parsed) (xs : List Entry) : Type 0 where
  pub fits : TextFits (text_of p)
  pub paired : length p.entries.items ≡ length p.marks.items
  pub count : length xs ≡ length p.entries.items
  pub built : AreBuilt version p.d (text_of p).entries (map entry_of xs)
  pub sound : AreSound p.d (map entry_of xs)

module _ (version : ℕ) (p : Parsed) (xs : List Entry) (h : AreAllBuilt version p xs) where
  abbrev es : List text.Entry
  es = (text_of p).entries

  abbrev bs : List model.Entry
  bs = map entry_of xs

  abbrev mss : List (List Mark)
  mss = spelt_marks p.marks.items

  low : 2 ≤ p.d
  low = h.fits.0.0

  high : p.d ≤ 6
  high = let n = h.fits.0.1 in omega (arith, n)

  marks : AreMarks es mss
  marks = marks_spelt p.entries.items p.marks.items

  whole : length bs ≡ length es
  whole = length-map xs entry_of ∙ h.count ∙ sym (length-entries p.entries.items p.marks.items h.paired)

  long : length mss ≡ length p.marks.items
  long = length-map p.marks.items (λ ms. map mark_of ms.items)

  lists : length mss ≡ length es
  lists = long ∙ sym h.paired ∙ sym (length-entries p.entries.items p.marks.items h.paired)

  -- ---- crosses

  pub each : (k : ℕ) → k < length p.marks.items → length (get_or mss k []) ≡ length (model.facets (model.entry_at bs k))
  each k l = one_each version p.d es bs mss h.fits.1.1 h.built marks whole lists k (omega (arith, l, long))

  pub square : (q : ℕ × ℕ) → IsSquareMark p.d (spelt_at mss q)
  square = all_square version p.d es bs mss h.fits.1.1 h.built marks whole lists

  pub few_facets : (q : ℕ × ℕ) → IsFirstWrong p.d bs mss q → q.1 < 2 ^ 29
  few_facets q w =
      let f = w.facet in
      let few = few_marks version p.d es bs mss h.fits.1.1 h.built marks whole lists q.0 w.entry in
      omega (arith, f, few)

  pub refused_cross : (k f : ℕ) → IsFirstWrong p.d bs mss (k, f) → IsRefused version p.d es (BadCross k f)
  refused_cross = crossed.refused_cross version p.d es bs mss h.built marks whole lists

  -- ---- fingerprints

  pub some_form : (k : ℕ) → k < length xs → IsOfSomeForm (model.entry_at bs k).triangulation
  some_form k l = (h.sound k (entry_within xs k l)).form.delaunay

  pub prints : (ps : List (List ℤ)) → length ps ≡ length xs → ((k : ℕ) → k < length xs → let t = (model.entry_at bs k).triangulation in IsFingerprint (dimension_of t) t (get_or ps k [])) → ArePrints p.d bs ps
  prints ps n g =
      let m = length-map xs entry_of in
      record {
        count = n ∙ sym m;
        each = λ k l. form_print p.d (model.entry_at bs k).triangulation (get_or ps k []) (has_form p.d (model.entry_at bs k).triangulation (h.sound k l).form) (g k (omega (arith, l, m)));
      }

  -- ---- where all crosses are right

  module _ (right : AreAllRight p.d bs mss) where
    pub refused_twin : (i j : ℕ) (u : List ℤ) → IsFirstTwin p.d bs i j u → IsRefused version p.d es (Twin i j u)
    refused_twin i j u w = paired.refused_twin version p.d es bs mss h.built marks h.sound whole i j u (crossed.all_crossed version p.d es bs mss h.built marks whole lists right) w

    -- and no entry is equivalent to another
    pub right_atlas : ((i : ℕ) → i < length xs → HasNoTwin p.d bs i) → AreRight (IsAcross p.d) p.d bs (map (map kept_mark) mss)
    right_atlas none =
        right_parts version p.d (text_of p) bs mss h.fits (λ i. p.d) h.built h.sound marks whole lists right
        (let m = length-map xs entry_of in λ i l. none i (omega (arith, l, m)))

  -- ---- the atlas

  pub settled : model.stuck (map (map kept_mark) mss) ≡ 0
  settled = none_stuck mss

  pub read_atlas : (a : model.Atlas) → a ≡ fresh_atlas p.d bs (map (map kept_mark) mss) → IsAtlasOf version (text_of p) a
  read_atlas a is =
      subst (IsAtlasOf version (text_of p)) (sym is)
      (atlas_is version (text_of p) bs mss (map (map kept_mark) mss) h.built marks whole (all_read p.d p.entries.items p.marks.items low high h.paired h.fits.1.1))
