-- What a text of an atlas spells, in each version.
use Rattle.std.specs.Prelude.{◌≡◌, ◌⊎◌, ℕ, suc, nat_eq, cond, List, [], ◌∷◌, map, get_or}
use Rattle.lt_model.specs.Flat.{flat}
use Rattle.lt_model.specs.Negatives.{half}
use Rattle.lt_model.specs.Atlases.{Classes, Mark, open_mark, cross, wide, heavy, Entry, Atlas}
use Rattle.lt_grammar.specs.Texts as spelt
use Rattle.lt_text.specs.Texts.{class_numbers, atlas_text}

abbrev pub mark_value : Mark → spelt.Mark
mark_value open_mark = spelt.open_mark
mark_value (cross k u) = spelt.cross k (flat u)
mark_value (wide s n) = spelt.wide n (class_numbers s)
mark_value (heavy w) = spelt.heavy w

-- there are two versions
abbrev pub IsVersion : ℕ → Type 0
IsVersion version = (version ≡ 1) ⊎ (version ≡ 2)

-- the classes that a text of a version lists: all of them in version 1, and else of each pair of a class and that of its negatives
-- the one that comes first
abbrev pub listed : ℕ → Classes → Classes
listed version t = cond (nat_eq version 1) t (half t)

abbrev pub entry_value : ℕ → Entry → List Mark → spelt.Entry
entry_value version e ms = record {
  origin = e.origin;
  classes = map class_numbers (listed version e.triangulation);
  cone = e.cone;
  marks = map mark_value ms;
}

-- the entries from the number k on
abbrev pub entries_value : ℕ → List (List Mark) → ℕ → List Entry → List spelt.Entry
entries_value version marks k [] = []
entries_value version marks k (e ∷ es) =
    entry_value version e (get_or marks k []) ∷ entries_value version marks (suc k) es

abbrev pub value_of : ℕ → Atlas → spelt.Text
value_of version a =
    record { dimension = a.dimension; entries = entries_value version a.marks 0 a.entries }

-- the text of an atlas in a version
abbrev pub text_in : ℕ → Atlas → List ℕ
text_in version a = spelt.text version (value_of version a)

-- the text of an atlas is that of version 2
abbrev pub AtlasesAreSpelt : Type 0
AtlasesAreSpelt = (a : Atlas) → atlas_text a ≡ text_in 2 a
