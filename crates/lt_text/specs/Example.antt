-- An atlas of dimension 2, all of whose facets are crossed, and its text.
use Rattle.std.specs.Prelude.{◌≡◌, ℤ, pos, negsuc, [], ◌∷◌, codes}
use Rattle.std.specs.declared.option.Option.TheVariants.{None}
use Rattle.lt_model.specs.Cones.{wall, Row}
use Rattle.lt_model.specs.Atlases.{Mark, cross, Entry, Atlas}
use Rattle.lt_text.specs.Texts.{atlas_text}

abbrev facet : ℤ → ℤ → ℤ → ℤ → ℤ → ℤ → Row
facet a b c x y z = record { normal = a ∷ b ∷ c ∷ []; verdict = wall (x ∷ y ∷ z ∷ []) }

abbrev crossed : ℤ → ℤ → ℤ → ℤ → Mark
crossed a b c d = cross 0 ((a ∷ b ∷ []) ∷ (c ∷ d ∷ []) ∷ [])

abbrev first : Entry
first = record {
  triangulation = ((pos 0 ∷ pos 0 ∷ []) ∷ (pos 0 ∷ pos 1 ∷ []) ∷ (pos 1 ∷ pos 1 ∷ []) ∷ []) ∷ ((pos 0 ∷ pos 0 ∷ []) ∷ (pos 1 ∷ pos 0 ∷ []) ∷ (pos 1 ∷ pos 1 ∷ []) ∷ []) ∷ [];
  cone = record {
    rows = facet (pos 0) (negsuc 0) (pos 0) (pos 1) (pos 0) (pos 1) ∷ facet (pos 0) (pos 1) (pos 2) (pos 2) (negsuc 1) (pos 1) ∷ facet (pos 2) (pos 1) (pos 0) (pos 1) (negsuc 1) (pos 2) ∷ [];
    form = pos 1 ∷ negsuc 0 ∷ pos 1 ∷ [];
  };
  origin = None;
}

abbrev example : Atlas
example = record {
  dimension = 2;
  entries = first ∷ [];
  marks = (crossed (pos 1) (pos 0) (pos 1) (pos 1) ∷ crossed (pos 1) (pos 0) (negsuc 0) (pos 1) ∷ crossed (pos 0) (pos 1) (pos 1) (negsuc 0) ∷ []) ∷ [];
  queue = [];
  log = [];
}

-- its 16 lines
abbrev pub ExampleIsSpelt : Type 0
ExampleIsSpelt = atlas_text example ≡ codes "ltypes 2\ndimension 2\nentries 1\nentry 0 start\nsimplices 1\n0 0 0 1 1 1\nregulators 3\nfacet 0 -1 0 wall 1 0 1\nfacet 0 1 2 wall 2 -2 1\nfacet 2 1 0 wall 1 -2 2\nform 1 -1 1\nmarks 3\ncross 0 1 0 1 1\ncross 0 1 0 -1 1\ncross 0 0 1 1 -1\nend\n"
