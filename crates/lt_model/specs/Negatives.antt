-- Negatives of classes. The map of x to -x takes each Delaunay triangulation onto itself.
use Rattle.std.specs.Prelude.{Bool, ℤ, negsuc, ◌-◌, List, [], map, length, get_or, reverse}
use Rattle.std.specs.List.{filter}
use Rattle.std.specs.Ordering.{is_lt}
use Rattle.lt_model.specs.Order.{simplex_cmp}
use Rattle.lt_model.specs.Vectors.{scale}
use Rattle.lt_model.specs.Simplices.{translate}

-- the negatives of the points
abbrev pub negated : List (List ℤ) → List (List ℤ)
negated s = map (scale (negsuc 0)) s

-- the class of the negatives of the points of a class: turned round they ascend, and the last of the points takes the least to 0
abbrev pub negative : List (List ℤ) → List (List ℤ)
negative s = translate (get_or s (length s - 1) []) (reverse (negated s))

-- whether a class comes before that of its negatives
abbrev pub comes_first : List (List ℤ) → Bool
comes_first s = is_lt (simplex_cmp s (negative s))

-- of each pair of a class and that of its negatives the one that comes first
abbrev pub half : List (List (List ℤ)) → List (List (List ℤ))
half t = filter comes_first t
