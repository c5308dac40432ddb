-- What an atlas says of the triangulations that are reached.
use Rattle.std.specs.Prelude.{ℕ, ◌<◌, ◌≡◌, List, length}
use Rattle.lt_model.specs.Matrices.{AreEquivalent}
use Rattle.lt_model.specs.Atlases.{Classes, Entry, entry_at}

-- exactly one entry is equivalent to t
pub record IsOneEntry (d : ℕ) (es : List Entry) (t : Classes) (k : ℕ) : Type 0 where
  pub present : k < length es
  pub equivalent : AreEquivalent d t (entry_at es k).triangulation
  pub alone : (l : ℕ) → l < length es → AreEquivalent d t (entry_at es l).triangulation → l ≡ k
