-- Being equivalent goes back and on.
use Rattle.std.proofs.Common.{ℕ}
use Rattle.lt_model.specs.Matrices.{identity, times, Carries, AreEquivalent}
use Rattle.lt_model.specs.Atlases.{Classes}
use Rattle.lt_model.specs.RightAtlases.{AreClasses}
use Rattle.lt_geometry.proofs.Images as images

pub carries_identity : (d : ℕ) (t : Classes) → AreClasses d t → Carries d (identity d) t t
carries_identity d t h = images.carries_itself d t h

pub carries_back : (d : ℕ) (t t' : Classes) → AreClasses d t → AreEquivalent d t t' → AreEquivalent d t' t
carries_back d t t' h (u, c) = (c.inverse, images.carries_back d u t t' h c)

pub carries_on : (d : ℕ) (t t' t2 : Classes) → AreClasses d t → AreEquivalent d t t' → AreEquivalent d t' t2 → AreEquivalent d t t2
carries_on d t t' t2 h (u, c) (v, e) = (times v u, images.carries_twice d u v t t' t2 h c e)
