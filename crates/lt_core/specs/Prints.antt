-- The fingerprints that an atlas keeps.
use Rattle.std.specs.Prelude.{ℕ, ℤ, ◌+◌, ◌*◌, ◌^◌, ◌%◌, ◌<◌, ◌≡◌, List, [], ◌∷◌, length, get_or, nat_abs}
use Rattle.lt_colour.specs.Signatures.{IsFingerprint}
use Rattle.lt_model.specs.Atlases.{Entry, entry_at}

-- the fingerprints of the triangulations of the entries, in the order of entries
pub record ArePrints (d : ℕ) (es : List Entry) (prints : List (List ℤ)) : Type 0 where
  pub count : length prints ≡ length es
  pub each : (k : ℕ) → k < length es → IsFingerprint d (entry_at es k).triangulation (get_or prints k [])

-- the last bits of the numbers, without their signs, as digits to the base 257 after the number h, and of these the last forty bits
abbrev pub digest_after : ℕ → List ℤ → ℕ
digest_after h [] = h
digest_after h (x ∷ xs) = digest_after ((257 * h + nat_abs x % 256) % 2 ^ 40) xs

abbrev pub digest_of : List ℤ → ℕ
digest_of xs = digest_after 0 xs
