-- Why the parts of an input were not merged.
use Rattle.std.proofs.Common.{◌≡◌, ℕ, ◌-◌, List, inr, length, take, drop, arith}
use Rattle.std.proofs.lemmas.List.{take_all, length-drop}
use Rattle.lt_model.specs.Atlases.{Atlas}
use Rattle.lt_read.specs.Reading.{IsRead}
use Rattle.ltypes.specs.declared.status.Cause.{Cause}
use Rattle.ltypes.specs.declared.status.Cause.TheVariants.{MergeRefused, Memory}
use Rattle.ltypes.specs.Merges.{IsDivision, IsPartUnread, IsUnmerged}

-- what stands from a place on
pub rest_of : (bytes : List ℕ) (place : ℕ) → take (length bytes - place) (drop place bytes) ≡ drop place bytes
rest_of bytes place = take_all (length bytes - place) (drop place bytes) (omega (arith, length-drop place bytes))

-- the first part was read and the second wasn't
pub second_unread : (d : ℕ) (bytes : List ℕ) (place : ℕ) (s : Atlas) (cause : Cause) → IsDivision bytes place → IsRead 2 d (take place bytes) s → IsPartUnread d 2 (drop place bytes) cause → IsUnmerged d bytes cause
second_unread d bytes place s (MergeRefused p refusal) division read why = inr (why.0, (place, s, division, read, why.1))
second_unread d bytes place s Memory division read why = why
second_unread d bytes place s _ division read why = absurd why
