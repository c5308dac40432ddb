-- What sources and sinks are seen as, and what the calls of those in memory do.
use Rattle.std.specs.Prelude.{◌≡◌, ◌⊎◌, ◌↔◌, ℕ, ◌-◌, ◌<◌, List, ◌++◌, length, take, drop, min, Result, IsErr, IfOk, OnErr}
use Rattle.std.specs.List.{Contains}
use Rattle.lt_io.specs.Causes.{one_more}

-- the bytes left, the most bytes of a call, the numbers of the calls that fail, and the calls and faults so far
pub record Incoming : Type 0 where
  pub left : List ℕ
  pub piece : ℕ
  pub fail : List ℕ
  pub calls : ℕ
  pub faults : ℕ

-- the bytes written, the room for bytes, the most bytes of a call, the numbers of the calls that fail, and the
-- calls and faults so far
pub record Outgoing : Type 0 where
  pub held : List ℕ
  pub room : ℕ
  pub piece : ℕ
  pub fail : List ℕ
  pub calls : ℕ
  pub faults : ℕ

-- another sink, and the bytes that wait for it
pub record Gathered (K : Type 0) : Type 0 where
  pub sink : K
  pub waiting : List ℕ

-- the bytes that wait in a block, and how often it had no room
pub record Waiting : Type 0 where
  pub held : List ℕ
  pub faults : ℕ

-- a call that takes bytes to a buffer of this size
pub record Takes {E : Type 0} (old new : Incoming) (size : ℕ) (result : Result ℕ E) : Type 0 where
  pub fails : IsErr result ↔ Contains old.fail old.calls
  pub count : IfOk result (λ k. k ≡ min (min (length old.left) size) old.piece)
  pub ok : IfOk result (λ k. new ≡ record old { left = drop k old.left; calls = one_more old.calls })
  pub err : OnErr result (new ≡ record old { calls = one_more old.calls; faults = one_more old.faults })

-- a call that is given bytes: it fails at the named calls, and where bytes meet no room
pub record Puts {E : Type 0} (old new : Outgoing) (bytes : List ℕ) (result : Result ℕ E) : Type 0 where
  pub fails : IsErr result ↔ (Contains old.fail old.calls ⊎ ((length old.held ≡ old.room) × (0 < length bytes)))
  pub count : IfOk result (λ k. k ≡ min (min (length bytes) (old.room - length old.held)) old.piece)
  pub ok : IfOk result (λ k. new ≡ record old { held = old.held ++ take k bytes; calls = one_more old.calls })
  pub err : OnErr result (new ≡ record old { calls = one_more old.calls; faults = one_more old.faults })
