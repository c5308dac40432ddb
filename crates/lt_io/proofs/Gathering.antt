-- Bytes that wait and are given to another sink are held as before.
use Rattle.std.proofs.Common.{◌≡◌, ℕ, ◌+◌, List, ◌++◌, take, drop, sym, ap, subst, ◌∙◌, append_assoc, Option, Some, None}
use Rattle.std.specs.Io.KnownBytes.{Appends, Keeps, append_known}
use Rattle.std.proofs.lemmas.List.{take-append-drop, drop-drop}
use Rattle.lt_io.specs.Streams.{Gathered}

-- the first of the bytes that waited were taken, and the others wait
kept : (a b : Option (List ℕ)) (bytes : List ℕ) (start k : ℕ) → Appends a b (take k (drop start bytes)) → Keeps (append_known a (drop start bytes)) (append_known b (drop (start + k) bytes))
kept None b bytes start k p = tt
kept (Some x) None bytes start k p = absurd p
kept (Some x) (Some y) bytes start k p =
    let rest = drop start bytes in
    ap (λ l. l ++ drop (start + k) bytes) p ∙ append_assoc x (take k rest) (drop (start + k) bytes) ∙ ap (λ l. x ++ (take k rest ++ l)) (sym (drop-drop k start bytes)) ∙ ap (λ l. x ++ l) (take-append-drop k rest)

pub still_held : {K : Type 0} (held : K → Option (List ℕ)) (s : Gathered K) (sink new : K) (bytes seen : List ℕ) (start k : ℕ) → record { sink = sink; waiting = drop start bytes } ≡ s → seen ≡ drop start bytes → Appends (held sink) (held new) (take k seen) → Keeps (append_known (held s.sink) s.waiting) (append_known (held new) (drop (start + k) bytes))
still_held {K} held s sink new bytes seen start k is seen-is p =
    subst (λ (t : Gathered K). Keeps (append_known (held t.sink) t.waiting) (append_known (held new) (drop (start + k) bytes))) is (kept (held sink) (held new) bytes start k (subst (λ l. Appends (held sink) (held new) (take k l)) seen-is p))
