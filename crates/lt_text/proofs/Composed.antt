-- Bytes by way of a block, and then others.
use Rattle.std.proofs.Common.{Result, Ok, Err, ◌≡◌, ℕ, List, [], ◌++◌, take, length, sym, ap, subst, ◌∙◌, append_assoc, Option, Some}
use Rattle.std.specs.Io.KnownBytes.{Appends}
use Rattle.std.proofs.Math.Seq.{take-append_seam}
use Rattle.std.proofs.lemmas.List.{append-nil}
use Rattle.lt_io.specs.Bytes.{AppendsFront, Wrote}
use Rattle.lt_io.proofs.Compose.{nothing_appended, appended_then, appended_then_front, front_of_more, wrote_front, wrote_then}
use Rattle.lt_text.specs.Gathered.{Gains, Gathered}

-- nothing was written
pub nothing_gained : (a : Option (List ℕ)) (p : List ℕ) → Gains a a p p []
nothing_gained a p = ([], nothing_appended a, sym (append-nil p))

-- bytes, and then others
pub gained_then : (a b c : Option (List ℕ)) (p q r x y : List ℕ) → Gains a b p q x → Gains b c q r y → Gains a c p r (x ++ y)
gained_then a b c p q r x y m n =
    (m.0 ++ n.0, appended_then a b c m.0 n.0 m.1 n.1, append_assoc m.0 n.0 r ∙ ap (λ l. m.0 ++ l) n.2 ∙ sym (append_assoc m.0 q y) ∙ ap (λ l. l ++ y) m.2 ∙ append_assoc p x y)

-- bytes, and then a front of what waits and the next ones
pub gained_then_front : (a b c : Option (List ℕ)) (p q x y : List ℕ) → Gains a b p q x → AppendsFront b c (q ++ y) → AppendsFront a c (p ++ (x ++ y))
gained_then_front a b c p q x y m n =
    subst (λ l. AppendsFront a c l) (sym (append_assoc m.0 q y) ∙ ap (λ l. l ++ y) m.2 ∙ append_assoc p x y) (appended_then_front a b c m.0 (q ++ y) m.1 n)

-- a front of the first bytes is one of all
pub front_of_all : (a b : Option (List ℕ)) (p x y : List ℕ) → AppendsFront a b (p ++ x) → AppendsFront a b (p ++ (x ++ y))
front_of_all a b p x y n = subst (λ l. AppendsFront a b l) (append_assoc p x y) (front_of_more a b (p ++ x) y n)

-- a front of the bytes, and an answer that isn't `Ok`
pub gathered_front : {T E : Type 0} (a b : Option (List ℕ)) (p q : List ℕ) (r : Result T E) (e : E) (bytes : List ℕ) → r ≡ Err e → AppendsFront a b (p ++ bytes) → Gathered a b p q r bytes
gathered_front a b p q (Ok v) e bytes is n = absurd cc
gathered_front a b p q (Err d) e bytes is n = record { whole = tt; front = n }

-- whole bytes, and then the answer of the next ones
pub gathered_then : {T E : Type 0} (a b c : Option (List ℕ)) (p q s : List ℕ) (r : Result T E) (x y : List ℕ) → Gains a b p q x → Gathered b c q s r y → Gathered a c p s r (x ++ y)
gathered_then a b c p q s (Ok v) x y m n = record { whole = gained_then a b c p q s x y m n.whole; front = tt }
gathered_then a b c p q s (Err d) x y m n = record { whole = tt; front = gained_then_front a b c p q x y m n.front }

-- what waited was given to the sink
pub gathered_passed : {T E : Type 0} (a b : Option (List ℕ)) (p q : List ℕ) (r : Result T E) → q ≡ [] → Wrote a b r p → Gathered a b p q r []
gathered_passed a b p q (Ok v) is w = record { whole = (p, w.whole, ap (λ l. p ++ l) is); front = tt }
gathered_passed a b p q (Err d) is w = record { whole = tt; front = subst (λ l. AppendsFront a b l) (sym (append-nil p)) w.front }

-- what waited was given to the sink, and then bytes past the block
pub gathered_past : {T E : Type 0} (a b c : Option (List ℕ)) (p q : List ℕ) (r : Result T E) (x : List ℕ) → q ≡ [] → Appends a b p → Wrote b c r x → Gathered a c p q r x
gathered_past a b c p q (Ok v) x is m w = record { whole = (p ++ x, appended_then a b c p x m w.whole, ap (λ l. (p ++ x) ++ l) is ∙ append-nil (p ++ x)); front = tt }
gathered_past a b c p q (Err d) x is m w = record { whole = tt; front = appended_then_front a b c p x m w.front }

-- at the end the bytes that wait are given to the sink
pub wrote_at_end : {T E : Type 0} (a b c : Option (List ℕ)) (p q : List ℕ) (r : Result T E) (x : List ℕ) → p ≡ [] → Gains a b p q x → Wrote b c r q → Wrote a c r x
wrote_at_end a b c p q (Ok v) x is m w = record { whole = subst (λ l. Appends a c l) (m.2 ∙ ap (λ l. l ++ x) is) (appended_then a b c m.0 q m.1 w.whole); front = tt }
wrote_at_end a b c p q (Err d) x is m w = record { whole = tt; front = subst (λ l. AppendsFront a c l) (m.2 ∙ ap (λ l. l ++ x) is) (appended_then_front a b c m.0 q m.1 w.front) }

-- a front was written, and nothing had waited
pub wrote_no_end : {T E : Type 0} (a b : Option (List ℕ)) (p : List ℕ) (r : Result T E) (e : E) (x : List ℕ) → r ≡ Err e → p ≡ [] → AppendsFront a b (p ++ x) → Wrote a b r x
wrote_no_end a b p (Ok v) e x o is n = absurd cc
wrote_no_end a b p (Err d) e x o is n = record { whole = tt; front = subst (λ l. AppendsFront a b (l ++ x)) is n }

-- bytes that were written to a block are taken back
pub taken_back : (p q s text : List ℕ) (n : ℕ) → AppendsFront (Some p) (Some q) text → n ≡ length p → s ≡ take n q → s ≡ p
taken_back p q s text n f is cut = cut ∙ ap (λ k. take k q) is ∙ ap (λ l. take (length p) l) f.3 ∙ take-append_seam p f.0

-- two parts in turn, where what was written equals them

pub two_fronts : {T E : Type 0} (a b : Option (List ℕ)) (p q : List ℕ) (r : Result T E) (e : E) (u x y : List ℕ) → r ≡ Err e → u ≡ x → AppendsFront a b (p ++ u) → Gathered a b p q r (x ++ y)
two_fronts a b p q r e u x y o is n = gathered_front a b p q r e (x ++ y) o (front_of_all a b p x y (subst (λ l. AppendsFront a b (p ++ l)) is n))

pub two_parts : {T E : Type 0} (a b c : Option (List ℕ)) (p q s : List ℕ) (r : Result T E) (u v x y : List ℕ) → u ≡ x → v ≡ y → Gains a b p q u → Gathered b c q s r v → Gathered a c p s r (x ++ y)
two_parts a b c p q s r u v x y is so m n = gathered_then a b c p q s r x y (subst (λ l. Gains a b p q l) is m) (subst (λ l. Gathered b c q s r l) so n)

pub first_front : {T E : Type 0} (a b : Option (List ℕ)) (r : Result T E) (e : E) (u x y : List ℕ) → r ≡ Err e → u ≡ x → AppendsFront a b u → Wrote a b r (x ++ y)
first_front a b r e u x y o is n = wrote_front a b r e (x ++ y) o (front_of_more a b x y (subst (λ l. AppendsFront a b l) is n))

pub both_written : {T E : Type 0} (a b c : Option (List ℕ)) (r : Result T E) (u v x y : List ℕ) → u ≡ x → v ≡ y → Appends a b u → Wrote b c r v → Wrote a c r (x ++ y)
both_written a b c r u v x y is so m n = wrote_then a b c r x y (subst (λ l. Appends a b l) is m) (subst (λ l. Wrote b c r l) so n)
