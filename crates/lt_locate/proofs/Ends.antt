-- A walk ends in one way at most; where it ends inside it has come to the triangulation of the form.
use Rattle.std.proofs.Common.{◌≡◌, ℕ, zero, suc, ℤ, ◌<◌, ◌≤◌, arith, sym, subst, List}
use native.Mathlib.Decide.{dec_le}
use Rattle.lt_model.specs.Reached.{IsReached, start, next}
use Rattle.lt_laws.proofs.FacetLaws.{reached_facets_suffice}
use Rattle.lt_locate.specs.Walks.{IsWalked}
use Rattle.lt_locate.specs.Endings.{Ending, IsReason, Passes, EndsWith}
use Rattle.lt_locate.specs.Laws.{OneEnd, WalksEndInside}
use Rattle.lt_locate.proofs.Reasons.{one_walked, no_reason, one_reason}

-- an end of one walk is no place that the other passed
earlier : (d : ℕ) (q : List ℤ) (steps i j : ℕ) (t s : List (List (List ℤ))) (e f : Ending) → 2 ≤ d → EndsWith d q steps i t e → EndsWith d q steps j s f → i < j → ⊥
earlier d q steps i j t s e f two a b l =
    let p = b.comes.passed i l in
    let same : p.0 ≡ t = one_walked d q i p.0 t two p.1 a.comes.walked in
    no_reason d q steps i t e two (subst (λ (u : List (List (List ℤ))). Passes d q steps i u) same p.2) a.reason

pub one_end : OneEnd
one_end d q steps i j t s e f two a b = go (dec_le i j) (dec_le j i)
  where
    at : i ≡ j → (i ≡ j) × (t ≡ s) × (e ≡ f)
    at h =
        let same : s ≡ t = one_walked d q i s t two (subst (λ (k : ℕ). IsWalked d q k s) (sym h) b.comes.walked) a.comes.walked in
        let r : IsReason d q steps i t f = subst (λ (u : List (List (List ℤ))). IsReason d q steps i u f) same (subst (λ (k : ℕ). IsReason d q steps k s f) (sym h) b.reason) in
        (h, sym same, one_reason d q steps i t e f two a.reason r)

    go : Dec (i ≤ j) → Dec (j ≤ i) → (i ≡ j) × (t ≡ s) × (e ≡ f)
    go (yes x) (yes y) = at (omega arith)
    go (yes x) (no y) = absurd (earlier d q steps i j t s e f two a b (omega arith))
    go (no x) y = absurd (earlier d q steps j i s t f e two b a (omega arith))

walked_reached : (d : ℕ) (q : List ℤ) (i : ℕ) (t : List (List (List ℤ))) → IsWalked d q i t → IsReached d t
walked_reached d q zero t h = start h
walked_reached d q (suc i) t (s, n, w, f, a) = next n (walked_reached d q i s w) f.is.0 a

pub walks_end_inside : WalksEndInside
walks_end_inside d q steps i t two l h = (reached_facets_suffice d q t two (walked_reached d q i t h.comes.walked) l).1 h.reason.1
