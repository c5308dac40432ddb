-- The lines of a summary, those of the first entries and the others.
use Rattle.std.proofs.Common.{◌≡◌, ℕ, zero, suc, ℤ, pos, ◌+◌, ◌<◌, ◌≤◌, ◌^◌, arith, sym, ap, ap₂, subst, ◌∙◌, inl, inr, List, [], ◌∷◌, ◌++◌, append_assoc, append-nil, get_or, take, length, add-one}
use Rattle.std.proofs.Math.Seq.{take-suc}
use Rattle.std.proofs.lemmas.List.{length-map, get_or-map}
use Rattle.std.proofs.lemmas.Bool.{cases_lt}
use Rattle.std.proofs.lemmas.Int.{to_z-of_z}
use Rattle.std.proofs.Math.Nat.{min-le_left}
use mir.Val.{to_z, of_z}
use mir.Syntax.{w128}
use Rattle.lt_model.specs.Atlases.{Atlas, Entry, no_entry, entry_at}
use Rattle.lt_locate.proofs.Weighed.{fits}
use Rattle.ltypes.specs.Summaries.{weight_of, entry_weights, entry_summary, entry_summaries, totals_line}

pub summaries_split : (a : Atlas) (k n : ℕ) → k ≤ n → (rest : List ℕ) × (entry_summaries a n ≡ entry_summaries a k ++ rest)
summaries_split a k zero l = let e : k ≡ 0 = omega arith in ([], ap (entry_summaries a) (sym e) ∙ sym (append-nil (entry_summaries a k)))
summaries_split a k (suc n) l =
    elim (cases_lt k (suc n)) [
      | inl h ↦ (
          let own : List ℕ = entry_summary a.dimension n (entry_at a.entries n) (get_or a.marks n []) in
          let r = summaries_split a k n (omega arith) in
          (r.0 ++ own, ap (λ (z : List ℕ). z ++ own) r.1 ∙ append_assoc (entry_summaries a k) r.0 own)
          )
      | inr h ↦ (let e : k ≡ suc n = omega arith in ([], ap (entry_summaries a) (sym e) ∙ sym (append-nil (entry_summaries a k))))
    ]

-- one weight more
pub next_weight : (a : Atlas) (ws us : List ℤ) (k : ℕ) (w : ℤ) → k < length a.entries → ws ≡ take k (entry_weights a) → us ≡ ws ++ w ∷ [] → w ≡ pos (weight_of a.dimension (entry_at a.entries k)) → us ≡ take (k + 1) (entry_weights a)
next_weight a ws us k w l e f is =
    let view : Entry → ℤ = λ x. pos (weight_of a.dimension x) in
    let long : k < length (entry_weights a) = omega (arith, length-map a.entries view) in
    let at : get_or (entry_weights a) k (pos 0) ≡ w = get_or-map view a.entries k no_entry (pos 0) l ∙ sym is in
    rw (add-one k) (f ∙ ap₂ (λ (x : List ℤ) (z : ℤ). x ++ z ∷ []) e (sym at) ∙ sym (take-suc (entry_weights a) k (pos 0) long))

-- the same counts give the same line
pub same_totals : (word : List ℕ) (e e' f f' x x' u u' : ℕ) → e ≡ e' → f ≡ f' → x ≡ x' → u ≡ u' → totals_line word e f x u ≡ totals_line word e' f' x' u'
same_totals word e e' f f' x x' u u' p q r s =
    ap (λ (n : ℕ). totals_line word n f x u) p ∙ ap (λ (n : ℕ). totals_line word e' n x u) q ∙ ap (λ (n : ℕ). totals_line word e' f' n u) r ∙ ap (λ (n : ℕ). totals_line word e' f' x' n) s

-- a weight keeps its value in 128 bits
pub same_weight : (d : ℕ) (e : Entry) (z : ℤ) → z ≡ pos (weight_of d e) → to_z w128 (of_z w128 z) ≡ z
same_weight d e z is =
    let small : weight_of d e ≤ 2 ^ 120 = min-le_left (2 ^ 120) _ in
    subst (λ (x : ℤ). to_z w128 (of_z w128 x) ≡ x) (sym is) (to_z-of_z w128 (pos (weight_of d e)) (fits (weight_of d e) small))

-- the weight of an entry, where the weights of all are given
pub weight_there : (a : Atlas) (ws : List ℤ) (k : ℕ) (d : ℤ) (e : Entry) → k < length a.entries → ws ≡ entry_weights a → e ≡ entry_at a.entries k → to_z w128 (of_z w128 (get_or ws k d)) ≡ pos (weight_of a.dimension e)
weight_there a ws k d e l all at =
    let view : Entry → ℤ = λ x. pos (weight_of a.dimension x) in
    let is : get_or ws k d ≡ pos (weight_of a.dimension e) = ap (λ (l : List ℤ). get_or l k d) all ∙ get_or-map view a.entries k no_entry d l ∙ ap view (sym at) in
    same_weight a.dimension e (get_or ws k d) is ∙ is
