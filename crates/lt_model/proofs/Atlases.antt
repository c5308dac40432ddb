-- Rows and facets of an entry, places of marks, and events of a log.
use Rattle.std.proofs.Common.{◌≡◌, ◌≢◌, ◌⊎◌, ℕ, zero, suc, ◌+◌, ◌<◌, ◌≤◌, inl, inr, ap, arith, sym, ◌∙◌, subst, List, [], ◌∷◌, length, get_or}
use Rattle.std.specs.List.{Contains}
use Rattle.std.proofs.lemmas.Bool.{cases_eq, cases_lt}
use Rattle.std.proofs.lemmas.List.Elements.{Contains-append_left, Contains-append_right}
use Rattle.lt_model.specs.Atlases.{Event, event_at, places_from, facets_of, facet_if}
use Rattle.lt_model.specs.Cones.{Verdict, wall, combination, Row}
use Rattle.lt_model.specs.RightAtlases.{all_places}
use Rattle.lt_model.proofs.Sets.{Contains-head, Contains-tail}

pub facets_most : (rows : List Row) → length (facets_of rows) ≤ length rows
facets_most [] = omega arith
facets_most (r ∷ rows) = pick r.verdict (facets_most rows)
  where
    pick : (v : Verdict) → length (facets_of rows) ≤ length rows → length (facet_if v r.normal (facets_of rows)) ≤ length (r ∷ rows)
    pick (wall w) h = omega (arith, h)
    pick (combination f ts) h = omega (arith, h)

pub placed_from : (k f n i : ℕ) → i < n → Contains (places_from k f n) (k, f + i)
placed_from k f zero i l = absurd (omega (arith, l))
placed_from k f (suc n) zero l = let e : f ≡ f + 0 = omega arith in subst (λ (j : ℕ). Contains ((k, f) ∷ places_from k (suc f) n) (k, j)) e (Contains-head (k, f) (places_from k (suc f) n))
placed_from k f (suc n) (suc i) l =
    let e : suc f + i ≡ f + suc i = omega arith in
    Contains-tail (k, f) (places_from k (suc f) n) (k, f + suc i) (subst (λ (j : ℕ). Contains (places_from k (suc f) n) (k, j)) e (placed_from k (suc f) n i (omega (arith, l))))

pub placed_all : (k : ℕ) (ns : List ℕ) (j f : ℕ) → f < get_or ns j 0 → Contains (all_places k ns) (k + j, f)
placed_all k [] j f s = absurd (omega (arith, s))
placed_all k (n ∷ ns) zero f s =
    let e : k ≡ k + 0 = omega arith in
    let z : 0 + f ≡ f = omega arith in
    Contains-append_left (places_from k 0 n) (all_places (suc k) ns) (k + 0, f) (subst (λ (j : ℕ). Contains (places_from k 0 n) (j, f)) e (subst (λ (i : ℕ). Contains (places_from k 0 n) (k, i)) z (placed_from k 0 n f s)))
placed_all k (n ∷ ns) (suc j) f s =
    let e : suc k + j ≡ k + suc j = omega arith in
    Contains-append_right (places_from k 0 n) (all_places (suc k) ns) (k + suc j, f) (subst (λ (i : ℕ). Contains (all_places (suc k) ns) (i, f)) e (placed_all (suc k) ns j f s))

-- one of the first n events stands at position p, or none does
pub event_there : (l : List Event) (p n : ℕ) → ((i : ℕ) × (i < n) × ((event_at l i).position ≡ p)) ⊎ ((i : ℕ) → i < n → (event_at l i).position ≢ p)
event_there l p zero = inr (λ i h e. omega (arith, h))
event_there l p (suc n) =
    elim (event_there l p n) [
      | inl h ↦ let k = h.1 in inl (h.0, omega (arith, k), h.2)
      | inr none ↦ elim (cases_eq (event_at l n).position p) [
        | inl e ↦ inl (n, omega arith, e)
        | inr d ↦ inr (λ i h e. elim (cases_lt i n) [ inl k ↦ none i k e | inr k ↦ (let same : i ≡ n = omega (arith, h, k) in d (ap (λ (m : ℕ). (event_at l m).position) (sym same) ∙ e)) ])
      ]
    ]
