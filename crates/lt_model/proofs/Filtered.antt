-- The members of a filtered list are those of the list that pass; and what passes of the first members.
use Rattle.std.proofs.Common.{◌≡◌, ℕ, ◌+◌, ◌<◌, refl, sym, ◌∙◌, ap, subst, Bool, true, false, cond, List, [], ◌∷◌, ◌++◌, filter, take, drop, length, get_or, take-append-drop, ◌⊎◌, inl, inr}
use Rattle.std.specs.List.{Contains}
use Rattle.std.proofs.lemmas.Bool.{false≢true}
use Rattle.std.proofs.lemmas.List.{append-nil, take_more}
use Rattle.std.proofs.lemmas.List.Elements.{All-filter, All-contains, All-contains_itself, filter_passes, filter-append}
use Rattle.lt_model.proofs.Sets.{Contains-head, Contains-tail, Contains-cases, Contains-none}

module _ {X : Type 0} (p : X → Bool) where
  pub passing_in : (xs : List X) (x : X) → Contains xs x → p x ≡ true → Contains (filter p xs) x
  passing_in [] x c e = Contains-none x c
  passing_in (y ∷ ys) x c e = by (p y) refl (Contains-cases y ys x c) (λ r. passing_in ys x r e)
    where
      by : (b : Bool) → p y ≡ b → (y ≡ x) ⊎ Contains ys x → (Contains ys x → Contains (filter p ys) x) → Contains (cond b (y ∷ filter p ys) (filter p ys)) x
      by true k (inl s) rest = subst (λ (z : X). Contains (y ∷ filter p ys) z) s (Contains-head y (filter p ys))
      by true k (inr r) rest = Contains-tail y (filter p ys) x (rest r)
      by false k (inl s) rest = absurd (false≢true (sym k ∙ ap p s ∙ e))
      by false k (inr r) rest = rest r

  pub from_filter : (xs : List X) (x : X) → Contains (filter p xs) x → Contains xs x
  from_filter xs x c = All-contains (Contains xs) (filter p xs) x (All-filter p (Contains xs) xs (All-contains_itself xs)) c

  pub passes : (xs : List X) (x : X) → Contains (filter p xs) x → p x ≡ true
  passes xs x c = All-contains (λ (y : X). p y ≡ true) (filter p xs) x (filter_passes p xs) c

-- one member more, x at place i
module _ {X : Type 0} (p : X → Bool) (xs : List X) (i : ℕ) (x d : X) (lt : i < length xs) (is : x ≡ get_or xs i d) where
  one_more : filter p (take (i + 1) xs) ≡ filter p (take i xs) ++ cond (p x) (x ∷ []) []
  one_more =
      ap (filter p) (take_more xs i d lt) ∙ filter-append p (take i xs) (get_or xs i d ∷ [])
      ∙ ap (λ (y : X). filter p (take i xs) ++ cond (p y) (y ∷ []) []) (sym is)

  pub one_passes : p x ≡ true → filter p (take (i + 1) xs) ≡ filter p (take i xs) ++ (x ∷ [])
  one_passes e = one_more ∙ ap (λ (b : Bool). filter p (take i xs) ++ cond b (x ∷ []) []) e

  pub none_passes : p x ≡ false → filter p (take (i + 1) xs) ≡ filter p (take i xs)
  none_passes e = one_more ∙ ap (λ (b : Bool). filter p (take i xs) ++ cond b (x ∷ []) []) e ∙ append-nil (filter p (take i xs))

  -- those before it, it and those behind it
  pub where_passing : p x ≡ true → (filter p (take i xs) ++ (x ∷ [])) ++ filter p (drop (i + 1) xs) ≡ filter p xs
  where_passing e =
      ap (λ (l : List X). l ++ filter p (drop (i + 1) xs)) (sym (one_passes e))
      ∙ sym (filter-append p (take (i + 1) xs) (drop (i + 1) xs)) ∙ ap (filter p) (take-append-drop (i + 1) xs)
