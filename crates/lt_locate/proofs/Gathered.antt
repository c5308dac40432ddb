-- Lists that gather the differences of vertices step by step; for a triangulation they are its edges.
use Rattle.std.proofs.Common.{◌≡◌, ℕ, ℤ, ◌+◌, ◌<◌, ◌≤◌, ◌++◌, ap, arith, sym, ◌∙◌, subst, List, [], ◌∷◌, ◌⊎◌, ◌↔◌, inl, inr, length, get_or}
use Rattle.std.specs.List.{Contains}
use Rattle.std.specs.List.Sorted.{IsStrictlySortedBy}
use Rattle.std.specs.declared.cmp.Ordering.TheVariants.{Less}
use Rattle.std.proofs.lemmas.List.{get_or_default}
use Rattle.std.proofs.lemmas.List.Elements.{Contains-get_or, Contains-append_left, Contains-append_right, Contains-append_cases}
use native.Mathlib.Decide.{dec_le}
use Rattle.lt_model.specs.Order.{number_list_cmp}
use Rattle.lt_model.specs.Vectors.{minus, zeros}
use Rattle.lt_model.specs.Simplices.{IsClass}
use Rattle.lt_model.proofs.Sets.{Contains-head, Contains-cases, Contains-none, number_list_cmp_total}
use Rattle.lt_model.proofs.Points.{get_dimension}
use Rattle.lt_triang.specs.Kept.{IsTriangulation}
use Rattle.lt_laws.specs.Edges.{IsEdge}
use Rattle.lt_locate.specs.Collected.{Gathers, IsEdgeTo, IsEdgeBelow, IsEdgeOfFirst}
use Rattle.lt_locate.specs.Edges.{AreEdges}
use Rattle.lt_locate.proofs.Places.{ascends, stands_first, difference_above}

last_or_earlier : (i m : ℕ) → i < m + 1 → (i ≡ m) ⊎ (i < m)
last_or_earlier i m h = go (dec_le m i)
  where
    go : Dec (m ≤ i) → (i ≡ m) ⊎ (i < m)
    go (yes k) = inl (omega arith)
    go (no k) = inr (omega arith)

-- ---- one step after the other

nothing : (P : List ℤ → Type 0) → ((x : List ℤ) → P x → ⊥) → (old : List (List ℤ)) → Gathers P old old
nothing P n old = record { kept = λ x c. c; each = λ x p. absurd (n x p); only = λ x c. inl c }

-- Q is P, and what one step more adds
more : (P R Q : List ℤ → Type 0) (old mid new : List (List ℤ)) → Gathers P old mid → Gathers R mid new → ((x : List ℤ) → P x → Q x) → ((x : List ℤ) → R x → Q x) → ((x : List ℤ) → Q x → P x ⊎ R x) → Gathers Q old new
more P R Q old mid new g h p r q = record {
  kept = λ x c. h.kept x (g.kept x c);
  each = λ x k. elim (q x k) [ inl a ↦ h.kept x (g.each x a) | inr b ↦ h.each x b ];
  only = λ x c. elim (h.only x c) [
    | inr b ↦ inr (r x b)
    | inl m ↦ elim (g.only x m) [ inl o ↦ inl o | inr a ↦ inr (p x a) ]
  ];
}

one : (y : List ℤ) (mid : List (List ℤ)) → Gathers (λ x. x ≡ y) mid (mid ++ y ∷ [])
one y mid = record {
  kept = λ x c. Contains-append_left mid (y ∷ []) x c;
  each = λ x e. Contains-append_right mid (y ∷ []) x (subst (λ (z : List ℤ). Contains (y ∷ []) z) (sym e) (Contains-head y []));
  only = λ x c. elim (Contains-append_cases mid (y ∷ []) x c) [
    | inl m ↦ inl m
    | inr r ↦ elim (Contains-cases y [] x r) [ inl e ↦ inr (sym e) | inr n ↦ Contains-none x n ]
  ];
}

module _ (s : List (List ℤ)) (k : ℕ) where
  pub to_none : (old : List (List ℤ)) → Gathers (IsEdgeTo s k 0) old old
  to_none old = nothing (IsEdgeTo s k 0) (λ x p. let l = p.1 in omega arith) old

  pub to_more : (m : ℕ) (old mid : List (List ℤ)) (y : List ℤ) → Gathers (IsEdgeTo s k m) old mid → y ≡ minus (get_or s k []) (get_or s m []) → Gathers (IsEdgeTo s k (m + 1)) old (mid ++ y ∷ [])
  to_more m old mid y g e = more (IsEdgeTo s k m) (λ x. x ≡ y) (IsEdgeTo s k (m + 1)) old mid (mid ++ y ∷ []) g (one y mid)
      (λ x p. let l = p.1 in (p.0, omega arith, p.2))
      (λ x f. (m, omega arith, f ∙ e))
      (λ x p. elim (last_or_earlier p.0 m p.1) [ inl i ↦ inr (p.2 ∙ ap (λ (n : ℕ). minus (get_or s k []) (get_or s n [])) i ∙ sym e) | inr l ↦ inl (p.0, l, p.2) ])

module _ (s : List (List ℤ)) where
  pub below_none : (old : List (List ℤ)) → Gathers (IsEdgeBelow s 0) old old
  below_none old = nothing (IsEdgeBelow s 0) (λ x p. let l = p.1 in omega arith) old

  pub below_more : (m : ℕ) (old mid new : List (List ℤ)) → Gathers (IsEdgeBelow s m) old mid → Gathers (IsEdgeTo s m m) mid new → Gathers (IsEdgeBelow s (m + 1)) old new
  below_more m old mid new g h = more (IsEdgeBelow s m) (IsEdgeTo s m m) (IsEdgeBelow s (m + 1)) old mid new g h
      (λ x p. let l = p.1 in (p.0, omega arith, p.2))
      (λ x p. (m, omega arith, p))
      (λ x p. elim (last_or_earlier p.0 m p.1) [ inl i ↦ inr (subst (λ (n : ℕ). IsEdgeTo s n n x) i p.2) | inr l ↦ inl (p.0, l, p.2) ])

module _ (t : List (List (List ℤ))) where
  pub first_none : (old : List (List ℤ)) → Gathers (IsEdgeOfFirst t 0) old old
  first_none old = nothing (IsEdgeOfFirst t 0) (λ x p. let l = p.1 in omega arith) old

  pub first_more : (m : ℕ) (old mid new : List (List ℤ)) → Gathers (IsEdgeOfFirst t m) old mid → Gathers (IsEdgeBelow (get_or t m []) (length (get_or t m []))) mid new → Gathers (IsEdgeOfFirst t (m + 1)) old new
  first_more m old mid new g h = more (IsEdgeOfFirst t m) (IsEdgeBelow (get_or t m []) (length (get_or t m []))) (IsEdgeOfFirst t (m + 1)) old mid new g h
      (λ x p. let l = p.1 in (p.0, omega arith, p.2))
      (λ x p. (m, omega arith, p))
      (λ x p. elim (last_or_earlier p.0 m p.1) [ inl i ↦ inr (subst (λ (n : ℕ). IsEdgeBelow (get_or t n []) (length (get_or t n [])) x) i p.2) | inr l ↦ inl (p.0, l, p.2) ])

-- ---- of all members: the edges

module _ (d : ℕ) (t : List (List (List ℤ))) (h : IsTriangulation d t) where
  gathered_edge : (x : List ℤ) → IsEdgeOfFirst t (length t) x → IsEdge d t x
  gathered_edge x (m, lm, (k, lk, (i, li, e))) =
      let s : List (List ℤ) = get_or t m [] in
      let has : Contains t s = Contains-get_or t m [] lm in
      let c : IsClass d s = h.classes s has in
      let a : List ℤ = get_or s i [] in
      let b : List ℤ = get_or s k [] in
      let lower : i < length s = omega arith in record {
        owner = s;
        member = has;
        from = a;
        to = b;
        has_from = Contains-get_or s i [] lower;
        has_to = Contains-get_or s k [] lk;
        difference = e;
        positive = ap (number_list_cmp (zeros d)) e ∙ difference_above d a b (get_dimension d i s [] c.simplex.points lower) (get_dimension d k s [] c.simplex.points lk) ∙ ascends number_list_cmp s i k [] c.ascending li lk;
      }

  edge_gathered : (x : List ℤ) → IsEdge d t x → IsEdgeOfFirst t (length t) x
  edge_gathered x e = go e.member e.has_from e.has_to
    where
      at : (xs : List (List ℤ)) (k : ℕ) (y : List ℤ) → k < length xs → get_or xs k y ≡ y → get_or xs k [] ≡ y
      at xs k y l f = get_or_default xs k [] y l ∙ f

      go : Contains t e.owner → Contains e.owner e.from → Contains e.owner e.to → IsEdgeOfFirst t (length t) x
      go (m, lm, em) (i, li, ei) (k, lk, ek) =
          let s : List (List ℤ) = e.owner in
          let c : IsClass d s = h.classes s e.member in
          let own : get_or t m [] ≡ s = get_or_default t m [] s lm ∙ em in
          let fa : get_or s i [] ≡ e.from = at s i e.from li ei in
          let fb : get_or s k [] ≡ e.to = at s k e.to lk ek in
          let up : number_list_cmp (get_or s i []) (get_or s k []) ≡ Less =
          sym (difference_above d (get_or s i []) (get_or s k []) (get_dimension d i s [] c.simplex.points li) (get_dimension d k s [] c.simplex.points lk))
          ∙ ap (number_list_cmp (zeros d)) (ap (λ (z : List ℤ). minus z (get_or s i [])) fb ∙ ap (minus e.to) fa ∙ sym e.difference)
          ∙ e.positive in
          let lower = stands_first number_list_cmp number_list_cmp_total s i k [] c.ascending li up in
          let is : x ≡ minus (get_or s k []) (get_or s i []) = e.difference ∙ ap (minus e.to) (sym fa) ∙ ap (λ (z : List ℤ). minus z (get_or s i [])) (sym fb) in
          (m, lm, subst (λ (r : List (List ℤ)). IsEdgeBelow r (length r) x) (sym own) (k, lk, (i, lower, is)))

  pub are_edges : (all es : List (List ℤ)) → Gathers (IsEdgeOfFirst t (length t)) [] all → IsStrictlySortedBy number_list_cmp es → ((x : List ℤ) → Contains es x ↔ Contains all x) → AreEdges d t es
  are_edges all es g up same = record {
    ascending = up;
    members = λ x. (
      λ c. elim (g.only x ((same x).0 c)) [ inl n ↦ Contains-none x n | inr p ↦ gathered_edge x p ],
      λ e. (same x).1 (g.each x (edge_gathered x e)),
    );
  }
