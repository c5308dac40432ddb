-- The edges of a triangulation as a list.
use Rattle.std.proofs.Common.{◌≡◌, ℕ, ℤ, refl, sym, ◌∙◌, subst, List, [], ◌∷◌, ◌↔◌, inl, inr, ap}
use Rattle.std.specs.List.{Contains}
use Rattle.std.specs.List.Sorted.{IsStrictlySortedBy}
use Rattle.std.specs.declared.cmp.Ordering.{Ordering}
use Rattle.std.specs.declared.cmp.Ordering.TheVariants.{Less, Equal, Greater}
use Rattle.lt_model.proofs.Sets.{Contains-head, Contains-cases, Contains-none, number_list_cmp_total}
use Rattle.lt_model.specs.Order.{number_list_cmp}
use Rattle.lt_model.specs.Vectors.{minus, zeros}
use Rattle.lt_geometry.proofs.Listed.{Listing, gather}
use Rattle.lt_geometry.proofs.Sorting.{sorted, number_list_cmp_exact}
use Rattle.lt_laws.specs.Edges.{IsEdge}

abbrev IsDifference : ℕ → List ℤ → List ℤ → List ℤ → Type 0
IsDifference d from to x = (x ≡ minus to from) × (number_list_cmp (zeros d) x ≡ Less)

-- the difference of two vertices, if it is an edge
of_pair : (d : ℕ) (t : List (List (List ℤ))) (s : List (List ℤ)) (from to : List ℤ) → Contains t s → Contains s from → Contains s to → Listing (IsEdge d t) (IsDifference d from to)
of_pair d t s from to m cf ct = by (number_list_cmp (zeros d) (minus to from)) refl
  where
    none : (number_list_cmp (zeros d) (minus to from) ≡ Less → ⊥) → Listing (IsEdge d t) (IsDifference d from to)
    none n = record { all = []; sound = λ x c. Contains-none x c; complete = λ x y. absurd (n (ap (number_list_cmp (zeros d)) (sym y.0) ∙ y.1)) }

    by : (r : Ordering) → number_list_cmp (zeros d) (minus to from) ≡ r → Listing (IsEdge d t) (IsDifference d from to)
    by Less e = record {
      all = minus to from ∷ [];
      sound = λ x c. elim (Contains-cases (minus to from) [] x c) [
        | inl f ↦ subst (λ (y : List ℤ). IsEdge d t y) f (record { owner = s; member = m; from = from; to = to; has_from = cf; has_to = ct; difference = refl; positive = e })
        | inr f ↦ Contains-none x f
      ];
      complete = λ x y. subst (λ (z : List ℤ). Contains (minus to from ∷ []) z) (sym y.0) (Contains-head (minus to from) []);
    }
    by Equal e = none (λ f. let g : Less ≡ Equal = sym f ∙ e in cc)
    by Greater e = none (λ f. let g : Less ≡ Greater = sym f ∙ e in cc)

-- the ascending list of the edges
pub edges_listed : (d : ℕ) (t : List (List (List ℤ))) → (es : List (List ℤ)) × IsStrictlySortedBy number_list_cmp es × ((x : List ℤ) → Contains es x ↔ IsEdge d t x)
edges_listed d t =
    let l = gather (IsEdge d t) (λ s x. (from : List ℤ) × Contains s from × ((to : List ℤ) × Contains s to × IsDifference d from to x)) t
    (λ s m. gather (IsEdge d t) (λ from x. (to : List ℤ) × Contains s to × IsDifference d from to x) s
    (λ from cf. gather (IsEdge d t) (IsDifference d from) s (λ to ct. of_pair d t s from to m cf ct))) in
    let o = sorted number_list_cmp number_list_cmp_total number_list_cmp_exact l.all in (
      o.list,
      o.ascending,
      λ x. (λ c. l.sound x ((o.members x).0 c), λ e. (o.members x).1 (l.complete x (e.owner, e.member, (e.from, e.has_from, (e.to, e.has_to, (e.difference, e.positive)))))),
    )
