-- The first edge at which a form isn't positive, and edges at which it is.
use Rattle.std.proofs.Common.{◌≡◌, ℕ, ℤ, pos, ◌<ℤ◌, ◌<◌, arith, sym, ◌∙◌, subst, List, [], length, get_or}
use Rattle.std.proofs.lemmas.Int.{ints}
use Rattle.std.specs.List.{All, Contains}
use Rattle.std.proofs.lemmas.List.{get_or_default}
use Rattle.std.proofs.lemmas.List.Elements.{Contains-get_or}
use Rattle.lt_model.specs.Forms.{value, numbers_of_form}
use Rattle.lt_model.specs.Triangulations.{IsDelaunay}
use Rattle.lt_laws.specs.Edges.{IsEdge}
use Rattle.lt_laws.proofs.Shortest.{edge_place}
use Rattle.lt_locate.specs.Edges.{AreEdges}
use Rattle.lt_locate.specs.Endings.{IsBadEdge, AreEdgesPositive}
use Rattle.lt_locate.specs.Firsts.{IsFirst}
use Rattle.lt_locate.specs.Sides.{IsFirstPoint}
use Rattle.lt_locate.proofs.First.{first_in}

module _ (d : ℕ) (t : List (List (List ℤ))) (xs : List (List ℤ)) (h : AreEdges d t xs) where
  edge_at : (k : ℕ) → k < length xs → IsEdge d t (get_or xs k [])
  edge_at k l = (h.members (get_or xs k [])).0 (Contains-get_or xs k [] l)

  pub first_bad : (q x : List ℤ) → IsFirstPoint q xs x → IsFirst (IsBadEdge d t q) x
  first_bad q x f = first_in (IsBadEdge d t q) xs f.place x h.ascending f.within f.is (edge_at f.place f.within, f.bad)
      (λ j l b. (let p = f.before j l in let c = b.1 in omega (arith, ints, p, c))) (λ y b. (h.members y).1 b.0)

  pub edges_positive : (q : List ℤ) → ((k : ℕ) → k < length xs → pos 0 <ℤ value q (get_or xs k [])) → AreEdgesPositive d t q
  edges_positive q p x e = go ((h.members x).1 e)
    where
      go : Contains xs x → pos 0 <ℤ value q x
      go (k, l, s) = subst (λ (z : List ℤ). pos 0 <ℤ value q z) (get_or_default xs k [] x l ∙ s) (p k l)

  -- each edge has d coordinates
  pub edge_lengths : (a q : List ℤ) → IsDelaunay d a t → length q ≡ numbers_of_form d → All (λ x. length q ≡ numbers_of_form (length x)) xs
  edge_lengths a q k l i x li =
      let p = edge_place d a t (get_or xs i []) k (edge_at i li) in
      subst (λ (z : List ℤ). length q ≡ numbers_of_form (length z)) (get_or_default xs i [] x li) (subst (λ (n : ℕ). length q ≡ numbers_of_form n) (sym p.dimension) l)
