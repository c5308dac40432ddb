-- The first edge above the span limit, and edges that are within it.
use Rattle.std.proofs.Common.{ℕ, ℤ, pos, ◌≤ℤ◌, ◌<◌, arith, ◌∙◌, subst, List, [], length, get_or}
use Rattle.std.proofs.lemmas.Int.{ints}
use Rattle.std.specs.List.{Contains}
use Rattle.std.proofs.lemmas.List.{get_or_default}
use Rattle.std.proofs.lemmas.List.Elements.{Contains-get_or}
use Rattle.lt_model.specs.Forms.{value}
use Rattle.lt_model.specs.Limits.{span_limit}
use Rattle.lt_laws.specs.Edges.{IsEdge}
use Rattle.lt_locate.specs.Edges.{AreEdges}
use Rattle.lt_locate.proofs.First.{first_in}
use Rattle.lt_cover.specs.declared.answers.CoverError.{CoverError}
use Rattle.lt_cover.specs.declared.answers.CoverError.TheVariants.{LongEdge, Memory}
use Rattle.lt_cover.specs.Covers.{AreShort}
use Rattle.lt_cover.specs.Long.{IsLongEdge, IsLong, IsLongAt, AreShortAt}

module _ (d : ℕ) (q : List ℤ) (t : List (List (List ℤ))) (xs : List (List ℤ)) (h : AreEdges d t xs) where
  edge_at : (k : ℕ) → k < length xs → IsEdge d t (get_or xs k [])
  edge_at k l = (h.members (get_or xs k [])).0 (Contains-get_or xs k [] l)

  pub longest : (e : CoverError) → IsLongAt d q xs e → IsLong d q t e
  longest (LongEdge x l) f = (first_in (IsLongEdge d q t) xs f.place x h.ascending f.within f.is (edge_at f.place f.within, f.long) (λ j k b. (let p = f.before j k in let c = b.1 in omega (arith, ints, p, c))) (λ y b. (h.members y).1 b.0), f.value_is)
  longest Memory f = tt

  pub all_short : AreShortAt d q xs (length xs) → AreShort d q t
  all_short p x e = go ((h.members x).1 e)
    where
      go : Contains xs x → value q x ≤ℤ pos (span_limit d)
      go (k, l, s) = subst (λ (z : List ℤ). value q z ≤ℤ pos (span_limit d)) (get_or_default xs k [] x l ∙ s) (p k l)
