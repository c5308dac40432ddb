-- A form has one least value and one list of shortest vectors.
use Rattle.std.proofs.Common.{◌≡◌, ◌≢◌, ℕ, ℤ, negsuc, ◌≤ℤ◌, arith, sym, ◌∙◌, subst, List, [], get_or, inl, inr}
use Rattle.std.proofs.lemmas.Int.{ints}
use Rattle.std.specs.List.{Contains}
use Rattle.std.specs.declared.cmp.Ordering.TheVariants.{Less}
use Rattle.std.proofs.lemmas.List.Elements.{Contains-get_or}
use Rattle.lt_model.proofs.Sets.{same_members, never_below_itself, number_list_cmp_total}
use Rattle.lt_model.specs.Order.{number_list_cmp}
use Rattle.lt_model.specs.Vectors.{scale, zeros}
use Rattle.lt_geometry.proofs.EdgeLists.{not_both}
use Rattle.lt_relevant.specs.Shortest.{IsShortest}
use Rattle.lt_relevant.specs.Laws.{OneShortest}

not_zero : (d : ℕ) (x : List ℤ) → number_list_cmp (zeros d) x ≡ Less → x ≢ zeros d
not_zero d x p z = never_below_itself number_list_cmp number_list_cmp_total (zeros d) (subst (λ (w : List ℤ). number_list_cmp (zeros d) w ≡ Less) z p)

module _ (d : ℕ) (q : List ℤ) (l m : ℤ) (vs ws : List (List ℤ)) (a : IsShortest d q l vs) (b : IsShortest d q m ws) where
  no_less : m ≤ℤ l
  no_less = go (get_or vs 0 []) (Contains-get_or vs 0 [] a.occupied)
    where
      go : (x : List ℤ) → Contains vs x → m ≤ℤ l
      go x c = let h = b.none_below x (a.dimension x c) (not_zero d x (a.positive x c)) in let v = a.value_is x c in omega (arith, ints, h, v)

  listed_there : l ≡ m → (x : List ℤ) → Contains vs x → Contains ws x
  listed_there e x c =
      elim (b.all x (a.dimension x c) (a.value_is x c ∙ e)) [
        | inl r ↦ r
        | inr r ↦ absurd (not_both d x (a.positive x c) (b.positive (scale (negsuc 0) x) r) (a.dimension x c))
      ]

pub one_shortest : OneShortest
one_shortest d q l m vs ws a b =
    let i = no_less d q l m vs ws a b in
    let j = no_less d q m l ws vs b a in
    let e : l ≡ m = omega (arith, ints, i, j) in
    (e, same_members number_list_cmp number_list_cmp_total vs ws a.ascending b.ascending (λ x. (listed_there d q l m vs ws a b e x, listed_there d q m l ws vs b a (sym e) x)))
