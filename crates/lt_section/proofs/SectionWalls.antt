-- The verdicts on filled normals are right for the restricted normals.
use Rattle.std.proofs.Common.{◌≡◌, ◌≢◌, ℕ, zero, suc, ℤ, pos, ◌*ℤ◌, ◌<ℤ◌, ◌<◌, ◌≤◌, refl, ap, ap₂, arith, sym, ◌∙◌, subst, List, [], ◌∷◌, length, map, take, get_or, inl, inr, ◌⊎◌}
use Rattle.std.proofs.lemmas.Int.{ints}
use Rattle.std.specs.List.{All, Contains}
use Rattle.std.specs.declared.cmp.Ordering.TheVariants.{Less}
use Rattle.std.proofs.lemmas.List.{get_or_default}
use Rattle.std.proofs.lemmas.List.Elements.{Contains-get_or, recursion_from_All, All-head, All-tail}
use Rattle.lt_model.specs.Order.{number_list_cmp}
use Rattle.lt_model.specs.Vectors.{plus, scale, dot, combine, unit, zeros}
use Rattle.lt_model.specs.Forms.{value, numbers_of_form}
use Rattle.lt_model.specs.Cones.{coefficients, places, IsRightWall, IsRightCombination}
use Rattle.lt_model.specs.Triangulations.{IsDelaunay}
use Rattle.lt_model.proofs.Opposite.{length-unit}
use Rattle.lt_model.proofs.Sets.{number_list_cmp_total, never_below_itself}
use Rattle.lt_model.proofs.Dependent.{zero_or_not, mul-not_zero}
use Rattle.lt_model.proofs.Vectors.{dot-scale, plus_assoc}
use Rattle.lt_model.proofs.Walk.{plus-nil}
use Rattle.lt_model.proofs.Points.{plus-zeros, scale-one}
use Rattle.lt_geometry.proofs.Regulators.{from_multiple}
use Rattle.lt_solve.proofs.Lowest.{zero_scale}
use Rattle.lt_lp.specs.Alternatives.{HasWallForm}
use Rattle.lt_laws.specs.Edges.{IsEdge}
use Rattle.lt_laws.specs.Sections.{IsSectionWall, IsSection, IsLive, IsDead}
use Rattle.lt_laws.proofs.Sections.{one_wall_tells, live_or_dead}
use Rattle.lt_laws.proofs.Shortest.{edge_place}
use Rattle.lt_locate.specs.Edges.{AreEdges}
use Rattle.lt_locate.specs.Firsts.{IsFirst}
use Rattle.lt_locate.proofs.First.{first_in}
use Rattle.lt_locate.proofs.Places.{one_place}
use Rattle.lt_section.specs.declared.answers.SectionVerdict.{SectionVerdict}
use Rattle.lt_section.specs.declared.answers.SectionVerdict.TheVariants.{Live, Dead, Combination}
use Rattle.lt_section.specs.Filled.{filled, AreFilledNormals}
use Rattle.lt_section.specs.Lowered.{IsLowered}
use Rattle.lt_section.specs.Rows.{IsSectionFacet, IsWallAt, IsDeadBy, IsZeroEdge, IsRightVerdict}
use Rattle.lt_section.specs.Decided.{AreNotZeroAt, IsFirstZero, IsFormAt, IsVerdictOn}
use Rattle.lt_section.proofs.Filling.{length-filled}
use Rattle.lt_section.proofs.Fronts.{dot-filled, dot-both_filled, take-plus, take-zeros, take-scale, take-combine}
use Rattle.lt_section.proofs.Lowering.{lowered_length}
use Rattle.lt_section.proofs.Sectioned.{fronts, count, at_place, front_at, normal_at, normal_length, are_section_normals}

-- ---- the first form lies in the section

combine-none : (n k : ℕ) (fs : List (List ℤ)) → All (λ f. length f ≡ n) fs → (x : List ℤ) → length x ≡ n → plus x (combine (zeros k) fs) ≡ x
combine-none n zero fs all x l = plus-nil x
combine-none n (suc k) [] all x l = plus-nil x
combine-none n (suc k) (f ∷ fs) all x l =
    let z : scale (pos 0) f ≡ zeros n = zero_scale f ∙ ap zeros (All-head (λ (g : List ℤ). length g ≡ n) f fs all) in
    sym (plus_assoc x (scale (pos 0) f) (combine (zeros k) fs)) ∙ ap (λ (y : List ℤ). plus (plus x y) (combine (zeros k) fs)) z ∙ ap (λ (y : List ℤ). plus y (combine (zeros k) fs)) (plus-zeros n x l)
    ∙ combine-none n k fs (All-tail (λ (g : List ℤ). length g ≡ n) f fs all) x l

pub in_section : (d : ℕ) (t : List (List (List ℤ))) (fs : List (List ℤ)) → All (λ f. length f ≡ numbers_of_form d) fs → 0 < length fs → IsDelaunay d (get_or fs 0 []) t → IsSection d t fs
in_section d t fs all some del = record {
  forms = recursion_from_All (λ (f : List ℤ). length f ≡ numbers_of_form d) fs all;
  inside = unit (length fs) 0;
  numbers = length-unit (length fs) 0;
  delaunay = subst (λ (q : List ℤ). IsDelaunay d q t) (sym (first fs all some)) del;
}
  where
    first : (gs : List (List ℤ)) → All (λ f. length f ≡ numbers_of_form d) gs → 0 < length gs → combine (unit (length gs) 0) gs ≡ get_or gs 0 []
    first [] a s = absurd (omega arith)
    first (g ∷ gs) a s =
        ap (λ (x : List ℤ). plus x (combine (zeros (length gs)) gs)) (scale-one g)
        ∙ combine-none (numbers_of_form d) (length gs) gs (All-tail (λ (f : List ℤ). length f ≡ numbers_of_form d) g gs a) g (All-head (λ (f : List ℤ). length f ≡ numbers_of_form d) g gs a)

module _ (d : ℕ) (t : List (List (List ℤ))) (fs ns : List (List ℤ)) (h : AreFilledNormals d t fs ns) (few : length fs ≤ numbers_of_form d) where
  abbrev rs : List (List ℤ)
  rs = fronts d t fs ns h few

  -- a filled normal at a form is a positive multiple of the restricted normal at the numbers that stand in front
  at_wall : (w s : List ℤ) (l : IsLowered (take (length fs) w) s) (i : ℕ) → i < length ns → dot (get_or ns i []) w ≡ pos l.factor *ℤ dot (get_or rs i []) s
  at_wall w s l i li =
      let r : List ℤ = get_or rs i [] in
      let e = normal_length d t fs r (normal_at d t fs ns h few i li) in
      ap (λ (x : List ℤ). dot x w) (at_place d t fs ns h few i li) ∙ dot-filled (length fs) (numbers_of_form d) r w e ∙ ap (dot r) l.times ∙ dot-scale r (pos l.factor) s

  -- two places hold two normals
  other_place : (i k : ℕ) → i < length ns → k < length ns → get_or rs i [] ≡ get_or rs k [] → i ≡ k
  other_place i k li lk e =
      one_place number_list_cmp number_list_cmp_total ns i k [] h.ascending li lk (at_place d t fs ns h few i li ∙ ap (filled (numbers_of_form d)) e ∙ sym (at_place d t fs ns h few k lk))

  pub wall_from : (k : ℕ) (w s : List ℤ) → k < length ns → IsRightWall d ns k w → IsLowered (take (length fs) w) s → IsSectionWall d t fs (get_or rs k []) s
  wall_from k w s lk v l = record {
    normal = normal_at d t fs ns h few k lk;
    numbers = lowered_length (length fs) w s l (let e = v.numbers in omega (arith, e, few));
    zero_there = none (dot (get_or rs k []) s) l.factor l.some (sym (at_wall w s l k lk) ∙ v.zero_there);
    others = λ m n ne. other m ne (((are_section_normals d t fs ns h few).members m).1 n);
  }
    where
      none : (x : ℤ) (f : ℕ) → 0 < f → pos f *ℤ x ≡ pos 0 → x ≡ pos 0
      none x f p e = elim (zero_or_not x) [ inl z ↦ z | inr n ↦ absurd (mul-not_zero (pos f) x (λ q. (omega (arith, ints, p, q))) n e) ]

      other : (m : List ℤ) → m ≢ get_or rs k [] → Contains rs m → pos 0 <ℤ dot m s
      other m ne (j, lj, e) =
          let here : get_or rs j [] ≡ m = get_or_default rs j [] m lj ∙ e in
          let lj' : j < length ns = (let c = count d t fs ns h few in omega (arith, lj, c)) in
          let apart : j ≢ k = λ q. ne (sym here ∙ ap (λ (i : ℕ). get_or rs i []) q) in
          let p : pos 0 <ℤ (pos l.factor *ℤ dot (get_or rs j []) s) = subst (λ (z : ℤ). pos 0 <ℤ z) (at_wall w s l j lj') (v.others j lj' apart) in
          let f = l.some in
          subst (λ (x : List ℤ). pos 0 <ℤ dot x s) here (from_multiple (pos l.factor) (dot (get_or rs j []) s) (omega (arith, ints, f)) p)

  pub no_facet : (k : ℕ) → k < length ns → (HasWallForm (numbers_of_form d) ns k → ⊥) → IsSectionFacet d t fs (get_or rs k []) → ⊥
  no_facet k lk never (s, w) = never (
    filled (numbers_of_form d) s,
    record {
      numbers = length-filled (numbers_of_form d) s (let e = w.numbers in omega (arith, e, few));
      zero_there = same k lk ∙ w.zero_there;
      others = λ i li ne. subst (λ (z : ℤ). pos 0 <ℤ z) (sym (same i li)) (w.others (get_or rs i []) (normal_at d t fs ns h few i li) (λ e. ne (other_place i k li lk e)));
    },
  )
    where
      same : (i : ℕ) → i < length ns → dot (get_or ns i []) (filled (numbers_of_form d) s) ≡ dot (get_or rs i []) s
      same i li =
          let e = normal_length d t fs (get_or rs i []) (normal_at d t fs ns h few i li) in
          ap (λ (x : List ℤ). dot x (filled (numbers_of_form d) s)) (at_place d t fs ns h few i li) ∙ dot-both_filled (numbers_of_form d) (get_or rs i []) s (e ∙ sym w.numbers)

  -- ---- combinations

  fronts_of : (ps : List ℕ) → All (λ i. i < length ns) ps → map (take (length fs)) (map (λ i. get_or ns i []) ps) ≡ map (λ i. get_or rs i []) ps
  fronts_of [] all = refl
  fronts_of (p ∷ ps) all =
      ap₂ (λ (x : List ℤ) (l : List (List ℤ)). x ∷ l) (sym (front_at d t fs ns h few p (All-head (λ (i : ℕ). i < length ns) p ps all))) (fronts_of ps (All-tail (λ (i : ℕ). i < length ns) p ps all))

  pub combination_from : (k : ℕ) (factor : ℤ) (terms : List (ℕ × ℤ)) → k < length ns → IsRightCombination d ns k factor terms → IsRightCombination d rs k factor terms
  combination_from k factor terms lk c = record {
    some = c.some;
    few = c.few;
    ascending = c.ascending;
    within = subst (λ (n : ℕ). All (λ i. i < n) (places terms)) (sym (count d t fs ns h few)) c.within;
    other = c.other;
    positive = c.positive;
    below = c.below;
    primitive = c.primitive;
    sum =
        ap₂ plus (ap (λ (v : List ℤ). zeros (length v)) (front_at d t fs ns h few k lk) ∙ sym (take-zeros (length fs) (get_or ns k [])))
        (ap (combine (coefficients terms)) (sym (fronts_of (places terms) c.within)) ∙ sym (take-combine (length fs) (coefficients terms) (map (λ i. get_or ns i []) (places terms))))
        ∙ sym (take-plus (length fs) (zeros (length (get_or ns k []))) (combine (coefficients terms) (map (λ i. get_or ns i []) (places terms))))
        ∙ ap (take (length fs)) c.sum ∙ take-scale (length fs) factor (get_or ns k []) ∙ ap (scale factor) (sym (front_at d t fs ns h few k lk));
  }

  -- ---- live and dead

  module _ (sec : IsSection d t fs) (xs : List (List ℤ)) (e : AreEdges d t xs) where
    edge_at : (k : ℕ) → k < length xs → IsEdge d t (get_or xs k [])
    edge_at k l = (e.members (get_or xs k [])).0 (Contains-get_or xs k [] l)

    live_from : (r s q : List ℤ) → IsSectionWall d t fs r s → q ≡ combine s fs → AreNotZeroAt q xs (length xs) → IsLive d t fs r
    live_from r s q w f none = at (live_or_dead d t fs r s sec w).0
      where
        not_dead : IsDead d t fs r → ⊥
        not_dead (u, edge, zeros_there) = in_list ((e.members u).1 edge)
          where
            in_list : Contains xs u → ⊥
            in_list (j, lj, g) = none j lj (ap (value q) (get_or_default xs j [] u lj ∙ g) ∙ ap (λ (x : List ℤ). value x u) f ∙ zeros_there s w)

        at : IsLive d t fs r ⊎ IsDead d t fs r → IsLive d t fs r
        at (inl l) = l
        at (inr b) = absurd (not_dead b)

    not_zero : (u : List ℤ) → IsEdge d t u → u ≢ zeros d
    not_zero u edge z = never_below_itself number_list_cmp number_list_cmp_total (zeros d) (subst (λ (w : List ℤ). number_list_cmp (zeros d) w ≡ Less) z edge.positive)

    first_edge : (q x : List ℤ) → IsFirstZero q xs x → IsFirst (IsZeroEdge d t q) x
    first_edge q x f = first_in (IsZeroEdge d t q) xs f.place x e.ascending f.within f.is (edge_at f.place f.within, f.zero_there) (λ j l b. f.before j l b.1) (λ y b. (e.members y).1 b.0)

    dead_from : (r s q x : List ℤ) → IsSectionWall d t fs r s → q ≡ combine s fs → IsFirstZero q xs x → IsDeadBy d t fs r x
    dead_from r s q x w f z =
        let edge = (first_edge q x z).is.0 in
        let here : value (combine s fs) x ≡ pos 0 = ap (λ (y : List ℤ). value y x) (sym f) ∙ (first_edge q x z).is.1 in
        record {
          dimension = (edge_place d (combine sec.inside fs) t x sec.delaunay edge).dimension;
          some = not_zero x edge;
          zero_there = (one_wall_tells d t fs r s sec w).0 x edge here;
        }

    wall_at : (k : ℕ) (w s q : List ℤ) → k < length ns → IsRightWall d ns k w → IsFormAt fs w s q → IsWallAt d t fs (get_or rs k []) s q
    wall_at k w s q lk v f = record { wall = wall_from k w s lk v f.0; lowest = f.0.lowest; form = f.1 }

    pub right_verdict : (k : ℕ) (v : SectionVerdict) → k < length ns → IsVerdictOn d fs ns xs k v → IsRightVerdict d t fs rs k v
    right_verdict k (Live at form) lk (w, wall, p) = (wall_at k w at.items form lk wall p.0, live_from (get_or rs k []) at.items form (wall_from k w at.items lk wall p.0.0) p.0.1 p.1)
    right_verdict k (Dead at form x) lk (w, wall, p) = (wall_at k w at.items form lk wall p.0, first_edge form x p.1, dead_from (get_or rs k []) at.items form x (wall_from k w at.items lk wall p.0.0) p.0.1 p.1)
    right_verdict k (Combination factor terms) lk (c, never) = (combination_from k factor terms.items lk c, no_facet k lk never)
