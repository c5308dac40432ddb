-- The neighbour of the path of an order at each facet, and the normal of the pair.
use Rattle.std.proofs.Common.{◌≡◌, ◌≢◌, ℕ, zero, suc, ℤ, pos, negsuc, ◌+ℤ◌, ◌-ℤ◌, neg_ℤ, ◌<◌, ◌≤◌, refl, ap, ap₂, arith, sym, ◌∙◌, subst, List, [], ◌∷◌, ◌++◌, length, get_or, ◌⊎◌, inl, inr}
use Rattle.std.proofs.lemmas.Int.{ints}
use Rattle.std.specs.List.{Contains}
use Rattle.lt_model.proofs.Squares.{length-scale, length-plus, value-sum}
use Rattle.lt_model.proofs.Vectors.{dot-plus, dot-scale, dot_comm, plus_comm, plus_assoc}
use Rattle.lt_model.proofs.Excess.{gradient}
use Rattle.lt_model.proofs.Opposite.{length-unit, length-zeros, zeros-dot}
use Rattle.lt_model.proofs.Moved.{plus-back}
use Rattle.lt_model.proofs.Sets.{Contains-head, Contains-tail, Contains-cases, Contains-none}
use Rattle.lt_geometry.proofs.LocalWalk.{delaunay_from_paving}
use Rattle.lt_model.specs.Vectors.{plus, scale, dot, zeros, unit, ones}
use Rattle.lt_model.specs.Forms.{value, cross, polar}
use Rattle.lt_model.specs.Simplices.{AllOfDimension, IsClass, IsStrictlyEmpty, translate}
use Rattle.lt_model.specs.Facets.{number_at, without, IsBeyond, IsNeighbour, IsClosed}
use Rattle.lt_model.specs.Triangulations.{IsDelaunay}
use Rattle.lt_geometry.specs.Paving.{IsPaving}
use Rattle.lt_model.specs.Principal.{IsOrder, IsPrincipal, path_from, principal_class, principal_rows}
use Rattle.lt_geometry.specs.Principal.{pair_normal, own_normal, IsPrincipalNormal}
use Rattle.lt_geometry.proofs.Places.{AreDifferent, order_whole}
use Rattle.lt_geometry.proofs.Reading.{length-ones}
use Rattle.lt_geometry.proofs.Paths.{IsFree, free_next, free_order, step_own, step_other, length-path, path_all, path_first, same_numbers, same_or_not, length-step, principal_is_class, principal_is_empty}
use Rattle.lt_geometry.proofs.Closed.{IsThird, third_beyond, swapped, swapped_order, swapped_facet, swapped_sum, place_at, last_first, first_last, translate-path, translate-zeros, end_of, last_is, longer_path, without_last, get_last, get_before, get_dimension, principal_positive}

-- the normal of the pair is that of Q at the vertex and v_i less Q at v_j and v_k
pub record HasNeighbour (d : ℕ) (t : List (List (List ℤ))) (s : List (List ℤ)) (i : ℕ) (normal : List ℤ) : Type 0 where
  pub next : List (List ℤ)
  pub shift : List ℤ
  pub outer : ℕ
  pub neighbour : IsNeighbour d t s i next shift outer
  pub vertex : List ℤ
  pub is_vertex : vertex ≡ get_or (translate shift next) outer []
  pub dimension : length vertex ≡ d
  pub j : ℕ
  pub k : ℕ
  pub third : IsThird s vertex i j k
  pub stated : IsPrincipalNormal d normal
  pub values : (q : List ℤ) → value q vertex +ℤ value q (get_or s i []) -ℤ value q (get_or s j []) -ℤ value q (get_or s k []) ≡ dot q normal

-- ---- the polar form

pub polar-plus : (q x y z : List ℤ) → length x ≡ length z → length y ≡ length z → polar q (plus x y) z ≡ polar q x z +ℤ polar q y z
polar-plus q x y z lx ly =
    let g = gradient q z in
    g.1 (plus x y) (length-plus x y (lx ∙ sym ly) ∙ lx) ∙ dot-plus g.0 x y ∙ ap₂ (λ (a b : ℤ). a +ℤ b) (sym (g.1 x lx)) (sym (g.1 y ly))

pub cross_comm : (x y : List ℤ) → cross x y ≡ cross y x
cross_comm [] [] = refl
cross_comm [] (b ∷ y) = refl
cross_comm (a ∷ x) [] = refl
cross_comm (a ∷ x) (b ∷ y) = ap₂ (λ (l m : List ℤ). l ++ m) (plus_comm (scale a (b ∷ y)) (scale b (a ∷ x))) (cross_comm x y)

pub polar-zeros : (d : ℕ) (q z : List ℤ) → length z ≡ d → polar q (zeros d) z ≡ pos 0
polar-zeros d q z lz =
    let g = gradient q z in
    g.1 (zeros d) (length-zeros d ∙ sym lz) ∙ dot_comm g.0 (zeros d) ∙ zeros-dot d g.0

pair_stated : (d i j : ℕ) → i ≢ j → i < d → j < d → (n : List ℤ) × IsPrincipalNormal d n × ((q : List ℤ) → dot q n ≡ neg_ℤ (polar q (unit d i) (unit d j)))
pair_stated d i j n hi hj = elim (below i j) [ inl h ↦ (pair_normal d i j, inl (i, j, h, hj, refl), λ q. at q i j) | inr h ↦ (pair_normal d j i, inl (j, i, above h, hi, refl), λ q. at q j i ∙ ap (λ (m : List ℤ). neg_ℤ (dot q m)) (cross_comm (unit d j) (unit d i))) ]
  where
    below : (i j : ℕ) → (i < j) ⊎ (j ≤ i)
    below i zero = inr (omega arith)
    below zero (suc j) = inl (omega arith)
    below (suc i) (suc j) = elim (below i j) [ inl h ↦ inl (omega arith) | inr h ↦ inr (omega arith) ]

    above : j ≤ i → j < i
    above h = omega (arith, n)

    at : (q : List ℤ) (i j : ℕ) → dot q (pair_normal d i j) ≡ neg_ℤ (polar q (unit d i) (unit d j))
    at q i j = dot-scale q (negsuc 0) (cross (unit d i) (unit d j)) ∙ (omega (arith, ints))

-- ---- in the middle

swapped_values : (d i : ℕ) (q u : List ℤ) (p : List ℕ) → suc i < length p → length u ≡ d →
    value q (get_or (path_from d u (swapped i p)) (suc i) []) +ℤ value q (get_or (path_from d u p) (suc i) []) -ℤ value q (get_or (path_from d u p) i []) -ℤ value q (get_or (path_from d u p) (suc (suc i)) [])
    ≡ neg_ℤ (polar q (unit d (place_at i p)) (unit d (place_at (suc i) p)))
swapped_values d i q u [] h lu = absurd (omega arith)
swapped_values d i q u (a ∷ []) h lu = absurd (omega arith)
swapped_values d zero q u (a ∷ b ∷ p) h lu =
    let e1 : get_or (path_from d (plus (plus u (unit d b)) (unit d a)) p) 0 [] ≡ plus (plus u (unit d b)) (unit d a) = path_first d (plus (plus u (unit d b)) (unit d a)) p in
    let e2 : get_or (path_from d (plus (plus u (unit d a)) (unit d b)) p) 0 [] ≡ plus (plus u (unit d a)) (unit d b) = path_first d (plus (plus u (unit d a)) (unit d b)) p in
    let la : length (plus u (unit d a)) ≡ length (unit d b) = length-step d a u lu ∙ sym (length-unit d b) in
    let lb : length u ≡ length (unit d b) = lu ∙ sym (length-unit d b) in
    let lc : length (unit d a) ≡ length (unit d b) = length-unit d a ∙ sym (length-unit d b) in
    rw e2 (omega (arith, ints, value-sum q u (unit d b) lb, value-sum q (plus u (unit d a)) (unit d b) la, polar-plus q u (unit d a) (unit d b) lb lc))
swapped_values d (suc i) q u (a ∷ b ∷ p) h lu = swapped_values d i q (plus u (unit d a)) (b ∷ p) (omega arith) (length-step d a u lu)

contains_place : (p : List ℕ) (i : ℕ) → i < length p → Contains p (place_at i p)
contains_place [] i h = absurd (omega arith)
contains_place (a ∷ p) zero h = Contains-head a p
contains_place (a ∷ p) (suc i) h = Contains-tail a p (place_at i p) (contains_place p i (omega arith))

different_places : (p : List ℕ) (i : ℕ) → AreDifferent p → suc i < length p → place_at i p ≢ place_at (suc i) p
different_places [] i h l e = absurd (omega arith)
different_places (a ∷ []) i h l e = absurd (omega arith)
different_places (a ∷ b ∷ p) zero h l e = h.0 (subst (λ (x : ℕ). Contains (b ∷ p) x) (sym e) (Contains-head b p))
different_places (a ∷ b ∷ p) (suc i) h l e = different_places (b ∷ p) i h.1 (omega arith) e

pub middle : (d : ℕ) (t : List (List (List ℤ))) (p : List ℕ) (i : ℕ) (n : List ℤ) → IsPrincipal d t → IsOrder d p → suc i < d → IsPrincipalNormal d n → ((q : List ℤ) → dot q n ≡ neg_ℤ (polar q (unit d (place_at i p)) (unit d (place_at (suc i) p)))) →
    HasNeighbour d t (principal_class d p) (suc i) n
middle d t p i n pr o h stated is =
    let hp : suc i < length p = omega (arith, o.count) in
    let next = principal_class d (swapped i p) in
    let vs = principal_class d p in
    let here : AllOfDimension d vs = path_all d (zeros d) p (length-zeros d) in
    let there : AllOfDimension d next = path_all d (zeros d) (swapped i p) (length-zeros d) in
    let same : translate (zeros d) next ≡ next = translate-zeros d next there in
    let v : List ℤ = get_or next (suc i) [] in
    let ln : length next ≡ suc d = length-path d (zeros d) (swapped i p) ∙ ap suc (swapped_order d i p o).count in
    let lv : length vs ≡ suc d = length-path d (zeros d) p ∙ ap suc o.count in
    let dim : length v ≡ d = get_dimension d next (suc i) there (omega (arith, ln)) in
    let third : IsThird vs v (suc i) i (suc (suc i)) = record {
      first = omega (arith, lv);
      second = omega (arith, lv);
      third = omega (arith, lv);
      apart = λ e. absurd (omega arith);
      apart_too = λ e. absurd (omega arith);
      is = λ u. swapped_sum d i (zeros d) p hp u;
    } in
    record {
      next = next;
      shift = zeros d;
      outer = suc i;
      neighbour = record {
        member = (pr.members next).1 (swapped i p, swapped_order d i p o, refl);
        dimension = length-zeros d;
        place = omega arith;
        facet = ap (without (suc i)) same ∙ swapped_facet d i (zeros d) p;
        beyond = subst (λ (l : List (List ℤ)). IsBeyond vs (suc i) (get_or l (suc i) [])) (sym same) (third_beyond d vs v (suc i) i (suc (suc i)) here dim third);
      };
      vertex = v;
      is_vertex = ap (λ (l : List (List ℤ)). get_or l (suc i) []) (sym same);
      dimension = dim;
      j = i;
      k = suc (suc i);
      third = third;
      stated = stated;
      values = λ q. swapped_values d i q (zeros d) p hp (length-zeros d) ∙ sym (is q);
    }

-- ---- at the ends

pub number_at-ones : (d j : ℕ) → j < d → number_at j (ones d) ≡ pos 1
number_at-ones zero j h = absurd (omega arith)
number_at-ones (suc d) zero h = refl
number_at-ones (suc d) (suc j) h = number_at-ones d j (omega arith)

length-end : (d : ℕ) (u : List ℤ) (p : List ℕ) → length u ≡ d → length (end_of d u p) ≡ d
length-end d u [] lu = lu
length-end d u (k ∷ p) lu = length-end d (plus u (unit d k)) p (length-step d k u lu)

end_keeps : (d j : ℕ) (u : List ℤ) (p : List ℕ) → (Contains p j → ⊥) → number_at j (end_of d u p) ≡ number_at j u
end_keeps d j u [] n = refl
end_keeps d j u (k ∷ p) n =
    end_keeps d j (plus u (unit d k)) p (λ c. n (Contains-tail k p j c)) ∙ step_other d k j u (λ e. n (subst (λ (x : ℕ). Contains (k ∷ p) x) (sym e) (Contains-head k p)))

end_number : (d j : ℕ) (u : List ℤ) (p : List ℕ) → IsFree d u p → Contains p j → number_at j (end_of d u p) ≡ pos 1
end_number d j u [] h c = Contains-none j c
end_number d j u (k ∷ p) h c =
    elim (Contains-cases k p j c) [
      | inl e ↦ subst (λ (i : ℕ). number_at i (end_of d (plus u (unit d k)) p) ≡ pos 1) e own
      | inr r ↦ end_number d j (plus u (unit d k)) p (free_next d k u p h) r
    ]
  where
    own : number_at k (end_of d (plus u (unit d k)) p) ≡ pos 1
    own =
        let at_u : number_at k u ≡ pos 0 = h.empty k (Contains-head k p) in
        end_keeps d k (plus u (unit d k)) p h.different.0 ∙ step_own d k u (h.below k (Contains-head k p)) ∙ (omega (arith, ints, at_u))

pub end_ones : (d : ℕ) (p : List ℕ) → IsOrder d p → end_of d (zeros d) p ≡ ones d
end_ones d p o =
    same_numbers d (end_of d (zeros d) p) (ones d) (length-end d (zeros d) p (length-zeros d)) (length-ones d)
    (λ j l. end_number d j (zeros d) p (free_order d p o) (o.each j l) ∙ sym (number_at-ones d j l))

end_longer : (d : ℕ) (u : List ℤ) (p : List ℕ) (k : ℕ) → end_of d u (p ++ (k ∷ [])) ≡ plus (end_of d u p) (unit d k)
end_longer d u [] k = refl
end_longer d u (a ∷ p) k = end_longer d (plus u (unit d a)) p k

pub first : (d : ℕ) (t : List (List (List ℤ))) (a : ℕ) (p : List ℕ) → IsPrincipal d t → IsOrder d (a ∷ p) → HasNeighbour d t (principal_class d (a ∷ p)) 0 (own_normal d a)
first d t a p pr o =
    let z : List ℤ = zeros d in
    let e : List ℤ = unit d a in
    let le : length e ≡ d = length-unit d a in
    let start : List ℤ = plus z e in
    let last : List ℤ = end_of d start p in
    let v : List ℤ = plus last e in
    let next = principal_class d (p ++ (a ∷ [])) in
    let rest = path_from d start p in
    let vs = principal_class d (a ∷ p) in
    let lr : length rest ≡ d = length-path d start p ∙ o.count in
    let llast : length last ≡ d = length-end d start p (length-step d a z (length-zeros d)) in
    let moved : translate e next ≡ rest ++ (v ∷ []) = translate-path d e z (p ++ (a ∷ [])) ∙ longer_path d start p a in
    let outer : get_or (translate e next) d [] ≡ v = ap (λ (l : List (List ℤ)). get_or l d []) moved ∙ ap (λ (m : ℕ). get_or (rest ++ (v ∷ [])) m []) (sym lr) ∙ get_last rest v [] in
    let facet : without d (translate e next) ≡ rest = ap (without d) moved ∙ ap (λ (m : ℕ). without m (rest ++ (v ∷ []))) (sym lr) ∙ without_last rest v in
    let dim : length v ≡ d = length-step d a last llast in
    let here : AllOfDimension d vs = path_all d z (a ∷ p) (length-zeros d) in
    let at_one : get_or rest 0 [] ≡ start = path_first d start p in
    let at_last : get_or rest (length p) [] ≡ last = last_is d start p in
    let third : IsThird vs v 0 1 (suc (length p)) = record {
      first = omega arith;
      second = omega (arith, length-path d start p);
      third = omega (arith, length-path d start p);
      apart = λ e. absurd (omega arith);
      apart_too = λ e. absurd (omega arith);
      is = λ u. rw (at_one, at_last) (omega (arith, ints, dot-plus u last e, dot-plus u z e));
    } in
    record {
      next = next;
      shift = e;
      outer = d;
      neighbour = record {
        member = (pr.members next).1 (p ++ (a ∷ []), last_first d a p o, refl);
        dimension = le;
        place = omega arith;
        facet = facet;
        beyond = subst (λ (x : List ℤ). IsBeyond vs 0 x) (sym outer) (third_beyond d vs v 0 1 (suc (length p)) here dim third);
      };
      vertex = v;
      is_vertex = sym outer;
      dimension = dim;
      j = 1;
      k = suc (length p);
      third = third;
      stated = inr (a, (order_whole d (a ∷ p) o).below a (Contains-head a p), refl);
      values = λ q. rw (at_one, at_last) (at q last start llast (end_ones d (a ∷ p) o));
    }
  where
    at : (q last start : List ℤ) → length last ≡ d → last ≡ ones d →
        value q (plus last (unit d a)) +ℤ value q (zeros d) -ℤ value q (plus (zeros d) (unit d a)) -ℤ value q last ≡ polar q (ones d) (unit d a)
    at q last start ll is =
        let e1 = value-sum q last (unit d a) (ll ∙ sym (length-unit d a)) in
        let e2 = value-sum q (zeros d) (unit d a) (length-zeros d ∙ sym (length-unit d a)) in
        let e3 = polar-zeros d q (unit d a) (length-unit d a) in
        let e4 : polar q last (unit d a) ≡ polar q (ones d) (unit d a) = ap (λ (x : List ℤ). polar q x (unit d a)) is in
        omega (arith, ints, e1, e2, e3, e4)

last : (d : ℕ) (t : List (List (List ℤ))) (a : ℕ) (p : List ℕ) → IsPrincipal d t → IsOrder d (p ++ (a ∷ [])) → HasNeighbour d t (principal_class d (p ++ (a ∷ []))) d (own_normal d a)
last d t a p pr o =
    let z : List ℤ = zeros d in
    let e : List ℤ = unit d a in
    let m : List ℤ = scale (negsuc 0) e in
    let le : length e ≡ d = length-unit d a in
    let lm : length m ≡ d = length-scale (negsuc 0) e ∙ le in
    let v : List ℤ = plus z m in
    let front = path_from d z p in
    let end : List ℤ = end_of d z p in
    let tip : List ℤ = plus end e in
    let next = principal_class d (a ∷ p) in
    let vs = principal_class d (p ++ (a ∷ [])) in
    let is : vs ≡ front ++ (tip ∷ []) = longer_path d z p a in
    let o' = first_last d a p o in
    let lf : length front ≡ d = length-path d z p ∙ o'.count in
    let back : plus (plus z e) m ≡ z = plus-back d z e (length-zeros d) le in
    let moved : translate m next ≡ v ∷ front = ap (λ (l : List (List ℤ)). v ∷ l) (translate-path d m (plus z e) p ∙ ap (λ (x : List ℤ). path_from d x p) back) in
    let dim : length v ≡ d = length-plus z m (length-zeros d ∙ sym lm) ∙ length-zeros d in
    let here : AllOfDimension d vs = path_all d z (p ++ (a ∷ [])) (length-zeros d) in
    let at_first : get_or vs 0 [] ≡ z = path_first d z (p ++ (a ∷ [])) in
    let at_before : get_or vs (length p) [] ≡ end =
    ap (λ (l : List (List ℤ)). get_or l (length p) []) is ∙ get_before front tip [] (length p) (omega (arith, length-path d z p)) ∙ last_is d z p
    in
    let at_tip : get_or vs d [] ≡ tip = ap (λ (l : List (List ℤ)). get_or l d []) is ∙ ap (λ (n : ℕ). get_or (front ++ (tip ∷ [])) n []) (sym lf) ∙ get_last front tip [] in
    let lv : length vs ≡ suc d = length-path d z (p ++ (a ∷ [])) ∙ ap suc o.count in
    let lp : suc (length p) ≡ d = o'.count in
    let third : IsThird vs v d 0 (length p) = record {
      first = omega (arith, lv);
      second = omega (arith, lv);
      third = omega (arith, lv);
      apart = λ e. absurd (omega arith);
      apart_too = λ e. absurd (omega arith);
      is = λ u. rw (at_first, at_before, at_tip) (omega (arith, ints, dot-plus u z m, dot-plus u end e, dot-scale u (negsuc 0) e));
    } in
    record {
      next = next;
      shift = m;
      outer = 0;
      neighbour = record {
        member = (pr.members next).1 (a ∷ p, o', refl);
        dimension = lm;
        place = omega arith;
        facet = ap (without 0) moved ∙ sym (ap (without d) is ∙ ap (λ (n : ℕ). without n (front ++ (tip ∷ []))) (sym lf) ∙ without_last front tip);
        beyond = third_beyond d vs v d 0 (length p) here dim third;
      };
      vertex = v;
      is_vertex = refl;
      dimension = dim;
      j = 0;
      k = length p;
      third = third;
      stated = inr (a, (order_whole d (a ∷ p) o').below a (Contains-head a p), refl);
      values = λ q. rw (at_first, at_before, at_tip) (at q v end dim (length-end d z p (length-zeros d)) (ahead v m e dim back lm le refl) (sym (end_longer d z p a) ∙ end_ones d (p ++ (a ∷ [])) o));
    }
  where
    ahead : (v m e : List ℤ) → length v ≡ d → plus (plus (zeros d) e) m ≡ zeros d → length m ≡ d → length e ≡ d → v ≡ plus (zeros d) m → plus v e ≡ zeros d
    ahead v m e lv back lm le is = ap (λ (x : List ℤ). plus x e) is ∙ plus_assoc (zeros d) m e ∙ ap (plus (zeros d)) (plus_comm m e) ∙ sym (plus_assoc (zeros d) e m) ∙ back

    at : (q v end : List ℤ) → length v ≡ d → length end ≡ d → plus v (unit d a) ≡ zeros d → plus end (unit d a) ≡ ones d →
        value q v +ℤ value q (plus end (unit d a)) -ℤ value q (zeros d) -ℤ value q end ≡ polar q (ones d) (unit d a)
    at q v end lv lend b is =
        let le : d ≡ length (unit d a) = sym (length-unit d a) in
        let e1 = value-sum q end (unit d a) (lend ∙ le) in
        let e2 : value q (zeros d) ≡ value q v +ℤ value q (unit d a) +ℤ polar q v (unit d a) = ap (value q) (sym b) ∙ value-sum q v (unit d a) (lv ∙ le) in
        let e3 : polar q v (unit d a) +ℤ polar q (unit d a) (unit d a) ≡ pos 0 = sym (polar-plus q v (unit d a) (unit d a) (lv ∙ le) refl) ∙ ap (λ (x : List ℤ). polar q x (unit d a)) b ∙ polar-zeros d q (unit d a) (length-unit d a) in
        let e4 : polar q end (unit d a) +ℤ polar q (unit d a) (unit d a) ≡ polar q (ones d) (unit d a) = sym (polar-plus q end (unit d a) (unit d a) (lend ∙ le) refl) ∙ ap (λ (x : List ℤ). polar q x (unit d a)) is in
        omega (arith, ints, e1, e2, e3, e4)

-- ---- all facets

split_last : (p : List ℕ) → 0 < length p → (f : List ℕ) × (a : ℕ) × (p ≡ f ++ (a ∷ []))
split_last [] h = absurd (omega arith)
split_last (a ∷ []) h = ([], a, refl)
split_last (a ∷ b ∷ p) h = let r = split_last (b ∷ p) (omega arith) in (a ∷ r.0, r.1, ap (λ (l : List ℕ). a ∷ l) r.2)

abbrev pub Some : ℕ → List (List (List ℤ)) → List (List ℤ) → ℕ → Type 0
Some d t s i = (n : List ℤ) × HasNeighbour d t s i n

at_end : (d : ℕ) (t : List (List (List ℤ))) (p : List ℕ) → 1 ≤ d → IsPrincipal d t → IsOrder d p → Some d t (principal_class d p) d
at_end d t p h pr o =
    let r = split_last p (omega (arith, o.count)) in
    subst (λ (l : List ℕ). Some d t (principal_class d l) d) (sym r.2) (own_normal d r.1, last d t r.1 r.0 pr (subst (λ (l : List ℕ). IsOrder d l) r.2 o))

at_start : (d : ℕ) (t : List (List (List ℤ))) (p : List ℕ) → 1 ≤ d → IsPrincipal d t → IsOrder d p → Some d t (principal_class d p) 0
at_start d t [] h pr o = absurd (omega (arith, o.count))
at_start d t (a ∷ p) h pr o = (own_normal d a, first d t a p pr o)

between : (d : ℕ) (t : List (List (List ℤ))) (p : List ℕ) (i : ℕ) → IsPrincipal d t → IsOrder d p → suc i < d → Some d t (principal_class d p) (suc i)
between d t p i pr o h =
    let w = order_whole d p o in
    let hp : suc i < length p = omega (arith, o.count) in
    let st = pair_stated d (place_at i p) (place_at (suc i) p) (different_places p i w.different hp) (w.below (place_at i p) (contains_place p i (omega arith))) (w.below (place_at (suc i) p) (contains_place p (suc i) hp)) in
    (st.0, middle d t p i st.0 pr o h st.1 st.2)

pub has_neighbour : (d : ℕ) (t : List (List (List ℤ))) (p : List ℕ) (i : ℕ) → 1 ≤ d → IsPrincipal d t → IsOrder d p → i < suc d → Some d t (principal_class d p) i
has_neighbour d t p zero h pr o hi = at_start d t p h pr o
has_neighbour d t p (suc i) h pr o hi =
    elim (same_or_not (suc i) d) [
      | inl e ↦ subst (λ (m : ℕ). Some d t (principal_class d p) m) (sym e) (at_end d t p h pr o)
      | inr n ↦ between d t p i pr o (omega (arith, n))
    ]

pub principal_closed : (d : ℕ) (t : List (List (List ℤ))) → 1 ≤ d → IsPrincipal d t → IsClosed d t
principal_closed d t h pr s i m hi =
    let o = (pr.members s).0 m in
    let n = (has_neighbour d t o.0 i h pr o.1 hi).1 in
    (n.next, n.shift, n.outer, subst (λ (r : List (List ℤ)). IsNeighbour d t r i n.next n.shift n.outer) (sym o.2) n.neighbour)

pub principal_paving : (d : ℕ) (t : List (List (List ℤ))) → 1 ≤ d → IsPrincipal d t → IsPaving d (principal_rows d d) t
principal_paving d t h pr = record {
  classes = λ s m. let o = (pr.members s).0 m in subst (λ (r : List (List ℤ)). IsClass d r) (sym o.2) (principal_is_class d o.0 o.1);
  empty = λ s m. let o = (pr.members s).0 m in subst (λ (r : List (List ℤ)). IsStrictlyEmpty d (principal_rows d d) r) (sym o.2) (principal_is_empty d o.0 o.1);
  closed = principal_closed d t h pr;
}

-- the numbers below d, the greatest first
abbrev pub down_from : ℕ → List ℕ
down_from zero = []
down_from (suc d) = d ∷ down_from d

pub down_order : (d : ℕ) → IsOrder d (down_from d)
down_order zero = record { count = refl; each = λ j l. absurd (omega arith) }
down_order (suc d) = record {
  count = ap suc (down_order d).count;
  each = λ j l. elim (same_or_not d j) [
    | inl e ↦ subst (λ (x : ℕ). Contains (d ∷ down_from d) x) e (Contains-head d (down_from d))
    | inr n ↦ Contains-tail d (down_from d) j ((down_order d).each j (omega (arith, n)))
  ];
}

some_member : {X : Type 0} (xs : List X) (x : X) → Contains xs x → 0 < length xs
some_member [] x h = Contains-none x h
some_member (y ∷ xs) x h = omega arith

pub principal_delaunay : (d : ℕ) (t : List (List (List ℤ))) → 1 ≤ d → IsPrincipal d t → IsDelaunay d (principal_rows d d) t
principal_delaunay d t h pr =
    delaunay_from_paving d (principal_rows d d) t (principal_positive d) (principal_paving d t h pr)
    (some_member t (principal_class d (down_from d)) ((pr.members (principal_class d (down_from d))).1 (down_from d, down_order d, refl))) pr.ascending
