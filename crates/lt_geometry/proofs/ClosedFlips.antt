-- The flipped list is closed under facets in the model's sense.
use Rattle.std.proofs.Common.{List, [], ◌∷◌, length, get_or, ◌≡◌, ℕ, zero, suc, ◌<◌, ◌≤◌, ◌⊎◌, inl, inr, refl, sym, ◌∙◌, ap, subst, arith, ℤ, pos, neg_ℤ, ◌<ℤ◌, ◌≤ℤ◌}
use Rattle.std.proofs.lemmas.Int.{ints}
use Rattle.std.specs.List.{Contains}
use Rattle.std.specs.List.Sorted.{IsStrictlySortedBy}
use Rattle.std.specs.declared.cmp.Ordering.TheVariants.{Less}
use Rattle.lt_walls.proofs.Lists.{Alike, alike-refl, alike-sym, alike-trans, alike-cancel, alike-second, In, in-nil, in-head, in-cases, in-alike, upd, upd-at}
use Rattle.lt_walls.proofs.Space.{Expr, Opp, opp-expr}
use Rattle.lt_walls.proofs.Walls.{Tri}
use Rattle.lt_walls.proofs.Ellipsoid.{expr-alike}
use Rattle.lt_walls.proofs.Flip.{Flipped, Next, flipped-closed, flipped-alike, flipped-simp}
use Rattle.lt_walls.proofs.Margins.{moved}
use Rattle.lt_geometry.proofs.Points.{Vec, list, length-list, vec-dec, Form, space}
use Rattle.lt_geometry.proofs.Members.{lists, of_lists, all_lists, to_in, from_in, row, to_expression, shift, Placed}
use Rattle.lt_geometry.proofs.Ties.{lists-moved}
use Rattle.lt_geometry.proofs.Pairs.{base_placed}
use Rattle.lt_geometry.proofs.FlippedSets.{IsFlipped, flip_is_delaunay}
use Rattle.lt_geometry.proofs.WallLaws.{IsLocal}
use Rattle.lt_geometry.proofs.Bounds.{setting}
use Rattle.lt_model.specs.Vectors.{minus, scale, dot}
use Rattle.lt_model.specs.Order.{number_list_cmp, simplex_cmp}
use Rattle.lt_model.specs.Simplices.{IsClass, translate}
use Rattle.lt_model.specs.Facets.{without, number_at, IsBeyond, IsClosed, IsNeighbour}
use Rattle.lt_model.specs.Triangulations.{IsDelaunay}
use Rattle.lt_model.specs.Walls.{IsWallForm, IsRegulator}
use Rattle.lt_model.proofs.Sets.{Contains-cases, Contains-none, same_members, number_list_cmp_total}
use Rattle.lt_model.proofs.Translates.{ascending_translate}
use Rattle.lt_model.proofs.Dependent.{all_without}

-- a place, with the point there and the numbers of aligned lists
pub record Seat (d : ℕ) (C : List (Vec d)) (i : ℕ) (x : Vec d) : Type 0 where
  pub within : i < length (lists d C)
  pub rest : List (Vec d)
  pub alike : Alike C (x ∷ rest)
  pub lists_rest : lists d rest ≡ without i (lists d C)
  pub here : get_or (lists d C) i [] ≡ list d x
  pub number : (G : Vec d → ℤ) → number_at i (row d G C) ≡ G x

seat : (d : ℕ) (C : List (Vec d)) (i : ℕ) → i < length (lists d C) → (x : Vec d) × Seat d C i x
seat d [] i l = absurd (omega arith)
seat d (v ∷ C) zero l = (v, record { within = l; rest = C; alike = alike-refl (v ∷ C); lists_rest = refl; here = refl; number = λ G. refl })
seat d (v ∷ C) (suc i) l = let r = seat d C i (omega arith) in let s = r.1 in
    (r.0, record { within = l; rest = v ∷ s.rest; alike = alike-second v (r.0) (alike-refl (v ∷ C)) s.alike; lists_rest = ap (λ z. list d v ∷ z) s.lists_rest; here = s.here; number = λ G. s.number G })

pub find_seat : (d : ℕ) (C : List (Vec d)) (x : Vec d) → In (vec-dec d) x C → (i : ℕ) × Seat d C i x
find_seat d [] x h = absurd (in-nil h)
find_seat d (v ∷ C) x h = go (in-cases (vec-dec d) x v C h) (find_seat d C x)
  where
    go : (x ≡ v) ⊎ In (vec-dec d) x C → (In (vec-dec d) x C → (i : ℕ) × Seat d C i x) → (i : ℕ) × Seat d (v ∷ C) i x
    go (inl e) r = (0, subst (λ y. Seat d (v ∷ C) 0 y) (sym e) (record { within = omega arith; rest = C; alike = alike-refl (v ∷ C); lists_rest = refl; here = refl; number = λ G. refl }))
    go (inr k) r = let p = r k in let s = p.1 in let w : p.0 < length (lists d C) = s.within in
        (suc (p.0), record { within = omega (arith, w); rest = v ∷ s.rest; alike = alike-second v x (alike-refl (v ∷ C)) s.alike; lists_rest = ap (λ z. list d v ∷ z) s.lists_rest; here = s.here; number = λ G. s.number G })

ascending_without : (i : ℕ) (l : List (List ℤ)) → IsStrictlySortedBy number_list_cmp l → IsStrictlySortedBy number_list_cmp (without i l)
unfolding IsStrictlySortedBy
ascending_without i [] h = h
ascending_without zero (x ∷ l) h = h.1
ascending_without (suc i) (x ∷ l) h = (all_without (λ z. number_list_cmp x z ≡ Less) i l (h.0), ascending_without i l (h.1))

pub contains_alike : (d : ℕ) (C R : List (Vec d)) → Alike C R → (x : List ℤ) → Contains (lists d C) x → Contains (lists d R) x
contains_alike d C R k x h = at_point (some C h)
  where
    some : (C : List (Vec d)) → Contains (lists d C) x → (v : Vec d) × (list d v ≡ x)
    some [] h = Contains-none x h
    some (v ∷ S) h = elim (Contains-cases (list d v) (lists d S) x h) [ inl e ↦ (v, e) | inr r ↦ some S r ]

    at_point : (v : Vec d) × (list d v ≡ x) → Contains (lists d R) x
    at_point v = subst (Contains (lists d R)) (v.1) (from_in d R (v.0) (in-alike (to_in d C (v.0) (subst (Contains (lists d C)) (sym (v.1)) h)) k))

-- it is closed in the model's sense
pub flipped_is_closed : (d : ℕ) (two : 2 ≤ d) (t : List (List (List ℤ))) (q w : Form d) (n : List ℤ) (set : Tri (space d two) (Placed d t) (IsRegulator d t) (λ m b. dot m b.numbers) n q w) (t' : List (List (List ℤ))) → IsFlipped d two t q w n set t' → IsClosed d t'
flipped_is_closed d two t q w n set t' fl s i mem l = subst (λ r. (next : List (List ℤ)) × (p : List ℤ) × (j : ℕ) × IsNeighbour d t' r i next p j) e (from_next (flipped-closed set r a.rest fr))
  where
    C : List (Vec d)
    C = (of_lists d s ((fl.classes s mem).simplex.points)).0

    e : lists d C ≡ s
    e = (of_lists d s ((fl.classes s mem).simplex.points)).1

    memC : Contains t' (lists d C)
    memC = subst (Contains t') (sym e) mem

    cls : IsClass d (lists d C)
    cls = fl.classes (lists d C) memC

    st : (x : Vec d) × Seat d C i x
    st = seat d C i (omega (arith, l, cls.simplex.count))

    r : Vec d
    r = st.0

    a : Seat d C i r
    a = st.1

    fc : Flipped set C
    fc = fl.from C (base_placed d two t' C memC)

    fr : Flipped set (r ∷ a.rest)
    fr = flipped-alike set fc a.alike

    from_next : Next set r a.rest → (next : List (List ℤ)) × (p : List ℤ) × (j : ℕ) × IsNeighbour d t' (lists d C) i next p j
    from_next x = (lists d D, list d y, j, record { member = h.member; dimension = length-list d y; place = omega (arith, b.within, len_M); facet = ap (without j) (sym is_M) ∙ sym b.lists_rest ∙ same ∙ a.lists_rest; beyond = bd })
      where
        h : Placed d t' (x.z ∷ a.rest)
        h = fl.to (x.z ∷ a.rest) x.mem

        D : List (Vec d)
        D = h.base

        y : Vec d
        y = h.by

        M : List (Vec d)
        M = moved (shift d y) D

        clsD : IsClass d (lists d D)
        clsD = fl.classes (lists d D) h.member

        is_M : lists d M ≡ translate (list d y) (lists d D)
        is_M = lists-moved d y D

        asc_M : IsStrictlySortedBy number_list_cmp (lists d M)
        asc_M = subst (IsStrictlySortedBy number_list_cmp) (sym is_M) (ascending_translate d (list d y) (lists d D) (length-list d y) (all_lists d D) clsD.ascending)

        len_M : length (lists d M) ≡ suc d
        len_M = ap length is_M ∙ len (lists d D) ∙ clsD.simplex.count
          where
            len : (k : List (List ℤ)) → length (translate (list d y) k) ≡ length k
            len [] = refl
            len (c ∷ k) = ap suc (len k)

        sb : (j : ℕ) × Seat d M j x.z
        sb = find_seat d M x.z (in-alike (in-head (vec-dec d) x.z a.rest) h.alike)

        j : ℕ
        j = sb.0

        b : Seat d M j x.z
        b = sb.1

        al : Alike b.rest a.rest
        al = alike-cancel x.z (alike-trans (alike-sym b.alike) (alike-sym h.alike))

        same : lists d b.rest ≡ lists d a.rest
        same = same_members number_list_cmp number_list_cmp_total (lists d b.rest) (lists d a.rest)
            (subst (IsStrictlySortedBy number_list_cmp) (sym b.lists_rest) (ascending_without j (lists d M) asc_M))
            (subst (IsStrictlySortedBy number_list_cmp) (sym a.lists_rest) (ascending_without i (lists d C) cls.ascending))
            (λ u. (contains_alike d b.rest a.rest al u, contains_alike d a.rest b.rest (alike-sym al) u))

        o : Opp (space d two) r x.z a.rest
        o = x.opp

        G : Vec d → ℤ
        G = upd (vec-dec d) r (neg_ℤ o.m) o.bs

        ex : Expr (space d two) x.z C o.c G
        ex = expr-alike (opp-expr (flipped-simp set (r ∷ a.rest) fr) o) (alike-sym a.alike)

        bd : IsBeyond (lists d C) i (get_or (translate (list d y) (lists d D)) j [])
        bd = subst (IsBeyond (lists d C) i) (sym b.here ∙ ap (λ k. get_or k j []) is_M) (record {
          scale = o.c;
          coefficients = row d G C;
          expression = to_expression d two x.z C o.c G (omega (arith, cls.simplex.count)) ex;
          negative = subst (λ v. v <ℤ pos 0) (sym (a.number G ∙ upd-at (vec-dec d) r (neg_ℤ o.m) o.bs)) (omega (arith, ints, o.m_pos));
        })

-- a list of classes whose placed simplices are the flipped set is the Delaunay triangulation of m w - a for every large m
pub flipped_is_delaunay : (d : ℕ) (two : 2 ≤ d) (t : List (List (List ℤ))) (q w : Form d) (n : List ℤ) → (k : IsDelaunay d q.numbers t) (local : IsLocal d t) (wall : IsWallForm d t n w.numbers) (t' : List (List (List ℤ))) →
    IsFlipped d two t q w n (setting d two t q w n k local wall) t' → 0 < length t' → IsStrictlySortedBy simplex_cmp t' →
    (m : ℤ) × ((mu : ℤ) → m ≤ℤ mu → IsDelaunay d (minus (scale mu w.numbers) q.numbers) t')
flipped_is_delaunay d two t q w n k local wall t' fl occupied sorted = flip_is_delaunay d two t q w n k local wall t' fl occupied sorted (flipped_is_closed d two t q w n (setting d two t q w n k local wall) t' fl)
