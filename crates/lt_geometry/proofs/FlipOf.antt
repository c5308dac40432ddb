-- The flip of the model is the flipped set, so it is the Delaunay triangulation of m w - a for every large m.
use Rattle.std.proofs.Common.{List, [], ◌∷◌, length, ◌≡◌, ℕ, suc, ◌<◌, ◌≤◌, ◌⊎◌, inl, inr, sym, ◌∙◌, subst, arith, ℤ, pos, negsuc, ◌+ℤ◌, ◌*ℤ◌, ◌<ℤ◌, ◌≤ℤ◌}
use Rattle.std.proofs.lemmas.Int.{ints}
use Rattle.std.specs.List.{Contains}
use Rattle.lt_walls.proofs.Sums.{qs}
use Rattle.lt_walls.proofs.Lists.{Alike, alike-refl, alike-sym, alike-trans, alike-cons, alike-qs, qs-cons, qs-nil, In, in-head, in-tail, in-alike, negative}
use Rattle.lt_walls.proofs.Cells.{Cell, Out, Kept, New, kept-or-out}
use Rattle.lt_walls.proofs.Flip.{Flipped, flipped-simp, flipped-alike}
use Rattle.lt_walls.proofs.Margins.{moved, out-moved, flipped-moved}
use Rattle.lt_geometry.proofs.Points.{Vec, vec-dec, Form}
use Rattle.lt_geometry.proofs.Members.{lists, shift, opposite, moved_back, Placed}
use Rattle.lt_geometry.proofs.Pairs.{class_points, base_placed}
use Rattle.lt_geometry.proofs.WallLaws.{moves}
use Rattle.lt_geometry.proofs.FlippedSets.{IsFlipped}
use Rattle.lt_geometry.proofs.LocalToGlobal.{setting_of, flip_across}
use Rattle.lt_geometry.proofs.HasClasses.{HasClass, has_class, alike_length, length_lists, length_moved}
use Rattle.lt_geometry.proofs.Exchanged.{Walls, Side, from_exchanged, to_exchanged}
use Rattle.lt_model.specs.Vectors.{minus, scale}
use Rattle.lt_model.specs.Simplices.{IsClass}
use Rattle.lt_model.specs.Triangulations.{IsDelaunay}
use Rattle.lt_model.specs.Walls.{IsWallForm, IsFacet, IsAcross}
use Rattle.lt_model.specs.Flips.{IsExchanged, IsFlipOf}
use Rattle.lt_model.proofs.Sets.{Contains-head}

-- ---- sides are what the flip takes out, and what it makes

pub out_of : (d : ℕ) (two : 2 ≤ d) (t : List (List (List ℤ))) (q w : Form d) (n : List ℤ) (set : Walls d two t q w n) (S : List (Vec d)) → Side d two t q w n set (pos 1) S → Out set S
out_of d two t q w n set S h = record { V = h.V; s = h.s; i = h.i; cell = h.cell; above = omega (arith, ints, h.side); rest = h.rest }

pub out_to : (d : ℕ) (two : 2 ≤ d) (t : List (List (List ℤ))) (q w : Form d) (n : List ℤ) (set : Walls d two t q w n) (S : List (Vec d)) → Out set S → Side d two t q w n set (pos 1) S
out_to d two t q w n set S h = record { V = h.V; s = h.s; i = h.i; cell = h.cell; side = omega (arith, ints, h.above); rest = h.rest }

pub new_of : (d : ℕ) (two : 2 ≤ d) (t : List (List (List ℤ))) (q w : Form d) (n : List ℤ) (set : Walls d two t q w n) (S : List (Vec d)) → Side d two t q w n set (negsuc 0) S → New set S
new_of d two t q w n set S h = record { V = h.V; s = h.s; u = h.i; cell = h.cell; below = omega (arith, ints, h.side); rest = h.rest }

pub new_to : (d : ℕ) (two : 2 ≤ d) (t : List (List (List ℤ))) (q w : Form d) (n : List ℤ) (set : Walls d two t q w n) (S : List (Vec d)) → New set S → Side d two t q w n set (negsuc 0) S
new_to d two t q w n set S h = record { V = h.V; s = h.s; i = h.u; cell = h.cell; side = omega (arith, ints, h.below); rest = h.rest }

pub out_moved : (d : ℕ) (two : 2 ≤ d) (t : List (List (List ℤ))) (q w : Form d) (n : List ℤ) (set : Walls d two t q w n) (y : Vec d) (S : List (Vec d)) → Out set S → Out set (moved (shift d y) S)
unfolding moves
out_moved d two t q w n set y S h = out-moved set (moves d two t q w n set) y S h

out_alike : (d : ℕ) (two : 2 ≤ d) (t : List (List (List ℤ))) (q w : Form d) (n : List ℤ) (set : Walls d two t q w n) (S R : List (Vec d)) → Out set S → Alike S R → Out set R
out_alike d two t q w n set S R o al = record { V = o.V; s = o.s; i = o.i; cell = o.cell; above = o.above; rest = alike-trans o.rest (alike-cons o.i al) }

pub flipped_moved : (d : ℕ) (two : 2 ≤ d) (t : List (List (List ℤ))) (q w : Form d) (n : List ℤ) (set : Walls d two t q w n) (y : Vec d) (S : List (Vec d)) → Flipped set S → Flipped set (moved (shift d y) S)
unfolding moves
flipped_moved d two t q w n set y S h = flipped-moved set (moves d two t q w n set) y S h

-- ---- counts

pub placed_length : (d : ℕ) (t : List (List (List ℤ))) → ((s : List (List ℤ)) → Contains t s → IsClass d s) → (S : List (Vec d)) → Placed d t S → length S ≡ suc d
placed_length d t cls S h = alike_length S (moved (shift d h.by) h.base) h.alike ∙ length_moved (shift d h.by) h.base ∙ sym (length_lists d h.base) ∙ (cls (lists d h.base) h.member).simplex.count

pub new_length : (d : ℕ) (two : 2 ≤ d) (t : List (List (List ℤ))) (q w : Form d) (n : List ℤ) (set : Walls d two t q w n) → IsDelaunay d q.numbers t → (S : List (Vec d)) → New set S → length S ≡ suc d
new_length d two t q w n set k S h = omega (arith, sym (alike_length h.V (h.u ∷ S) h.rest) ∙ alike_length h.V (h.cell.p ∷ h.cell.w ∷ h.cell.F) h.cell.all, placed_length d t (λ s m. ((k.members s).0 m).0) (h.cell.w ∷ h.cell.F) h.cell.mem_w)

-- a new simplex has a class
pub new_class : (d : ℕ) (two : 2 ≤ d) (t : List (List (List ℤ))) (q w : Form d) (n : List ℤ) (set : Walls d two t q w n) → IsDelaunay d q.numbers t → (S : List (Vec d)) → New set S → HasClass d S
unfolding Flipped
new_class d two t q w n set k S h = has_class d two S (flipped-simp set S (inr h)) (new_length d two t q w n set k S h)

nonneg_sum : (d : ℕ) (b : Vec d → ℤ) (S : List (Vec d)) → ((v : Vec d) → In (vec-dec d) v S → pos 0 ≤ℤ b v) → pos 0 ≤ℤ qs (λ v. pos 1) b S
nonneg_sum d b [] h = omega (arith, ints, qs-nil {P = Vec d} (λ v. pos 1) b)
nonneg_sum d b (x ∷ S) h = omega (arith, ints, qs-cons (λ v. pos 1) b x S, h x (in-head (vec-dec d) x S), nonneg_sum d b S (λ v i. h v (in-tail (vec-dec d) v x S i)))

-- each cell makes a simplex
pub some_new : (d : ℕ) (two : 2 ≤ d) (t : List (List (List ℤ))) (q w : Form d) (n : List ℤ) (set : Walls d two t q w n) (V : List (Vec d)) (s : Vec d → ℤ) → Cell set V s → (S : List (Vec d)) × New set S
some_new d two t q w n set V s k = go (negative (vec-dec d) s V)
  where
    sum : s k.p *ℤ pos 1 +ℤ qs (λ v. pos 1) s (k.w ∷ k.F) ≡ pos 0
    sum = sym (alike-qs (λ v. pos 1) s k.p k.all) ∙ k.flat 0

    go : ((i : Vec d) × (R : List (Vec d)) × Alike V (i ∷ R) × (s i <ℤ pos 0)) ⊎ ((v : Vec d) → In (vec-dec d) v V → pos 0 ≤ℤ s v) → (S : List (Vec d)) × New set S
    go (inl r) = (r.1, record { V = V; s = s; u = r.0; cell = k; below = r.3; rest = r.2 })
    go (inr h) = absurd (omega (arith, ints, sum, k.p_pos, nonneg_sum d s (k.w ∷ k.F) (λ v i. h v (in-alike (in-tail (vec-dec d) v k.p (k.w ∷ k.F) i) (alike-sym k.all)))))

-- ---- the placed simplices of a flip are the flipped set

flip_classes : (d : ℕ) (q : Form d) (t : List (List (List ℤ))) (n : List ℤ) (t' : List (List (List ℤ))) → IsDelaunay d q.numbers t → IsFlipOf d t n t' → (s : List (List ℤ)) → Contains t' s → IsClass d s
flip_classes d q t n t' k fl s m = elim ((fl.members s).0 m) [ inl r ↦ ((k.members s).0 (r.0)).0 | inr ex ↦ ex.class_of.«class» ]

pub flip_is_flipped : (d : ℕ) (two : 2 ≤ d) (t : List (List (List ℤ))) (q w : Form d) (n : List ℤ) (set : Walls d two t q w n) → IsDelaunay d q.numbers t → IsWallForm d t n w.numbers → (t' : List (List (List ℤ))) → IsFlipOf d t n t' → IsFlipped d two t q w n set t'
unfolding Flipped
flip_is_flipped d two t q w n set k wall t' fl = record { to = to; from = from; classes = flip_classes d q t n t' k fl }
  where
    to : (S : List (Vec d)) → Kept set S ⊎ New set S → Placed d t' S
    to S (inl h) = record { base = C; by = y; member = (fl.members (lists d C)).1 (inl (p.member, not_out)); alike = p.alike }
      where
        p : Placed d t S
        p = h.mem

        C : List (Vec d)
        C = p.base

        y : Vec d
        y = p.by

        not_out : IsExchanged d t n (pos 1) (lists d C) → ⊥
        not_out ex = let r = from_exchanged d two t q w n set k wall.zero_there (pos 1) C ex in
            let o = out_of d two t q w n set (moved (shift d (r.0)) C) (r.1) in
            let o2 = subst (Out set) (moved_back d (r.0) C) (out_moved d two t q w n set (opposite d (r.0)) (moved (shift d (r.0)) C) o) in
            h.none (out_alike d two t q w n set (moved (shift d y) C) S (out_moved d two t q w n set y C o2) (alike-sym p.alike))
    to S (inr h) = let c = new_class d two t q w n set k S h in
        record { base = c.base; by = c.by; member = (fl.members (lists d c.base)).1 (inr (to_exchanged d two t q w n set k wall.regulator (negsuc 0) S (new_to d two t q w n set S h) c.base c.by c.is c.alike)); alike = c.alike }

    from : (S : List (Vec d)) → Placed d t' S → Kept set S ⊎ New set S
    from S h = flipped-alike set (flipped_moved d two t q w n set h.by C (base ((fl.members (lists d C)).0 h.member))) (alike-sym h.alike)
      where
        C : List (Vec d)
        C = h.base

        cls : IsClass d (lists d C)
        cls = flip_classes d q t n t' k fl (lists d C) h.member

        base : (Contains t (lists d C) × (IsExchanged d t n (pos 1) (lists d C) → ⊥)) ⊎ IsExchanged d t n (negsuc 0) (lists d C) → Flipped set C
        base (inl r) = inl (record { mem = base_placed d two t C (r.0); none = λ o. r.1 (to_exchanged d two t q w n set k wall.regulator (pos 1) (moved (shift d h.by) C) (out_to d two t q w n set (moved (shift d h.by) C) (out_moved d two t q w n set h.by C o)) C h.by cls (alike-refl (moved (shift d h.by) C))) })
        base (inr ex) = let r = from_exchanged d two t q w n set k wall.zero_there (negsuc 0) C ex in
            subst (Flipped set) (moved_back d (r.0) C) (flipped_moved d two t q w n set (opposite d (r.0)) (moved (shift d (r.0)) C) (inr (new_of d two t q w n set (moved (shift d (r.0)) C) (r.1))))

some_placed : (d : ℕ) (t : List (List (List ℤ))) (S : List (Vec d)) → Placed d t S → 0 < length t
some_placed d t S h = let m = h.member in omega (arith, m.1)

-- a flip has members
pub flip_occupied : (d : ℕ) (two : 2 ≤ d) (t : List (List (List ℤ))) (q w : Form d) (n : List ℤ) (set : Walls d two t q w n) → IsDelaunay d q.numbers t → (t' : List (List (List ℤ))) → IsFlipped d two t q w n set t' → 0 < length t'
unfolding Flipped
flip_occupied d two t q w n set k t' fl = first t (λ s m. m) k.occupied
  where
    at_class : (C : List (Vec d)) → Contains t (lists d C) → 0 < length t'
    at_class C m = elim (kept-or-out set C (base_placed d two t C m)) [
      | inl h ↦ some_placed d t' C (fl.to C (inl h))
      | inr o ↦ (let r = some_new d two t q w n set o.V o.s o.cell in some_placed d t' (r.0) (fl.to (r.0) (inr (r.1))))
    ]

    first : (r : List (List (List ℤ))) → ((s : List (List ℤ)) → Contains r s → Contains t s) → 0 < length r → 0 < length t'
    first [] h l = absurd (omega (arith, l))
    first (s ∷ r) h l = let m = h s (Contains-head s r) in let c = class_points d q t k s m in at_class (c.0) (subst (Contains t) (sym (c.1)) m)

size : (m : ℤ) → (b : ℕ) × ((k : ℕ) → b ≤ k → m ≤ℤ pos k)
size (pos b) = (b, λ k h. omega (arith, ints, h))
size (negsuc b) = (0, λ k h. omega (arith, ints))

-- the flip theorem on the model's flip
pub flips_are_delaunay : (d : ℕ) (a w n : List ℤ) (t t' : List (List (List ℤ))) → 2 ≤ d → IsDelaunay d a t → IsWallForm d t n w → IsFlipOf d t n t' → (bound : ℕ) × ((m : ℕ) → bound ≤ m → IsDelaunay d (minus (scale (pos m) w) a) t')
flips_are_delaunay d a w n t t' two k wall fl = (b.0, λ m h. r.1 (pos m) (b.1 m h))
  where
    q : Form d
    q = record { numbers = a; is = k.positive.numbers }

    v : Form d
    v = record { numbers = w; is = wall.numbers }

    set : Walls d two t q v n
    set = setting_of d two t q v n k wall

    is : IsFlipped d two t q v n set t'
    is = flip_is_flipped d two t q v n set k wall t' fl

    r : (m : ℤ) × ((mu : ℤ) → m ≤ℤ mu → IsDelaunay d (minus (scale mu w) a) t')
    r = flip_across d two t q v n k wall t' is (flip_occupied d two t q v n set k t' is) fl.ascending

    b : (b : ℕ) × ((k : ℕ) → b ≤ k → r.0 ≤ℤ pos k)
    b = size (r.0)

pub flips_are_across : (d : ℕ) (a n : List ℤ) (t t' : List (List (List ℤ))) → 2 ≤ d → IsDelaunay d a t → IsFacet d t n → IsFlipOf d t n t' → IsAcross d t n t'
flips_are_across d a n t t' two k facet fl = let r = flips_are_delaunay d a (facet.0) n t t' two k (facet.1) fl in record { wall = facet.0; wall_form = facet.1; form = a; delaunay = k; bound = r.0; beyond = r.1 }
