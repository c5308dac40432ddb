-- The verdict of a tableau at which the rule stops.
use Rattle.std.proofs.Common.{◌≡◌, ◌≢◌, ◌∙◌, ap, inl, inr, ℕ, zero, suc, ◌+◌, ◌-◌, ◌≤◌, ◌<◌, ◌^◌, ◌*◌, ℤ, pos, ◌-ℤ◌, ◌≤ℤ◌, arith, List, [], length, get_or, cond, nat_le, Bool, true, false, nat_abs}
use Rattle.std.specs.List.{All}
use Rattle.std.proofs.lemmas.Int.{ints}
use Rattle.lt_model.specs.Forms.{numbers_of_form}
use Rattle.lt_model.specs.Cones.{Verdict, wall, combination, IsRightVerdict, IsRightWall, AreBelow}
use Rattle.lt_tableau.specs.System.{system_of}
use Rattle.lt_tableau.specs.Table.{Table, right_of, basic_of, units_of}
use Rattle.lt_lp.specs.Rule.{objective_of, gain_of, turned_gains, IsReady, IsStopped}
use Rattle.lt_lp.specs.Reduced.{IsReduced}
use Rattle.lt_lp.specs.Positive.{IsPositiveAt}
use Rattle.lt_lp.specs.Terms.{value_of, IsCombinationOf}
use Rattle.lt_lp.proofs.Values.{values_not_negative}
use Rattle.lt_lp.proofs.Mixes.{value_small}
use Rattle.lt_lp.proofs.WallSigns.{WallSigns, wall_signs}
use Rattle.lt_lp.proofs.Forms.{wall_some}
use Rattle.lt_lp.proofs.Turned.{right_wall}
use Rattle.lt_lp.proofs.Combined.{IsCase, right_combination}
use Rattle.lt_lp.proofs.Signs.{sum_not_negative}

objective_nonneg : (t : Table) → IsReady t → pos 0 ≤ℤ objective_of t
objective_nonneg t w = sum_not_negative t.rows (λ (row : ℕ). cond (nat_le (units_of t) (basic_of t row)) (right_of t row) (pos 0)) (λ q l. pick (nat_le (units_of t) (basic_of t q)) (right_of t q) (values_not_negative t w q l))
  where
    pick : (b : Bool) (x : ℤ) → pos 0 ≤ℤ x → pos 0 ≤ℤ cond b x (pos 0)
    pick true x h = h
    pick false x h = omega (arith, ints)

pub case_of : (t : Table) (normals : List (List ℤ)) (k d : ℕ) → IsReady t → t.system ≡ system_of normals k → t.rows ≡ suc (length (get_or normals 0 [])) → k < length normals → All (λ x. length x ≡ length (get_or normals 0 [])) normals → length (get_or normals 0 []) ≡ numbers_of_form d → numbers_of_form d ≤ 21 → IsCase t normals k d
case_of t normals k d w s r p h e f = record {
  ready = w;
  system = s;
  rows = r ∙ ap suc e;
  place = p;
  few = f;
  lengths = λ j l. h j [] l ∙ e;
}

pub walled : (t : Table) (normals : List (List ℤ)) (k d : ℕ) → IsCase t normals k d → objective_of t ≢ pos 0 → IsStopped t → WallSigns t normals k (numbers_of_form d)
walled t normals k d c n (inl e) = absurd (n e)
walled t normals k d c n (inr g) =
    wall_signs t normals k (numbers_of_form d) c.ready.tableau c.system c.rows c.place c.few c.lengths g (let a = objective_nonneg t c.ready in omega (arith, ints, a, n))

pub wall_occupied : (t : Table) (normals : List (List ℤ)) (k d : ℕ) → IsCase t normals k d → 2 ≤ numbers_of_form d → objective_of t ≢ pos 0 → IsStopped t → (q : ℕ) × (q < t.rows - 1) × (gain_of t (units_of t + q) ≢ pos 0)
wall_occupied t normals k d c two n s =
    let r = wall_some t normals k (numbers_of_form d) c.ready.tableau c.system c.rows c.place two c.few c.lengths (walled t normals k d c n s) in
    let e = c.rows in
    let l = r.1 in
    (r.0, omega arith, r.2)

pub decided_wall : (t : Table) (normals : List (List ℤ)) (k d : ℕ) (w : List ℤ) → IsCase t normals k d → objective_of t ≢ pos 0 → IsStopped t → IsReduced (turned_gains (t.rows - 1) t) w → AreBelow (2 ^ 62) w → IsRightWall d normals k w
decided_wall t normals k d w c n s r l =
    let e : t.rows - 1 ≡ numbers_of_form d = (let a = c.rows in omega arith) in
    right_wall t normals k d w (walled t normals k d c n s) (rw e at r) l

pub decided_combination : (t : Table) (normals : List (List ℤ)) (k d : ℕ) (form : List ℤ) (v : Verdict) → IsCase t normals k d → objective_of t ≡ pos 0 → IsPositiveAt form normals → IsCombinationOf k t v → IsRightVerdict d normals k v
decided_combination t normals k d form (wall w) c o p h = absurd h
decided_combination t normals k d form (combination factor terms) c o p h =
    right_combination t normals k d form factor terms c o p (λ i. less (value_of t i) (value_small t c.ready.tableau i))
    (less_two (value_of t (units_of t - 2)) (value_of t (units_of t - 1)) (value_small t c.ready.tableau (units_of t - 2)) (value_small t c.ready.tableau (units_of t - 1))) h.0 h.1
  where
    less : (x : ℤ) → nat_abs x ≤ 22 * 2 ^ 56 → nat_abs x < 2 ^ 62
    less x h = omega arith

    less_two : (x y : ℤ) → nat_abs x ≤ 22 * 2 ^ 56 → nat_abs y ≤ 22 * 2 ^ 56 → nat_abs (x -ℤ y) < 2 ^ 62
    less_two x y h k = omega (arith, ints)

pub some_numbers : (d : ℕ) → 2 ≤ d → 2 ≤ numbers_of_form d
some_numbers zero h = absurd (omega arith)
some_numbers (suc zero) h = absurd (omega arith)
some_numbers (suc (suc d)) h = omega arith
