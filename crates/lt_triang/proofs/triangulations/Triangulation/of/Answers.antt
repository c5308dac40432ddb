use Rattle.std.proofs.Common.{arith, ◌≡◌, ◌-◌, suc, ℕ, length, get_or, [], sym, subst}
use Rattle.lt_model.specs.Simplices.{IsClass}
use Rattle.lt_triang.specs.Kept.{AreClasses}
use Rattle.lt_triang.specs.Walled.{AreRows}
use Rattle.lt_triang.proofs.Made.{same_classes, occupied_from, triangulation_made}
use Rattle.lt_triang.proofs.Rowed.{rows_across}
use Rattle.lt_triang.proofs.triangulations.Triangulation.of.Goals as goal

less_one : (d n : ℕ) → n ≡ suc d → d ≡ n - 1
less_one d n e = omega arith

pub rows_of-requires : goal.rows_of-requires
rows_of-requires c =
    let k : IsClass c.dimension_of-d.result (get_or c.args.classes.items 0 []) = rw c.as_slice.ensures.value at c.dimension_of-d.ensures in
    let e : c.dimension_of-d.result ≡ length (get_or c.args.classes.items 0 []) - 1 = less_one c.dimension_of-d.result (length (get_or c.args.classes.items 0 [])) k.simplex.count in
    let a : AreClasses (length (get_or c.args.classes.items 0 []) - 1) c.sorted_distinct-distinct.result.items = same_classes (length (get_or c.args.classes.items 0 []) - 1) c.args.classes.items c.sorted_distinct-distinct.result.items c.requires.classes c.sorted_distinct-distinct.ensures.members in
    rw (c.as_slice-2.ensures.value, e) a

pub invariant_of-result : goal.invariant_of-result
invariant_of-result c =
    let k : IsClass c.dimension_of-d.result (get_or c.args.classes.items 0 []) = rw c.as_slice.ensures.value at c.dimension_of-d.ensures in
    let d = c.dimension_of-d.result in
    let t = c.sorted_distinct-distinct.result.items in
    let e : d ≡ length (get_or c.args.classes.items 0 []) - 1 = less_one d (length (get_or c.args.classes.items 0 [])) k.simplex.count in
    let a : AreClasses (length (get_or c.args.classes.items 0 []) - 1) t = same_classes (length (get_or c.args.classes.items 0 []) - 1) c.args.classes.items t c.requires.classes c.sorted_distinct-distinct.ensures.members in
    let a' : AreClasses d t = subst (λ (n : ℕ). AreClasses n t) (sym e) a in
    let r : AreRows d t (length t) c.in_ok-rows.rows.items = rw c.as_slice-2.ensures.value at c.in_ok-rows.ensures.rows in
    (d, triangulation_made d t a' (occupied_from c.args.classes.items t c.requires.occupied c.sorted_distinct-distinct.ensures.members) c.sorted_distinct-distinct.ensures.ascending (rows_across d t (length t) c.in_ok-rows.rows.items r), r)
