use Rattle.std.proofs.Common.{refl}
use Rattle.std.specs.Ordering.{int_cmp}
use Rattle.std.specs.Cmp.Lexicographic.{lists_ties}
use Rattle.std.proofs.lemmas.List.Filters.{dedup_is}
use Rattle.lt_model.specs.Order.{number_list_cmp}
use Rattle.lt_triang.proofs.Distinct.{distinct}
use Rattle.lt_triang.proofs.triangulations.sorted_distinct.Goals as goal

pub returns : goal.returns
returns c =
    let r = distinct _ (λ x y. lists_ties number_list_cmp (λ a b. lists_ties int_cmp (λ m n. refl) a b) x y) c.args.given.items c.sort_unstable.new.self.items c.dedup.new.self.items c.sort_unstable.ensures.permutation c.sort_unstable.ensures.sorted (dedup_is _ _ _ c.dedup.ensures.filtered) in
    rw c.shrink_to_fit.ensures.items (record { ascending = r.ascending; members = r.members })
