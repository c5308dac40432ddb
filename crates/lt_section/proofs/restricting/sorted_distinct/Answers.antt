use Rattle.std.proofs.Common.{refl}
use Rattle.std.specs.Ordering.{int_cmp}
use Rattle.std.specs.Cmp.Lexicographic.{lists_ties}
use Rattle.std.proofs.lemmas.List.Filters.{dedup_is}
use Rattle.lt_regulator.proofs.Collected.{distinct}
use Rattle.lt_section.proofs.restricting.sorted_distinct.Goals as goal

pub returns : goal.returns
returns c =
    let r = distinct _ (λ x y. lists_ties int_cmp (λ m n. refl) x y) c.args.given.items c.sort_unstable.new.self.items c.dedup.new.self.items c.sort_unstable.ensures.permutation c.sort_unstable.ensures.sorted (dedup_is _ _ _ c.dedup.ensures.filtered) in
    record { ascending = r.ascending; members = r.members }
