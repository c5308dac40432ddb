use Rattle.std.proofs.Common.{◌≡◌, ◌<◌, ◌∙◌, ap, sym, subst, length, arith, rules, ℕ}
use Rattle.std.specs.Vec.{vec_len}
use Rattle.lt_model.specs.Cones.{Row}
use Rattle.lt_model.specs.Atlases.{Entry}
use Rattle.lt_core.specs.Marks.{entry_of}
use Rattle.lt_crew.proofs.Places.{entry_within}
use Rattle.lt_crew.proofs.Standing.{task_of, shared_at, shared_count}
use Rattle.lt_crew.proofs.desk.Desk.task.Goals as goal

pub index-requires : goal.index-requires
index-requires g c =
    let d = c.args.self.now in
    let n = shared_count d.shared.items d.atlas.entries d.all_shared in
    let l = entry_within d.atlas c.keeps.ensures.low c.keeps.ensures.kept c.args.position c.requires in
    let k = c.place-k.ensures.entry in
    let v : vec_len d.shared ≡ length d.shared.items = search rules in
    omega (arith, n, l, k, v)

pub returns : goal.returns
returns g c =
    let d = c.args.self.now in
    let a = d.atlas in
    let l : c.place-k.result.0 < length a.entries = subst (λ (z : ℕ). z < length a.entries) (sym c.place-k.ensures.entry) (entry_within a c.keeps.ensures.low c.keeps.ensures.kept c.args.position c.requires) in
    let there = shared_at d.shared.items a.entries c.place-k.result.0 c.index.result.now d.all_shared l c.index.ensures in
    task_of a c.keeps.ensures.low c.keeps.ensures.kept c.args.position c.requires c.place-k.result.0 c.place-k.result.1 (entry_of c.entry-entry.result.now) c.row.inside.normal c.place-k.ensures.entry c.place-k.ensures.facet c.entry-entry.ensures (ap (λ (r : Row). r.normal) c.row.view_is ∙ c.facet-row.ensures.normal)
    (record { home = c.in_ok-try_clone.field-0; normal = c.copy.result }) (c.in_ok-try_clone.ensures ∙ there ∙ sym (ap (λ (z : Entry). z.triangulation) c.entry-entry.ensures)) c.copy.ensures
