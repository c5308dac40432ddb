use Rattle.std.proofs.Common.{ℕ, pos, List, [], ◌∷◌, ◌++◌}
use Rattle.std.specs.Prelude.{codes}
use Rattle.std.proofs.lemmas.Result.{err_from_is_err_and}
use Rattle.lt_io.proofs.Compose.{wrote_front, wrote_then, front_of_more, appended_then, appended_then_front}
use Rattle.lt_lines.specs.Lines.{line}
use Rattle.ltypes.specs.Texts.{named}
use Rattle.ltypes.proofs.totals.write_numbers.Goals as goal

abbrev all : ℕ → List ℕ
all n = named (codes " facets") n

abbrev crossed : ℕ → List ℕ
crossed n = named (codes " crossed") n

abbrev undecided : ℕ → List ℕ
undecided n = line (codes " undecided") (pos n ∷ [])

pub returns-in_err-write_named-clause-bytes : goal.returns-in_err-write_named-clause-bytes
returns-in_err-write_named-clause-bytes g c =
    let t = c.args.totals.now in
    let entries = named c.args.word.now t.entries in
    let p = err_from_is_err_and c.from_residual.result c.from_residual.ensures.1 in
    wrote_front _ _ _ _ _ p.1
    (front_of_more _ _ (entries ++ all t.facets ++ crossed t.crossed) (undecided t.undecided) (front_of_more _ _ (entries ++ all t.facets) (crossed t.crossed) (front_of_more _ _ entries (all t.facets) c.in_err-write_named.ensures.bytes.front)))

pub returns-in_err-write_named-2-clause-bytes : goal.returns-in_err-write_named-2-clause-bytes
returns-in_err-write_named-2-clause-bytes g c =
    let t = c.args.totals.now in
    let entries = named c.args.word.now t.entries in
    let p = err_from_is_err_and c.from_residual-in_err-write_named-2.result c.from_residual-in_err-write_named-2.ensures.1 in
    wrote_front _ _ _ _ _ p.1
    (front_of_more _ _ (entries ++ all t.facets ++ crossed t.crossed) (undecided t.undecided) (front_of_more _ _ (entries ++ all t.facets) (crossed t.crossed) (appended_then_front _ _ _ entries (all t.facets) c.in_ok-write_named.ensures.bytes.whole c.in_err-write_named-2.ensures.bytes.front)))

pub returns-in_err-write_named-3-clause-bytes : goal.returns-in_err-write_named-3-clause-bytes
returns-in_err-write_named-3-clause-bytes g c =
    let t = c.args.totals.now in
    let entries = named c.args.word.now t.entries in
    let p = err_from_is_err_and c.from_residual-in_err-write_named-3.result c.from_residual-in_err-write_named-3.ensures.1 in
    wrote_front _ _ _ _ _ p.1
    (front_of_more _ _ (entries ++ all t.facets ++ crossed t.crossed) (undecided t.undecided) (appended_then_front _ _ _ (entries ++ all t.facets) (crossed t.crossed) (appended_then _ _ _ entries (all t.facets) c.in_ok-write_named.ensures.bytes.whole c.in_ok-write_named-2.ensures.bytes.whole) c.in_err-write_named-3.ensures.bytes.front))

pub returns-clause-bytes : goal.returns-clause-bytes
returns-clause-bytes g c =
    let t = c.args.totals.now in
    let entries = named c.args.word.now t.entries in
    wrote_then _ _ _ _ (entries ++ all t.facets ++ crossed t.crossed) (undecided t.undecided)
    (appended_then _ _ _ (entries ++ all t.facets) (crossed t.crossed) (appended_then _ _ _ entries (all t.facets) c.in_ok-write_named.ensures.bytes.whole c.in_ok-write_named-2.ensures.bytes.whole) c.in_ok-write_named-3.ensures.bytes.whole) c.write_count.ensures.bytes
