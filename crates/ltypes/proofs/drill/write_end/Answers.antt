use Rattle.std.proofs.Common.{◌≡◌, ℕ, pos, refl, ap, ◌∙◌, List, [], ◌∷◌, ◌++◌, length}
use Rattle.std.specs.Prelude.{codes}
use Rattle.std.proofs.lemmas.Result.{err_from_is_err_and}
use Rattle.lt_io.proofs.Compose.{wrote_front, wrote_then, front_of_more, appended_then, appended_then_front}
use Rattle.lt_lines.specs.Lines.{line}
use Rattle.lt_model.specs.Atlases.{Atlas, count, one_if_crossed, stuck, undecided}
use Rattle.ltypes.specs.Drills.{end_text}
use Rattle.ltypes.specs.Texts.{named}
use Rattle.ltypes.proofs.Drilled.{told}
use Rattle.ltypes.proofs.drill.write_end.Goals as goal

abbrev types : ℕ → List ℕ
types n = named (codes "end types") n

abbrev crossed : ℕ → List ℕ
crossed n = named (codes " crossed") n

abbrev stopped : ℕ → List ℕ
stopped n = named (codes " stuck") n

abbrev left_open : ℕ → List ℕ
left_open n = line (codes " undecided") (pos n ∷ [])

is_end : (b : Atlas) (n k s u : ℕ) → n ≡ length b.entries → k ≡ count one_if_crossed b.marks → s ≡ stuck b.marks → u ≡ undecided b.marks → types n ++ crossed k ++ stopped s ++ left_open u ≡ end_text b
is_end b n k s u e f g h =
    ap (λ (x : ℕ). types x ++ crossed k ++ stopped s ++ left_open u) e
    ∙ ap (λ (x : ℕ). types (length b.entries) ++ crossed x ++ stopped s ++ left_open u) f
    ∙ ap (λ (x : ℕ). types (length b.entries) ++ crossed (count one_if_crossed b.marks) ++ stopped x ++ left_open u) g
    ∙ ap (λ (x : ℕ). types (length b.entries) ++ crossed (count one_if_crossed b.marks) ++ stopped (stuck b.marks) ++ left_open x) h

pub returns-in_err-write_named-clause-bytes : goal.returns-in_err-write_named-clause-bytes
returns-in_err-write_named-clause-bytes g c =
    let b = c.args.atlas.now in
    let t = c.totals_of-totals.result in
    let e = c.totals_of-totals.ensures in
    let p = err_from_is_err_and c.from_residual.result c.from_residual.ensures.1 in
    told _ _ _ _ _ (is_end b t.entries t.crossed (stuck b.marks) t.undecided e.entries e.crossed refl e.undecided)
    (wrote_front _ _ _ _ _ p.1
    (front_of_more _ _ (types t.entries ++ crossed t.crossed ++ stopped (stuck b.marks)) (left_open t.undecided) (front_of_more _ _ (types t.entries ++ crossed t.crossed) (stopped (stuck b.marks)) (front_of_more _ _ (types t.entries) (crossed t.crossed) c.in_err-write_named.ensures.bytes.front))))

pub returns-in_err-write_named-2-clause-bytes : goal.returns-in_err-write_named-2-clause-bytes
returns-in_err-write_named-2-clause-bytes g c =
    let b = c.args.atlas.now in
    let t = c.totals_of-totals.result in
    let e = c.totals_of-totals.ensures in
    let p = err_from_is_err_and c.from_residual-in_err-write_named-2.result c.from_residual-in_err-write_named-2.ensures.1 in
    told _ _ _ _ _ (is_end b t.entries t.crossed (stuck b.marks) t.undecided e.entries e.crossed refl e.undecided)
    (wrote_front _ _ _ _ _ p.1
    (front_of_more _ _ (types t.entries ++ crossed t.crossed ++ stopped (stuck b.marks)) (left_open t.undecided) (front_of_more _ _ (types t.entries ++ crossed t.crossed) (stopped (stuck b.marks)) (appended_then_front _ _ _ (types t.entries) (crossed t.crossed) c.in_ok-write_named.ensures.bytes.whole c.in_err-write_named-2.ensures.bytes.front))))

pub returns-in_err-write_named-3-clause-bytes : goal.returns-in_err-write_named-3-clause-bytes
returns-in_err-write_named-3-clause-bytes g c =
    let b = c.args.atlas.now in
    let t = c.totals_of-totals.result in
    let e = c.totals_of-totals.ensures in
    let p = err_from_is_err_and c.from_residual-in_err-write_named-3.result c.from_residual-in_err-write_named-3.ensures.1 in
    told _ _ _ _ _ (is_end b t.entries t.crossed c.stuck.result t.undecided e.entries e.crossed c.stuck.ensures e.undecided)
    (wrote_front _ _ _ _ _ p.1
    (front_of_more _ _ (types t.entries ++ crossed t.crossed ++ stopped c.stuck.result) (left_open t.undecided)
    (appended_then_front _ _ _ (types t.entries ++ crossed t.crossed) (stopped c.stuck.result) (appended_then _ _ _ (types t.entries) (crossed t.crossed) c.in_ok-write_named.ensures.bytes.whole c.in_ok-write_named-2.ensures.bytes.whole) c.in_err-write_named-3.ensures.bytes.front)))

pub returns-clause-bytes : goal.returns-clause-bytes
returns-clause-bytes g c =
    let b = c.args.atlas.now in
    let t = c.totals_of-totals.result in
    let e = c.totals_of-totals.ensures in
    told _ _ _ _ _ (is_end b t.entries t.crossed c.stuck.result t.undecided e.entries e.crossed c.stuck.ensures e.undecided)
    (wrote_then _ _ _ _ (types t.entries ++ crossed t.crossed ++ stopped c.stuck.result) (left_open t.undecided)
    (appended_then _ _ _ (types t.entries ++ crossed t.crossed) (stopped c.stuck.result) (appended_then _ _ _ (types t.entries) (crossed t.crossed) c.in_ok-write_named.ensures.bytes.whole c.in_ok-write_named-2.ensures.bytes.whole) c.in_ok-write_named-3.ensures.bytes.whole) c.write_count.ensures.bytes)
