use Rattle.std.proofs.Common.{◌≡◌, ℕ, pos, ap, ◌∙◌, List, [], ◌∷◌, ◌++◌, length}
use Rattle.std.specs.Prelude.{codes}
use Rattle.std.proofs.lemmas.Result.{err_from_is_err_and}
use Rattle.lt_io.proofs.Compose.{wrote_front, wrote_then, front_of_more, appended_then, appended_then_front}
use Rattle.lt_lines.specs.Lines.{line}
use Rattle.lt_model.specs.Atlases.{Atlas, count, one_if_crossed}
use Rattle.ltypes.specs.Drills.{start_text}
use Rattle.ltypes.specs.Texts.{named}
use Rattle.ltypes.proofs.Drilled.{told}
use Rattle.ltypes.proofs.drill.write_start.Goals as goal

abbrev types : ℕ → List ℕ
types n = named (codes "start types") n

abbrev crossed : ℕ → List ℕ
crossed n = line (codes " crossed") (pos n ∷ [])

abbrev matched : ℕ → List ℕ
matched n = line (codes "matched") (pos n ∷ [])

is_start : (a : Atlas) (n k m : ℕ) → n ≡ length a.entries → k ≡ count one_if_crossed a.marks → m ≡ length a.entries → types n ++ crossed k ++ matched m ≡ start_text a
is_start a n k m e f g =
    ap (λ (x : ℕ). types x ++ crossed k ++ matched m) e
    ∙ ap (λ (x : ℕ). types (length a.entries) ++ crossed x ++ matched m) f
    ∙ ap (λ (x : ℕ). types (length a.entries) ++ crossed (count one_if_crossed a.marks) ++ matched x) g

pub returns-in_err-write_named-clause-bytes : goal.returns-in_err-write_named-clause-bytes
returns-in_err-write_named-clause-bytes g c =
    let t = c.totals_of-totals.result in
    let e = c.totals_of-totals.ensures in
    let p = err_from_is_err_and c.from_residual.result c.from_residual.ensures.1 in
    told _ _ _ _ _ (is_start c.args.atlas.now t.entries t.crossed c.args.matched e.entries e.crossed c.requires)
    (wrote_front _ _ _ _ _ p.1 (front_of_more _ _ (types t.entries ++ crossed t.crossed) (matched c.args.matched) (front_of_more _ _ (types t.entries) (crossed t.crossed) c.in_err-write_named.ensures.bytes.front)))

pub returns-in_err-write_count-clause-bytes : goal.returns-in_err-write_count-clause-bytes
returns-in_err-write_count-clause-bytes g c =
    let t = c.totals_of-totals.result in
    let e = c.totals_of-totals.ensures in
    let p = err_from_is_err_and c.from_residual-in_err-write_count.result c.from_residual-in_err-write_count.ensures.1 in
    told _ _ _ _ _ (is_start c.args.atlas.now t.entries t.crossed c.args.matched e.entries e.crossed c.requires)
    (wrote_front _ _ _ _ _ p.1 (front_of_more _ _ (types t.entries ++ crossed t.crossed) (matched c.args.matched) (appended_then_front _ _ _ (types t.entries) (crossed t.crossed) c.in_ok-write_named.ensures.bytes.whole c.in_err-write_count.ensures.bytes.front)))

pub returns-clause-bytes : goal.returns-clause-bytes
returns-clause-bytes g c =
    let t = c.totals_of-totals.result in
    let e = c.totals_of-totals.ensures in
    told _ _ _ _ _ (is_start c.args.atlas.now t.entries t.crossed c.args.matched e.entries e.crossed c.requires)
    (wrote_then _ _ _ _ (types t.entries ++ crossed t.crossed) (matched c.args.matched) (appended_then _ _ _ (types t.entries) (crossed t.crossed) c.in_ok-write_named.ensures.bytes.whole c.in_ok-write_count.ensures.bytes.whole) c.write_count-2.ensures.bytes)
