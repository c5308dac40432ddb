use Rattle.std.proofs.Common.{◌≡◌, ℕ, ℤ, pos, arith, ap, ◌∙◌, List, [], ◌∷◌, ◌++◌}
use Rattle.std.specs.Int.{w128}
use Rattle.std.specs.Prelude.{codes}
use Rattle.std.proofs.lemmas.Int.{to_z_pos}
use Rattle.std.proofs.lemmas.Result.{err_from_is_err_and}
use Rattle.lt_io.proofs.Compose.{wrote_front, wrote_then, front_of_more, appended_then, appended_then_front}
use Rattle.lt_lines.specs.Lines.{line}
use Rattle.ltypes.specs.Drills.{start_text, end_text}
use Rattle.ltypes.proofs.Drilled.{told}
use Rattle.ltypes.proofs.drill.write_lines.Goals as goal

abbrev head : (d seed turns : ℕ) → List ℕ
head d seed turns = line (codes "drill") (pos d ∷ pos seed ∷ pos turns ∷ [])

is_head : (d seed turns : ℕ) (x y z : ℤ) → x ≡ pos d → y ≡ pos seed → z ≡ pos turns → line (codes "drill") (x ∷ y ∷ z ∷ []) ≡ head d seed turns
is_head d seed turns x y z e f g =
    ap (λ (n : ℤ). line (codes "drill") (n ∷ y ∷ z ∷ [])) e ∙ ap (λ (n : ℤ). line (codes "drill") (pos d ∷ n ∷ z ∷ [])) f ∙ ap (λ (n : ℤ). line (codes "drill") (pos d ∷ pos seed ∷ n ∷ [])) g

pub returns-in_err-write_line-clause-bytes : goal.returns-in_err-write_line-clause-bytes
returns-in_err-write_line-clause-bytes g c =
    let a = c.args.findings.now.start in
    let first = head c.args.d c.args.seed c.args.turns in
    let same = is_head c.args.d c.args.seed c.args.turns _ _ _ (to_z_pos w128 c.args.d (omega arith)) (to_z_pos w128 c.args.seed (omega arith)) (to_z_pos w128 c.args.turns (omega arith)) in
    let p = err_from_is_err_and c.from_residual.result c.from_residual.ensures.1 in
    wrote_front _ _ _ _ _ p.1 (front_of_more _ _ (first ++ start_text a) (end_text c.args.findings.now.end) (front_of_more _ _ first (start_text a) (told _ _ _ _ _ same c.in_err-write_line.ensures.bytes).front))

pub returns-in_err-write_start-clause-bytes : goal.returns-in_err-write_start-clause-bytes
returns-in_err-write_start-clause-bytes g c =
    let a = c.args.findings.now.start in
    let first = head c.args.d c.args.seed c.args.turns in
    let same = is_head c.args.d c.args.seed c.args.turns _ _ _ (to_z_pos w128 c.args.d (omega arith)) (to_z_pos w128 c.args.seed (omega arith)) (to_z_pos w128 c.args.turns (omega arith)) in
    let p = err_from_is_err_and c.from_residual-in_err-write_start.result c.from_residual-in_err-write_start.ensures.1 in
    wrote_front _ _ _ _ _ p.1
    (front_of_more _ _ (first ++ start_text a) (end_text c.args.findings.now.end) (appended_then_front _ _ _ first (start_text a) (told _ _ _ _ _ same c.in_ok-write_line.ensures.bytes).whole c.in_err-write_start.ensures.bytes.front))

pub returns-clause-bytes : goal.returns-clause-bytes
returns-clause-bytes g c =
    let a = c.args.findings.now.start in
    let first = head c.args.d c.args.seed c.args.turns in
    let same = is_head c.args.d c.args.seed c.args.turns _ _ _ (to_z_pos w128 c.args.d (omega arith)) (to_z_pos w128 c.args.seed (omega arith)) (to_z_pos w128 c.args.turns (omega arith)) in
    wrote_then _ _ _ _ (first ++ start_text a) (end_text c.args.findings.now.end) (appended_then _ _ _ first (start_text a) (told _ _ _ _ _ same c.in_ok-write_line.ensures.bytes).whole c.in_ok-write_start.ensures.bytes.whole) c.write_end.ensures.bytes
