use Rattle.std.proofs.Common.{arith, add-one, ap₂, ◌<◌, ℕ, suc, sym, subst, length, get_or, List, []}
use Rattle.std.proofs.lemmas.Result.{err_from_is_err_and}
use Rattle.std.specs.Io.KnownBytes.{Appends}
use Rattle.lt_io.specs.Bytes.{AppendsFront}
use Rattle.lt_io.proofs.Compose.{wrote_front, front_of_more, appended_then, appended_then_front}
use Rattle.lt_model.specs.Atlases.{Entry, Mark, entry_at}
use Rattle.ltypes.specs.Summaries.{entry_summary, entry_summaries}
use Rattle.ltypes.proofs.Summed.{summaries_split, weight_there}
use Rattle.ltypes.proofs.summary.write_entries.Goals as goal

pub marks-requires : goal.marks-requires
marks-requires g c = let lists = c.keeps.ensures.kept.right.parts.lists in omega (arith, lists)

pub returns-in_err-write_entry-clause-bytes : goal.returns-in_err-write_entry-clause-bytes
returns-in_err-write_entry-clause-bytes g c =
    let a = c.args.atlas.now in
    let k = c.loop-k.k in
    let here : k < length a.entries = omega arith in
    let p = err_from_is_err_and c.from_residual.result c.from_residual.ensures.1 in
    let own : List ℕ = entry_summary a.dimension k (entry_at a.entries k) (get_or a.marks k []) in
    let s = summaries_split a (suc k) (length a.entries) (omega arith) in
    let front : AppendsFront (g.K.Sink.held c.loop-k.out) (g.K.Sink.held c.write_entry.new.out) own =
    subst (λ (l : List ℕ). AppendsFront (g.K.Sink.held c.loop-k.out) (g.K.Sink.held c.write_entry.new.out) l)
    (ap₂ (λ (e : Entry) (ms : List Mark). entry_summary a.dimension k e ms) c.entry.ensures c.marks.ensures)
    (c.in_err-write_entry.ensures.bytes a.dimension (weight_there a c.args.weights.now k _ _ here c.requires c.entry.ensures)).front
    in
    wrote_front _ _ _ _ _ p.1
    (subst (λ (l : List ℕ). AppendsFront (g.K.Sink.held c.args.out.now) (g.K.Sink.held c.write_entry.new.out) l) (sym s.1)
    (front_of_more _ _ (entry_summaries a (suc k)) s.0 (appended_then_front _ _ _ (entry_summaries a k) own c.loop-k.invariant.so_far front)))

pub loop-k-preserved : goal.loop-k-preserved
loop-k-preserved g c =
    let a = c.args.atlas.now in
    let k = c.loop-k.k in
    let here : k < length a.entries = omega arith in
    let own : List ℕ = entry_summary a.dimension k (entry_at a.entries k) (get_or a.marks k []) in
    let whole : Appends (g.K.Sink.held c.loop-k.out) (g.K.Sink.held c.write_entry.new.out) own =
    subst (λ (l : List ℕ). Appends (g.K.Sink.held c.loop-k.out) (g.K.Sink.held c.write_entry.new.out) l)
    (ap₂ (λ (e : Entry) (ms : List Mark). entry_summary a.dimension k e ms) c.entry.ensures c.marks.ensures)
    (c.in_ok-write_entry.ensures.bytes a.dimension (weight_there a c.args.weights.now k _ _ here c.requires c.entry.ensures)).whole
    in
    let before = c.loop-k.invariant.later in
    let now = c.in_ok-write_entry.ensures.cause.later in
    record {
      so_far = rw (add-one k) (appended_then _ _ _ (entry_summaries a k) own c.loop-k.invariant.so_far whole);
      later = omega (arith, before, now);
    }
