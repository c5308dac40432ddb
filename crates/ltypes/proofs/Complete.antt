-- Where no count of faults rose, the answers of commands are complete.
use Rattle.std.proofs.Common.{ℕ, ℤ, ◌<◌, refl, arith, sym, ap, ◌∙◌, inl, inr, List, [], length, get_or, Bool, true, false}
use Rattle.lt_crew.specs.Runs.{IsSettledBelow}
use Rattle.lt_model.specs.Atlases.{Classes, Atlas, mark_at, place_at}
use Rattle.lt_model.specs.Logs.{IsKept}
use Rattle.lt_model.specs.Walls.{IsAcross}
use Rattle.lt_model.proofs.Atlases.{event_there}
use Rattle.lt_read.specs.declared.refusals.ReadError.TheVariants as read
use Rattle.lt_read.specs.declared.refusals.Refusal.TheVariants.{TooLong}
use Rattle.lt_words.specs.declared.words.Command.{Command}
use Rattle.lt_words.specs.declared.words.Command.TheVariants.{Principal, Summary, Check, Run, Drill, Locate, Cover, Relevant, Shortest, Section, Merge, Convert}
use Rattle.ltypes.specs.declared.status.Cause.{Cause}
use Rattle.ltypes.specs.declared.status.Cause.TheVariants.{Finished, Done, Unfinished, Refused, Memory, ReadFault, WriteFault, NoEntry, MergeRefused, MergeStuck}
use Rattle.ltypes.specs.Answers.{AnswersOn, AnswersConvert, AnswersCommand}
use Rattle.ltypes.specs.Beginnings.{IsUnspelt, HasNoBeginning}
use Rattle.ltypes.specs.Changes.{Change}
use Rattle.ltypes.specs.Complete.{NotRisen, IsDecided, EndsRun, IsDoneOrMemory, EndsOn, EndsDrill, EndsForm, EndsRelevant, EndsMerge, EndsConvert, Ends}
use Rattle.ltypes.specs.Drills.{AnswersDrill}
use Rattle.ltypes.specs.Forms.{AnswersForm, IsOutput, refuses_none, IsTooLong, IsLocateText, IsCoverText, IsShortestText}
use Rattle.ltypes.specs.Merges.{HasNoMerged, IsMergedText, AnswersMerge}
use Rattle.ltypes.specs.Outputs.{IsPrincipalText}
use Rattle.ltypes.specs.Runs.{AnswersRun}
use Rattle.ltypes.specs.Sections.{IsSectionText, IsTooHeavy}
use Rattle.ltypes.specs.Summaries.{summary_text, check_text}
use Rattle.ltypes.specs.Texts.{code_of}
use Rattle.ltypes.specs.Vectors.{AnswersRelevant}
use Rattle.ltypes.specs.Writings.{Answers}
use Rattle.ltypes.proofs.Resuming.{narrow_runs}

-- ---- a run

-- a settled position is decided by its event
decided : (d steps : ℕ) (a : Atlas) → IsKept (IsAcross d) a → IsSettledBelow steps a → (p : ℕ) → p < length a.queue → p < steps → IsDecided d a p
decided d steps a kept settled p queued below =
    elim (event_there a.log p (length a.log)) [
      | inl h ↦ record {
        event = h.0;
        logged = h.1;
        position = h.2;
        mark = ap (λ (q : ℕ). mark_at a.marks (place_at a.queue q)) (sym h.2) ∙ kept.legal.standing h.0 h.1;
        legal = kept.legal.legal h.0 h.1;
      }
      | inr none ↦ (let past = (settled p queued).0 (kept.legal.rest p queued none) in absurd (omega (arith, below, past)))
    ]

-- the source can't have failed
never_failed : (version d : ℕ) (source : Change) → NotRisen source.before source.now → IsUnspelt version d source ReadFault → ⊥
never_failed version d source calm (read.Failed, why, e) = calm why
never_failed version d source calm (read.Refused r, why, e) = let n = ap code_of e in omega (arith, n)
never_failed version d source calm (read.Memory, why, e) = let n = ap code_of e in omega (arith, n)

no_fault : (d : ℕ) (resume : Bool) (source : Change) → NotRisen source.before source.now → HasNoBeginning d resume source ReadFault → ⊥
no_fault d true source calm why = never_failed 2 d source calm why
no_fault d false source calm e = let n = ap code_of e in omega (arith, n)

pub run_ends : (d workers steps : ℕ) (resume : Bool) (source out : Change) (cause : Cause) → AnswersRun d workers steps resume source out cause → NotRisen source.before source.now → NotRisen out.before out.now →
    EndsRun d workers steps resume source out cause
run_ends d workers steps resume source out Finished (a, here, settled, whole, text) calm still =
    inr (inr (record { atlas = a; run = here; written = text; decided = decided d steps a here.run.kept settled; finished = λ _ _. refl }))
run_ends d workers steps resume source out (Unfinished s o) (a, here, settled, stuck, undecided, unclosed, text) calm still =
    inr (inr (record {
      atlas = a;
      run = here;
      written = text;
      decided = decided d steps a here.run.kept settled;
      finished = λ meets few. absurd (unclosed (narrow_runs d workers steps resume source a here settled few meets));
    }))
run_ends d workers steps resume source out (Refused r) (why, text) calm still = inr (inl (r, refl, why))
run_ends d workers steps resume source out Memory answer calm still = inl refl
run_ends d workers steps resume source out ReadFault (why, text) calm still = absurd (no_fault d resume source calm why)
run_ends d workers steps resume source out WriteFault (rose, text) calm still = absurd (still rose)
run_ends d workers steps resume source out _ answer calm still = absurd answer

-- ---- the other commands

pub done_or_memory : (IsText : List ℕ → Type 0) (out : Change) (cause : Cause) → Answers IsText out cause → NotRisen out.before out.now → IsDoneOrMemory cause
done_or_memory IsText out Done answer still = inl refl
done_or_memory IsText out Memory answer still = inr refl
done_or_memory IsText out WriteFault (rose, text) still = absurd (still rose)
done_or_memory IsText out _ answer still = absurd answer

pub on_ends : (d : ℕ) (resume : Bool) (text : Atlas → List ℕ) (source out : Change) (cause : Cause) → AnswersOn d resume text source out cause → NotRisen source.before source.now → NotRisen out.before out.now → EndsOn d resume source cause
on_ends d resume text source out Done answer calm still = inl (inl refl)
on_ends d resume text source out (Refused r) (why, none) calm still = inr (r, refl, why)
on_ends d resume text source out Memory answer calm still = inl (inr refl)
on_ends d resume text source out ReadFault (why, none) calm still = absurd (no_fault d resume source calm why)
on_ends d resume text source out WriteFault (rose, front) calm still = absurd (still rose)
on_ends d resume text source out _ answer calm still = absurd answer

pub drill_ends : (d seed turns : ℕ) (out : Change) (cause : Cause) → AnswersDrill d seed turns out cause → NotRisen out.before out.now → EndsDrill d seed turns cause
drill_ends d seed turns out Done (a, b, both, text) still =
    let short = both.short in
    inr (record { atlas = a; drilled = both.drilled; short = λ _. refl; long = λ long. absurd (omega (arith, short, long)) })
drill_ends d seed turns out (Refused TooLong) (a, drilled, long, none) still = inr (record { atlas = a; drilled = drilled; short = λ short. absurd (omega (arith, short, long)); long = λ _. refl })
drill_ends d seed turns out (Refused _) (a, drilled, why, none) still = absurd why
drill_ends d seed turns out Memory answer still = inl refl
drill_ends d seed turns out WriteFault (rose, front) still = absurd (still rose)
drill_ends d seed turns out _ answer still = absurd answer

pub form_ends : (IsText : ℕ → ℕ → Classes → List ℕ → Type 0) (IsRefused : ℕ → Classes → Cause → Type 0) (steps : ℕ) (q : List ℤ) (out : Change) (cause : Cause) → AnswersForm IsText IsRefused steps q out cause → NotRisen out.before out.now →
    EndsForm IsRefused steps q cause
form_ends IsText IsRefused steps q out cause (inl answer) still = inl (done_or_memory (IsOutput IsText steps q) out cause answer still)
form_ends IsText IsRefused steps q out cause (inr (why, none)) still = inr why

pub relevant_ends : (d k : ℕ) (source out : Change) (cause : Cause) → AnswersRelevant d k source out cause → NotRisen source.before source.now → NotRisen out.before out.now → EndsRelevant d k source cause
relevant_ends d k source out Done answer calm still = inl (inl (inl refl))
relevant_ends d k source out (Refused r) (why, none) calm still = inl (inr (r, refl, why))
relevant_ends d k source out Memory answer calm still = inl (inl (inr refl))
relevant_ends d k source out ReadFault (why, none) calm still = absurd (no_fault d true source calm why)
relevant_ends d k source out WriteFault (rose, front) calm still = absurd (still rose)
relevant_ends d k source out (NoEntry entries) ((a, begins, same), past, none) calm still = inr (a, begins, omega (arith, same, past), ap NoEntry same)
relevant_ends d k source out _ answer calm still = absurd answer

unmerged : (d : ℕ) (source : Change) (cause : Cause) → HasNoMerged d source cause → NotRisen source.before source.now → EndsMerge d source cause
unmerged d source Memory why calm = inl (inr refl)
unmerged d source (MergeRefused part refusal) why calm = inr (omega arith, why)
unmerged d source (MergeStuck entry mark) why calm = inr (omega arith, why)
unmerged d source ReadFault (inl rose) calm = absurd (calm rose)
unmerged d source ReadFault (inr (bytes, input, why)) calm = absurd why
unmerged d source _ (inl why) calm = absurd why
unmerged d source _ (inr (bytes, input, why)) calm = absurd why

pub merge_ends : (d : ℕ) (source out : Change) (cause : Cause) → AnswersMerge d source out cause → NotRisen source.before source.now → NotRisen out.before out.now → EndsMerge d source cause
merge_ends d source out cause (inl answer) calm still = inl (done_or_memory (IsMergedText d source) out cause answer still)
merge_ends d source out cause (inr (why, none)) calm still = unmerged d source cause why calm

pub convert_ends : (d : ℕ) (source out : Change) (cause : Cause) → AnswersConvert d source out cause → NotRisen source.before source.now → NotRisen out.before out.now → EndsConvert d source cause
convert_ends d source out Done answer calm still = inl (inl refl)
convert_ends d source out (Refused r) (why, none) calm still = inr (r, refl, why)
convert_ends d source out Memory answer calm still = inl (inr refl)
convert_ends d source out ReadFault (why, none) calm still = absurd (never_failed 1 d source calm why)
convert_ends d source out WriteFault (rose, front) calm still = absurd (still rose)
convert_ends d source out _ answer calm still = absurd answer

-- ---- all commands

pub command_ends : (c : Command) (source out : Change) (cause : Cause) → AnswersCommand c source out cause → NotRisen source.before source.now → NotRisen out.before out.now → Ends c source out cause
command_ends (Principal d) source out cause answer calm still = done_or_memory (IsPrincipalText d) out cause answer still
command_ends (Summary d resume) source out cause answer calm still = on_ends d resume summary_text source out cause answer calm still
command_ends (Check d) source out cause answer calm still = on_ends d true check_text source out cause answer calm still
command_ends (Run d workers steps resume) source out cause answer calm still = run_ends d workers steps resume source out cause answer calm still
command_ends (Drill d seed turns) source out cause answer calm still = drill_ends d seed turns out cause answer still
command_ends (Locate steps q) source out cause answer calm still = form_ends IsLocateText refuses_none steps q out cause answer still
command_ends (Cover steps q) source out cause answer calm still = form_ends (IsCoverText q) (IsTooLong q) steps q out cause answer still
command_ends (Relevant d entry) source out cause answer calm still = relevant_ends d entry source out cause answer calm still
command_ends (Shortest steps q) source out cause answer calm still = form_ends (IsShortestText q) refuses_none steps q out cause answer still
command_ends (Section steps forms) source out cause answer calm still = form_ends (IsSectionText forms.items) (IsTooHeavy forms.items) steps (get_or forms.items 0 []) out cause answer still
command_ends (Merge d) source out cause answer calm still = merge_ends d source out cause answer calm still
command_ends (Convert d) source out cause answer calm still = convert_ends d source out cause answer calm still
