-- The lines that commands write to out, and the line that a cause writes to err.
use Rattle.std.specs.Prelude.{ℕ, ℤ, pos, List, [], ◌∷◌, ◌++◌, codes}
use Rattle.std.specs.Fmt.{decimal}
use Rattle.lt_core.specs.Marks.{mark_of}
use Rattle.lt_lines.specs.Lines.{behind_spaces, line}
use Rattle.lt_model.specs.Atlases.{Mark, open_mark, cross, wide, heavy}
use Rattle.lt_text.specs.Texts.{triangulation_text}
use Rattle.ltypes.specs.declared.status.Cause.{Cause}
use Rattle.ltypes.specs.declared.status.Cause.TheVariants.{Finished, Done, Unfinished, Words, Refused, Memory, ReadFault, WriteFault, NotPositive, OnWall, Walked, LongEdge, NoEntry, SectionHeavy, MergeRefused, MergeStuck}
use Rattle.lt_locate.specs.declared.answers.WalkStop.{WalkStop}
use Rattle.lt_locate.specs.declared.answers.WalkStop.TheVariants as walk
use Rattle.lt_read.specs.declared.refusals.Refusal.{Refusal}
use Rattle.lt_read.specs.declared.refusals.Refusal.TheVariants.{TooLong, Syntax, OtherDimension, NotPrincipal, BadOrigin, BadSimplices, BadCone, BadCross, Twin}

-- the dimension, the form, the number of classes, and the classes
abbrev pub type_text : ℕ → List ℤ → List (List (List ℤ)) → List ℕ
type_text d form t = line (codes "dimension") (pos d ∷ []) ++ line (codes "form") form ++ triangulation_text t

-- a word and a number, with no end of line
abbrev pub named : List ℕ → ℕ → List ℕ
named word n = word ++ behind_spaces (pos n ∷ [])

-- the number of a cause
abbrev pub code_of : Cause → ℕ
code_of Finished = 0
code_of Done = 0
code_of (Unfinished s o) = 1
code_of (Words place) = 2
code_of (Refused refusal) = 3
code_of Memory = 4
code_of ReadFault = 5
code_of WriteFault = 6
code_of (NotPositive x) = 7
code_of (OnWall facet) = 8
code_of (Walked after why) = 9
code_of (LongEdge x length) = 10
code_of (NoEntry entries) = 11
code_of (SectionHeavy weight) = 12
code_of (MergeRefused part refusal) = 13
code_of (MergeStuck entry mark) = 14

-- the numbers of wide and heavy marks, and of open ones
abbrev pub unfinished_line : ℕ → ℕ → List ℕ
unfinished_line s o = named (codes "unfinished: stuck") s ++ line (codes " undecided") (pos o ∷ [])

-- a line of a word and two counts
abbrev pub pair_text : List ℕ → ℕ → ℕ → List ℕ
pair_text word n m = named word n ++ line [] (pos m ∷ [])

-- two equivalent entries, and the matrix that carries the second onto the first
abbrev pub twin_text : ℕ → ℕ → List ℤ → List ℕ
twin_text i j u = named (codes "refused: twin") i ++ named [] j ++ line [] u

-- the line of a refusal
abbrev pub refusal_text : Refusal → List ℕ
refusal_text TooLong = line (codes "refused: too long") []
refusal_text (Syntax n) = line (codes "refused: syntax line") (pos n ∷ [])
refusal_text (OtherDimension found) = line (codes "refused: other dimension") (pos found ∷ [])
refusal_text NotPrincipal = line (codes "refused: not principal") []
refusal_text (BadOrigin k) = line (codes "refused: origin") (pos k ∷ [])
refusal_text (BadSimplices k) = line (codes "refused: simplices") (pos k ∷ [])
refusal_text (BadCone k row) = pair_text (codes "refused: cone") k row
refusal_text (BadCross k facet) = pair_text (codes "refused: cross") k facet
refusal_text (Twin i j matrix) = twin_text i j matrix

-- the number of crossings of a walk, and why it stopped
abbrev pub stop_part : WalkStop → List ℕ
stop_part walk.Steps = line (codes ": steps") []
stop_part (walk.Wide span) = line (codes ": wide") (span ∷ [])
stop_part (walk.Heavy weight) = line (codes ": heavy") (weight ∷ [])

abbrev pub walked_line : ℕ → WalkStop → List ℕ
walked_line after why = named (codes "stopped after") after ++ stop_part why

-- an edge and its value
abbrev pub long_edge_line : List ℤ → ℤ → List ℕ
long_edge_line x length = codes "long edge:" ++ behind_spaces x ++ line [] (length ∷ [])

-- a part of an input, and why it is refused
abbrev pub part_refused_line : ℕ → Refusal → List ℕ
part_refused_line part refusal = named (codes "part") part ++ codes " " ++ refusal_text refusal

-- what a mark is
abbrev pub mark_part : Mark → List ℕ
mark_part open_mark = line (codes ": open") []
mark_part (cross target matrix) = line (codes ": cross") (pos target ∷ [])
mark_part (wide class span) = line (codes ": wide") (pos span ∷ [])
mark_part (heavy weight) = codes ": heavy " ++ line (decimal weight) []

-- an entry that is stuck, and the mark behind which it lies
abbrev pub stuck_line : ℕ → Mark → List ℕ
stuck_line entry mark = named (codes "merge stuck") entry ++ mark_part mark

-- the line of a cause; Finished and Done have none
abbrev pub err_text : Cause → List ℕ
err_text Finished = []
err_text Done = []
err_text (Unfinished s o) = unfinished_line s o
err_text (Words place) = line (codes "words: place") (pos place ∷ [])
err_text (Refused refusal) = refusal_text refusal
err_text Memory = line (codes "memory") []
err_text ReadFault = line (codes "read fault") []
err_text WriteFault = line (codes "write fault") []
err_text (NotPositive x) = line (codes "not positive:") x
err_text (OnWall facet) = line (codes "on wall:") facet
err_text (Walked after why) = walked_line after why
err_text (LongEdge x length) = long_edge_line x length
err_text (NoEntry entries) = line (codes "no entry") (pos entries ∷ [])
err_text (SectionHeavy weight) = line (codes "section heavy") (weight ∷ [])
err_text (MergeRefused part refusal) = part_refused_line part refusal
err_text (MergeStuck entry mark) = stuck_line entry (mark_of mark)
