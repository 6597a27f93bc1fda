-- What `celldesk` prints in all, of a plan text and of an input that comes in reads: for every way in which the input is cut, what is put is
-- what `cellmoves` prints of the same lines (`desk_as_cellmoves`) and, without its limit, what document 01 words of them (`desk_prints`).
use Rattle.std.specs.Prelude.{ℕ, ◌<◌, ◌≤◌, List, [], ◌∷◌, ◌++◌, ◌≡◌, length}
use Rattle.model.specs.declared.Plan.{Plan}
use Rattle.plan_text.specs.TextQuestions.{max_text}
use Rattle.plan_text.specs.Reading.{reading}
use Rattle.moves_text.specs.Division.{Marked}
use Rattle.moves_text.specs.OutputLines.{about_plan}
use Rattle.moves_text.specs.Output.{output}
use Rattle.moves_text.specs.Prints.{concatenated, LinesAnswered}
use Rattle.desk_text.specs.Desk.{start_desk, last_ordinal, desk_after_read, out_of_read, out_at_end}
use Rattle.desk_text.specs.declared.Desk.{Desk}

-- read after read, up to the end
abbrev pub out_of_reads : Plan → Desk → List (List ℕ) → List ℕ
out_of_reads p d [] = out_at_end d
out_of_reads p d (read ∷ reads) = out_of_read p d read ++ out_of_reads p (desk_after_read p d read) reads

abbrev pub desk_output : List ℕ → List (List ℕ) → List ℕ
desk_output plan reads = let r = reading plan in about_plan r ++ out_of_reads r.plan start_desk reads

-- the input is short of 2^64 bytes, so that its lines have ordinals
abbrev pub Countable : List (List ℕ) → Type 0
Countable reads = length (concatenated reads) < last_ordinal

-- the two promises
abbrev pub DeskAsCellmoves : Type 0
DeskAsCellmoves =
    (input plan : List ℕ) (reads : List (List ℕ)) → Marked input plan (concatenated reads) → length input ≤ max_text
    → desk_output plan reads ≡ output input

abbrev pub DeskPrints : Type 0
DeskPrints = (plan : List ℕ) (reads : List (List ℕ)) → Countable reads → LinesAnswered plan (concatenated reads) (desk_output plan reads)
