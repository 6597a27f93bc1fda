-- The section "The program" of document 01 as it is worded: which line is answered what.
use Rattle.std.specs.Prelude.{ℕ, ◌+◌, ◌≤◌, ◌<◌, List, [], ◌∷◌, ◌++◌, ◌≡◌, length}
use Rattle.std.proofs.Math.Option.{Option}
use Rattle.model.specs.Numbers.{entry, Split}
use Rattle.model.specs.declared.Plan.{Plan}
use Rattle.events.specs.JobList.{empty_list}
use Rattle.events.specs.declared.Event.{Event}
use Rattle.events.specs.declared.JobList.{JobList}
use Rattle.emptying.specs.Run.{list_after_all}
use Rattle.plan_text.specs.Lines.{Line, lines_of}
use Rattle.plan_text.specs.TextQuestions.{max_text}
use Rattle.plan_text.specs.Reading.{reading}
use Rattle.moves_text.specs.Quoted.{quoted}
use Rattle.moves_text.specs.Division.{Divides}
use Rattle.moves_text.specs.EventLines.{Means, counted, events_in}
use Rattle.moves_text.specs.OutputLines.{event_line, about_plan, answer_to}
use Rattle.moves_text.specs.declared.EventLine.{EventLine}

abbrev pub concatenated : List (List ℕ) → List ℕ
concatenated [] = []
concatenated (l ∷ ls) = l ++ concatenated ls

-- these are what the lines mean, each its own
abbrev pub EachMeans : List Line → List EventLine → Type 0
EachMeans [] [] = Unit {0}
EachMeans [] (m ∷ ms) = ⊥
EachMeans (l ∷ ls) [] = ⊥
EachMeans (l ∷ ls) (m ∷ ms) = Means l m × EachMeans ls ms

-- the table after counted lines: that after the events of the well-formed ones, from the empty table
abbrev pub table_after : Plan → List (Option Event) → JobList
table_after p ls = list_after_all p empty_list (events_in ls)

-- the line printed of a counted line that comes after others: its event is answered at the table after theirs
abbrev pub line_for : Plan → List (Option Event) → Option Event → List ℕ
line_for p before l =
    let a = answer_to p (table_after p before) l in
    event_line (length before + 1) a.0 a.1 (table_after p (before ++ l ∷ [])).count

-- of a plan text and the text of event lines: the lines about the plan, and one for each counted event line, in order. A line means one
-- thing (`meaning_unique`)
pub record LinesAnswered (plan events out : List ℕ) : Type 0 where
  pub meanings : List EventLine
  pub meant : EachMeans (lines_of events) meanings
  pub lines : List (List ℕ)
  pub printed : out ≡ about_plan (reading plan) ++ concatenated lines
  pub one_each : length lines ≡ length (counted meanings)
  pub each : (s : Split (counted meanings)) → entry lines (length s.before + 1) [] ≡ line_for (reading plan).plan s.before s.item

-- an input of at most 65,536 bytes: its two parts, answered
pub record Answered (input out : List ℕ) : Type 0 where
  pub plan : List ℕ
  pub events : List ℕ
  pub divided : Divides input plan events
  pub answered : LinesAnswered plan events out

-- what is printed of an input; of a longer one its refusal alone
pub record Prints (input out : List ℕ) : Type 0 where
  pub answered : length input ≤ max_text → Answered input out
  pub too_long : max_text < length input → out ≡ quoted "P\t1\t0\n"
