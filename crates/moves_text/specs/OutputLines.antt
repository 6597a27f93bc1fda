-- The lines of the output: `P`, `Q`, and one for each counted event line.
use Rattle.std.specs.Prelude.{ℕ, cond, List, [], ◌∷◌, ◌++◌, eqb}
use Rattle.std.proofs.Math.Option.{Option, none, some}
use Rattle.model.specs.Upstream.{check, check_numbers}
use Rattle.model.specs.declared.Plan.{Plan}
use Rattle.events.specs.Events.{answer, list_after, answer_numbers}
use Rattle.events.specs.declared.JobList.{JobList}
use Rattle.events.specs.declared.Event.{Event}
use Rattle.plan_text.specs.TextQuestions.{text_number}
use Rattle.plan_text.specs.declared.Reading.{Reading}
use Rattle.moves_text.specs.Quoted.{quoted}
use Rattle.moves_text.specs.Decimals.{decimal, line_with}

-- `P`, the plan's answer, its line
abbrev pub plan_line : ℕ → ℕ → List ℕ
plan_line number line = line_with (quoted "P" ∷ decimal number ∷ decimal line ∷ [])

-- `Q`, the check's answer and its two places
abbrev pub check_line : ℕ → ℕ → ℕ → List ℕ
check_line number first second = line_with (quoted "Q" ∷ decimal number ∷ decimal first ∷ decimal second ∷ [])

-- an event's ordinal, its answer, its place, and the jobs active afterwards
abbrev pub event_line : ℕ → ℕ → ℕ → ℕ → List ℕ
event_line ordinal number place active = line_with (decimal ordinal ∷ decimal number ∷ decimal place ∷ decimal active ∷ [])

-- the two lines about the plan; the second where it was accepted
abbrev pub about_check : Plan → List ℕ
about_check p = let c = check_numbers (check p) in check_line c.0 c.1 c.2

abbrev pub about_text : ℕ → ℕ → Plan → List ℕ
about_text number line p = plan_line number line ++ cond (eqb number 0) (about_check p) []

abbrev pub about_plan : Reading → List ℕ
about_plan r = about_text (text_number r.answer) r.line r.plan

-- the paper's number of a malformed line
abbrev pub malformed : ℕ
malformed = 41

-- the answer to a counted line with its place, and the table after it
abbrev pub answer_to : Plan → JobList → Option Event → ℕ × ℕ
answer_to p t none = (malformed, 0)
answer_to p t (some e) = answer_numbers (answer p t e)

abbrev pub list_after_line : Plan → JobList → Option Event → JobList
list_after_line p t none = t
list_after_line p t (some e) = list_after p t e
