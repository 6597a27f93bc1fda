-- What a person is told of a refused event, in one line: its ordinal, what the answer's number means, and the place in words: which
-- resource, or which row and by how much it would be exceeded, or the slip in a malformed line.
use Rattle.std.specs.Prelude.{ℕ, cond, List, [], ◌++◌, eqb, Option}
use Rattle.model.specs.Jobs.{excess_of}
use Rattle.model.specs.declared.Plan.{Plan}
use Rattle.events.specs.JobList.{jobs_of}
use Rattle.events.specs.Events.{answer, answer_numbers, jobs_after}
use Rattle.events.specs.declared.JobList.{JobList}
use Rattle.events.specs.declared.Event.{Event}
use Rattle.moves_text.specs.Quoted.{quoted}
use Rattle.moves_text.specs.Decimals.{decimal}
use Rattle.moves_text.specs.OutputLines.{malformed}
use Rattle.told_text.specs.Words.{words_of}
use Rattle.told_text.specs.Slips.{slip_words}
use Rattle.told_text.specs.declared.Slip.{Slip}

-- by how much row w would be exceeded, were the event made (`excess_of_the_row`)
unfoldable pub excess_after : Plan → JobList → Event → ℕ → ℕ
excess_after p t e w = excess_of p (jobs_after p (jobs_of t) e) w

-- the place of an answer in words, with the excess of its row
abbrev pub event_place : ℕ → ℕ → ℕ → List ℕ
event_place number place excess =
    cond (eqb number 18) (quoted ": resource " ++ decimal place)
    (cond (eqb number 19) (quoted ": row " ++ decimal place ++ quoted ", by " ++ decimal excess) [])

abbrev pub event_head : ℕ → List ℕ
event_head ordinal = quoted "event " ++ decimal ordinal ++ quoted ": "

-- an event's line of words
abbrev pub told_line : ℕ → ℕ → List ℕ → List ℕ
told_line ordinal number more = event_head ordinal ++ words_of number ++ more ++ quoted "\n"

-- of an event with this ordinal at a table; nothing is said of an admitted one
unfoldable pub event_message : Plan → JobList → ℕ → Event → List ℕ
event_message p t ordinal e =
    let a = answer_numbers (answer p t e) in
    cond (eqb a.0 0) [] (told_line ordinal a.0 (event_place a.0 a.1 (excess_after p t e a.1)))

-- of a malformed line
abbrev pub malformed_message : ℕ → Option Slip → List ℕ
malformed_message ordinal slip = told_line ordinal malformed (slip_words slip)
