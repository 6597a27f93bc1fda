-- What each function of the library answers, and what lies in the host's bytes afterwards. Bytes too few for a cell are answered 9 before
-- all else, and stay as they are.
use Rattle.std.specs.Prelude.{ℕ, ◌+◌, ◌*◌, cond, ◌&&◌, List, [], ◌∷◌, ltb, eqb}
use Rattle.model.specs.Upstream.{check_numbers, check}
use Rattle.model.specs.declared.Check.{Check}
use Rattle.events.specs.Events.{answer_numbers, is_admitted, answer, list_after}
use Rattle.events.specs.Drain.{end_number, list_drain}
use Rattle.events.specs.declared.Event.{Event}
use Rattle.events.specs.declared.Answer.{Answer}
use Rattle.events.specs.declared.ListDrained.{ListDrained}
use Rattle.plan_text.specs.TextQuestions.{text_number}
use Rattle.plan_text.specs.Reading.{reading}
use Rattle.plan_text.specs.declared.Reading.{Reading}
use Rattle.canonical_text.specs.Writing.{write_number, writing, buffer_after}
use Rattle.canonical_text.specs.declared.Writing.{Writing}
use Rattle.cell_layout.specs.Layout.{is_cell, plan_in, list_in, with_plan, with_list}

-- an answer of 64 bits: the published number in the lowest 16, the second place in the next 16, and the first place, the line, the
-- length or the moves made in the highest 32
abbrev pub packed : ℕ → ℕ → ℕ → ℕ
packed number first second = number + 65536 * second + 4294967296 * first

-- 9: there are fewer bytes than a cell has
abbrev pub too_few_bytes : ℕ
too_few_bytes = 9

abbrev pub no_cell : ℕ
no_cell = packed too_few_bytes 0 0

-- a plan text is read: its answer and line, and its plan, which is the empty plan if the text is refused; the table stays
abbrev pub packed_reading : Reading → ℕ
packed_reading a = packed (text_number a.answer) a.line 0

unfoldable pub read_answer : List ℕ → List ℕ → ℕ
read_answer text bytes = cond (is_cell bytes) (packed_reading (reading text)) no_cell

unfoldable pub read_cell : List ℕ → List ℕ → List ℕ
read_cell text bytes = with_plan (reading text).plan bytes

-- the line of a text that a refusal is about: where in the text it begins, in the lowest 32 bits, and where it ends, in the highest 32; 0 and 0 if
-- the answer is about no line
unfoldable pub shown_answer : List ℕ → ℕ
shown_answer text = (reading text).from + 4294967296 * (reading text).to

-- the plan is written into a buffer: the answer and the length, and the buffer afterwards
abbrev pub packed_writing : Writing → ℕ
packed_writing w = packed (write_number w.answer) w.length 0

unfoldable pub write_answer : List ℕ → List ℕ → ℕ
write_answer bytes buffer = cond (is_cell bytes) (packed_writing (writing (plan_in bytes) buffer)) no_cell

unfoldable pub written_buffer : List ℕ → List ℕ → List ℕ
written_buffer bytes buffer = cond (is_cell bytes) (buffer_after (plan_in bytes) buffer) buffer

-- the upstream check of the plan, with its two places
abbrev pub packed_check : Check → ℕ
packed_check c = packed (check_numbers c).0 (check_numbers c).1 (check_numbers c).2

unfoldable pub check_answer : List ℕ → ℕ
check_answer bytes = cond (is_cell bytes) (packed_check (check (plan_in bytes))) no_cell

-- an event: its answer and place, and the table that it leads to; a refusal writes nothing
abbrev pub packed_answer : Answer → ℕ
packed_answer a = packed (answer_numbers a).0 (answer_numbers a).1 0

abbrev pub cell_answer : List ℕ → Event → Answer
cell_answer bytes e = answer (plan_in bytes) (list_in bytes) e

unfoldable pub event_answer : List ℕ → Event → ℕ
event_answer bytes e = cond (is_cell bytes) (packed_answer (cell_answer bytes e)) no_cell

unfoldable pub event_cell : List ℕ → Event → List ℕ
event_cell bytes e =
    cond (is_cell bytes && is_admitted (cell_answer bytes e)) (with_list (list_after (plan_in bytes) (list_in bytes) e) bytes) bytes

-- a drain: its end and the moves made, and the table afterwards; without a move nothing is written
abbrev pub packed_drain : ListDrained → ℕ
packed_drain d = packed (end_number d.end) d.moves 0

abbrev pub cell_drain : List ℕ → ℕ → ListDrained
cell_drain bytes budget = list_drain (plan_in bytes) (list_in bytes) budget

unfoldable pub drain_answer : List ℕ → ℕ → ℕ
drain_answer bytes budget = cond (is_cell bytes) (packed_drain (cell_drain bytes budget)) no_cell

unfoldable pub drain_cell : List ℕ → ℕ → List ℕ
drain_cell bytes budget =
    let d = cell_drain bytes budget in cond (is_cell bytes && ltb 0 d.moves) (with_list d.list bytes) bytes

-- a list of events: the bytes after it, what was answered, and how often 0
abbrev pub cell_after_all : List ℕ → List Event → List ℕ
cell_after_all bytes [] = bytes
cell_after_all bytes (e ∷ es) = cell_after_all (event_cell bytes e) es

abbrev pub event_answers : List ℕ → List Event → List ℕ
event_answers bytes [] = []
event_answers bytes (e ∷ es) = event_answer bytes e ∷ event_answers (event_cell bytes e) es

abbrev pub admitted_answers : List ℕ → ℕ
admitted_answers [] = 0
admitted_answers (a ∷ more) = cond (eqb a 0) 1 0 + admitted_answers more
