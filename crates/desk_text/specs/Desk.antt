-- One line of a read: it is held, and if its LF is there it is answered, at the table that the lines before left, with its ordinal.
use Rattle.std.specs.Prelude.{ℕ, ◌+◌, cond, List, [], ◌∷◌, ◌++◌, ltb, eqb, Some}
use Rattle.std.proofs.Math.Option.{Option, none, some}
use Rattle.model.specs.declared.Plan.{Plan}
use Rattle.events.specs.JobList.{empty_list}
use Rattle.events.specs.declared.JobList.{JobList}
use Rattle.events.specs.declared.Event.{Event}
use Rattle.plan_text.specs.Lines.{Line, lines_of}
use Rattle.moves_text.specs.OutputLines.{event_line, malformed, list_after_line}
use Rattle.moves_text.specs.Output.{reply_to}
use Rattle.moves_text.specs.declared.EventLine.{EventLine}
use Rattle.moves_text.specs.declared.EventLine.TheVariants.{Skipped, Malformed, Given}
use Rattle.told_text.specs.EventMessage.{event_message, malformed_message}
use Rattle.told_text.specs.declared.Slip.TheVariants.{NoLineEnd}
use Rattle.desk_text.specs.HeldLine.{no_line, held_with, held_means, held_slip}
use Rattle.desk_text.specs.declared.HeldLine.{HeldLine}
use Rattle.desk_text.specs.declared.Desk.{Desk}

abbrev pub start_desk : Desk
start_desk = record { list = empty_list; ordinal = 1; held = no_line }

-- the ordinal of the next line; after the last that 64 bits hold there is no other
abbrev pub last_ordinal : ℕ
last_ordinal = 18446744073709551615

abbrev pub next_ordinal : ℕ → ℕ
next_ordinal n = cond (ltb n last_ordinal) (n + 1) n

-- with these jobs, after a line that was counted
abbrev pub desk_with : JobList → ℕ → Desk
desk_with list ordinal = record { list = list; ordinal = next_ordinal ordinal; held = no_line }

-- after a counted line, and what is put of it
abbrev pub desk_after_line : Plan → Desk → Option Event → Desk
desk_after_line p d l = desk_with (list_after_line p d.list l) d.ordinal

abbrev pub line_out : Plan → Desk → Option Event → List ℕ
line_out p d l = let r = reply_to p d.list l in event_line d.ordinal r.number r.place r.active

-- after an event, and what is put of it
abbrev pub desk_after_event : Plan → Desk → Event → Desk
desk_after_event p d e = desk_after_line p d (some e)

abbrev pub event_out : Plan → Desk → Event → List ℕ
event_out p d e = line_out p d (some e)

-- of a malformed one, whatever the plan
abbrev pub malformed_out : Desk → List ℕ
malformed_out d = event_line d.ordinal malformed 0 d.list.count

-- after a line that means this, what is put of it, and what a person is told of it; h is the line as it was held
abbrev pub desk_after_meaning : Plan → Desk → EventLine → Desk
desk_after_meaning p d Skipped = record { list = d.list; ordinal = d.ordinal; held = no_line }
desk_after_meaning p d Malformed = desk_after_line p d none
desk_after_meaning p d (Given e) = desk_after_event p d e

abbrev pub meaning_out : Plan → Desk → EventLine → List ℕ
meaning_out p d Skipped = []
meaning_out p d Malformed = line_out p d none
meaning_out p d (Given e) = event_out p d e

abbrev pub meaning_told : Plan → Desk → HeldLine → EventLine → List ℕ
meaning_told p d h Skipped = []
meaning_told p d h Malformed = malformed_message d.ordinal (held_slip h)
meaning_told p d h (Given e) = event_message p d.list d.ordinal e

-- a line of a read goes on with what is held: without its LF it is held too
abbrev pub held_at : Desk → Line → HeldLine
held_at d l = held_with d.held l.bytes

abbrev pub desk_after : Plan → Desk → Line → Desk
desk_after p d l =
    cond l.ended (desk_after_meaning p d (held_means (held_at d l))) (record { list = d.list; ordinal = d.ordinal; held = held_at d l })

abbrev pub out_of : Plan → Desk → Line → List ℕ
out_of p d l = cond l.ended (meaning_out p d (held_means (held_at d l))) []

abbrev pub told_of : Plan → Desk → Line → List ℕ
told_of p d l = cond l.ended (meaning_told p d (held_at d l) (held_means (held_at d l))) []

-- line after line
abbrev pub desk_after_lines : Plan → Desk → List Line → Desk
desk_after_lines p d [] = d
desk_after_lines p d (l ∷ ls) = desk_after_lines p (desk_after p d l) ls

abbrev pub out_of_lines : Plan → Desk → List Line → List ℕ
out_of_lines p d [] = []
out_of_lines p d (l ∷ ls) = out_of p d l ++ out_of_lines p (desk_after p d l) ls

abbrev pub told_of_lines : Plan → Desk → List Line → List ℕ
told_of_lines p d [] = []
told_of_lines p d (l ∷ ls) = told_of p d l ++ told_of_lines p (desk_after p d l) ls

-- a read, of so many bytes at most
abbrev pub most_read : ℕ
most_read = 1024

unfoldable pub desk_after_read : Plan → Desk → List ℕ → Desk
desk_after_read p d read = desk_after_lines p d (lines_of read)

unfoldable pub out_of_read : Plan → Desk → List ℕ → List ℕ
out_of_read p d read = out_of_lines p d (lines_of read)

unfoldable pub told_of_read : Plan → Desk → List ℕ → List ℕ
told_of_read p d read = told_of_lines p d (lines_of read)

-- at the end of the input: a line that is held has no LF, and is malformed
unfoldable pub desk_at_end : Desk → Desk
desk_at_end d = cond (eqb d.held.count 0) d (desk_with d.list d.ordinal)

unfoldable pub out_at_end : Desk → List ℕ
out_at_end d = cond (eqb d.held.count 0) [] (malformed_out d)

unfoldable pub told_at_end : Desk → List ℕ
told_at_end d = cond (eqb d.held.count 0) [] (malformed_message d.ordinal (Some NoLineEnd))
