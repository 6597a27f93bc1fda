-- The same, computed (`output_prints`): one function from the bytes read to the bytes printed.
use Rattle.std.specs.Prelude.{ℕ, ◌+◌, ◌*◌, cond, List, [], ◌∷◌, ◌++◌, leb, length}
use Rattle.std.proofs.Math.Option.{Option}
use Rattle.model.specs.declared.Plan.{Plan}
use Rattle.events.specs.JobList.{empty_list}
use Rattle.events.specs.declared.JobList.{JobList}
use Rattle.events.specs.declared.Event.{Event}
use Rattle.plan_text.specs.TextQuestions.{max_text}
use Rattle.plan_text.specs.Reading.{reading}
use Rattle.moves_text.specs.Quoted.{quoted}
use Rattle.moves_text.specs.Division.{plan_part, event_part}
use Rattle.moves_text.specs.EventLines.{counted_in}
use Rattle.moves_text.specs.OutputLines.{event_line, about_plan, answer_to, list_after_line}

-- what is printed of a counted line beside its ordinal
pub record Reply : Type 0 where
  pub number : ℕ
  pub place : ℕ
  pub active : ℕ

abbrev pub reply_to : Plan → JobList → Option Event → Reply
reply_to p t l = record { number = (answer_to p t l).0; place = (answer_to p t l).1; active = (list_after_line p t l).count }

-- line by line, the table handed on
abbrev pub replies_to : Plan → JobList → List (Option Event) → List Reply
replies_to p t [] = []
replies_to p t (l ∷ ls) = reply_to p t l ∷ replies_to p (list_after_line p t l) ls

-- replies printed, with ordinals from n on
abbrev pub printed_from : ℕ → List Reply → List ℕ
printed_from n [] = []
printed_from n (r ∷ rs) = event_line n r.number r.place r.active ++ printed_from (n + 1) rs

-- what is printed of a text of event lines, with ordinals from n on
abbrev pub to_print : Plan → JobList → ℕ → List ℕ → List ℕ
to_print p t n text = printed_from n (replies_to p t (counted_in text))

unfoldable pub output : List ℕ → List ℕ
output input =
    let r = reading (plan_part input) in
    cond (leb (length input) max_text) (about_plan r ++ to_print r.plan empty_list 1 (event_part input)) (quoted "P\t1\t0\n")

-- a length that every output has room in (`output_fits`). The line `P` has at most 10 bytes (one digit and five), `Q` 11 (three numbers of two
-- digits), an event's line 15 (five digits for the ordinal, two for each other number). A counted line has two bytes or is the
-- last, and the `E` line has two: so there are at most 32,767
abbrev pub enough : ℕ
enough = 10 + 11 + 15 * 32767
