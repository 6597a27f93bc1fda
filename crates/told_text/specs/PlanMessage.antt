-- What a person is told of a plan, in one line. Of a refused text: the line's number, what the answer's number means, a slip that
-- it shows, and the line. Of an accepted one that does not meet the upstream rule: that the cell may deadlock, what the number asks for, and
-- where the plan does not meet it.
use Rattle.std.specs.Prelude.{ℕ, cond, List, [], ◌∷◌, ◌++◌, map, leb, eqb, length}
use Rattle.model.specs.Upstream.{check, check_numbers}
use Rattle.model.specs.declared.Plan.{Plan}
use Rattle.plan_text.specs.Lines.{is_plain}
use Rattle.plan_text.specs.TextQuestions.{max_text, text_number, shown_in, is_accepted}
use Rattle.plan_text.specs.Reading.{reading}
use Rattle.plan_text.specs.declared.TextAnswer.{TextAnswer}
use Rattle.plan_text.specs.declared.TextAnswer.TheVariants.{TooLong}
use Rattle.moves_text.specs.Quoted.{quoted}
use Rattle.moves_text.specs.Decimals.{decimal}
use Rattle.moves_text.specs.Division.{plan_part}
use Rattle.told_text.specs.Words.{words_of}
use Rattle.told_text.specs.Slips.{slip_words, plan_slip}

-- a byte that could upset a terminal is shown as `?`
abbrev pub visible : ℕ → ℕ
visible b = cond (is_plain b) b 63

-- the line that was refused, where there is one, and the end
abbrev pub shown_after : List ℕ → List ℕ
shown_after [] = quoted "\n"
shown_after (b ∷ bs) = quoted ": " ++ map visible (b ∷ bs) ++ quoted "\n"

abbrev pub line_head : ℕ → List ℕ
line_head line = quoted "line " ++ decimal line ++ quoted ": "

abbrev pub message_with : ℕ → TextAnswer → List ℕ → List ℕ
message_with line answer shown =
    line_head line ++ words_of (text_number answer) ++ slip_words (plan_slip answer shown) ++ shown_after shown

-- of a plan text; nothing is said of an accepted one
abbrev pub text_message : List ℕ → List ℕ
text_message text =
    let r = reading text in cond (is_accepted r.answer) [] (message_with r.line r.answer (shown_in text r))

-- where a plan does not meet the upstream rule, by the number of the check and its two places
abbrev pub check_place : ℕ → ℕ → ℕ → List ℕ
check_place number first second =
    cond (eqb number 22) (quoted ": stage " ++ decimal second ++ quoted " of type " ++ decimal first ++ quoted " does not")
    (cond (eqb number 24) (quoted ": row " ++ decimal first ++ quoted " does not")
    (cond (eqb number 25) (quoted ": that of row " ++ decimal first ++ quoted " is not") []))

abbrev pub check_message_with : ℕ → ℕ → ℕ → List ℕ
check_message_with number first second =
    quoted "the cell may deadlock although moves are admitted: " ++ words_of number ++ check_place number first second ++ quoted "\n"

-- of an accepted plan; nothing is said of one that meets the upstream rule
abbrev pub check_message : Plan → List ℕ
check_message p = let c = check_numbers (check p) in cond (eqb c.0 0) [] (check_message_with c.0 c.1 c.2)

-- of a plan text and of its plan
unfoldable pub plan_message : List ℕ → List ℕ
plan_message text = let r = reading text in cond (is_accepted r.answer) (check_message r.plan) (text_message text)

-- of the plan in an input of `cellmoves`, as the lines `P` and `Q` tell of it
unfoldable pub message : List ℕ → List ℕ
message input = cond (leb (length input) max_text) (plan_message (plan_part input)) (message_with 0 TooLong [])
