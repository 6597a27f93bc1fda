-- Every output has at most `enough` bytes: its numbers are small, so its lines are short, and an input has few counted lines.
use Prim.Native.Nat.{ℕ, ◌+◌, ◌*◌, ◌^◌, ◌≤◌, ◌<◌}
use native.Mathlib.Omega.{arith}
use mathlib.Core.Bool.{Bool, true, false, cond}
use mathlib.Core.List.{List, [], ◌∷◌, ◌++◌}
use mathlib.Core.Option.{Option, none, some}
use mathlib.Core.Path.{◌≡◌}
use lib.Dec.{eqb}
use lib.ListN.{length, length-append, length-drop}
use Rattle.model.specs.Limits.{max_jobs}
use Rattle.model.specs.Upstream.{check, check_numbers}
use Rattle.model.specs.declared.Plan.{Plan}
use Rattle.model.proofs.Decide.{Decides, holding, failing, decides_le}
use Rattle.events.specs.JobList.{list_of, empty_list}
use Rattle.events.specs.declared.JobList.{JobList}
use Rattle.events.specs.declared.Event.{Event}
use Rattle.plan_text.specs.Lines.{line_end, tab}
use Rattle.plan_text.specs.TextQuestions.{max_text, text_number}
use Rattle.plan_text.specs.Reading.{reading}
use Rattle.moves_text.specs.Quoted.{quoted}
use Rattle.moves_text.specs.Decimals.{decimal, line_with}
use Rattle.moves_text.specs.Division.{plan_length, plan_part, event_part}
use Rattle.moves_text.specs.EventLines.{counted_in}
use Rattle.moves_text.specs.OutputLines.{plan_line, check_line, event_line, about_check, about_plan, answer_to, list_after_line}
use Rattle.moves_text.specs.Output.{replies_to, printed_from, to_print, output, enough}
use Rattle.moves_text.proofs.Decimals.{decimal_short}
use Rattle.moves_text.proofs.CountedFew.{counted_few}
use Rattle.moves_text.proofs.Places.{active_few, answer_small, check_places_small, text_number_small, text_line_small}

-- the bytes of fields, one more for what follows each
abbrev widths : List (List ℕ) → ℕ
widths [] = 0
widths (f ∷ fs) = length f + 1 + widths fs

line_length : (f : List ℕ) (fs : List (List ℕ)) → length (line_with (f ∷ fs)) ≡ widths (f ∷ fs)
line_length f [] = omega (arith, length-append f (line_end ∷ []))
line_length f (g ∷ fs) = omega (arith, length-append f (tab ∷ line_with (g ∷ fs)), line_length g fs)

-- the table after a counted line, and what is answered to it
pub active_after : (p : Plan) (t : JobList) (l : Option Event) → t.count ≤ max_jobs → (list_after_line p t l).count ≤ max_jobs
active_after p t none few = few
active_after p t (some e) few = active_few p t e few

pub answered_small : (p : Plan) (t : JobList) (l : Option Event) → ((answer_to p t l).0 < 100) × ((answer_to p t l).1 < 100)
answered_small p t none = omega arith
answered_small p t (some e) = answer_small p t e

-- an `E` line has two bytes, and the events come after it
events_few : (input : List ℕ) → length input ≤ max_text → length (counted_in (event_part input)) ≤ 32767
events_few input room =
    omega (arith, counted_few (event_part input), length-drop (plan_length input + 2) input)

two : (n : ℕ) → n < 100 → length (decimal n) ≤ 2
two n h = decimal_short 2 n (omega arith) h

five : (n : ℕ) → n < 100000 → length (decimal n) ≤ 5
five n h = decimal_short 5 n (omega arith) h

-- of any numbers of 32 bits
pub plan_line_bounded : (number line : ℕ) → number < 10 ^ 10 → line < 10 ^ 10 → length (plan_line number line) ≤ 24
plan_line_bounded number line n l =
    omega (
      arith,
      line_length (quoted "P") (decimal number ∷ decimal line ∷ []),
      decimal_short 10 number (omega arith) n,
      decimal_short 10 line (omega arith) l,
    )

plan_line_short : (number line : ℕ) → number < 10 → line < 100000 → length (plan_line number line) ≤ 10
plan_line_short number line small few =
    omega (arith, line_length (quoted "P") (decimal number ∷ decimal line ∷ []), decimal_short 1 number (omega arith) small, five line few)

check_line_short : (number first second : ℕ) → (number < 100) × (first < 100) × (second < 100) → length (check_line number first second) ≤ 11
check_line_short number first second small =
    omega (
      arith,
      line_length (quoted "Q") (decimal number ∷ decimal first ∷ decimal second ∷ []),
      two number small.0,
      two first small.1,
      two second small.2,
    )

pub event_line_short : (ordinal number place active : ℕ) → ordinal < 100000 → (number < 100) × (place < 100) → active < 100
    → length (event_line ordinal number place active) ≤ 15
event_line_short ordinal number place active few small other =
    omega (
      arith,
      line_length (decimal ordinal) (decimal number ∷ decimal place ∷ decimal active ∷ []),
      five ordinal few,
      two number small.0,
      two place small.1,
      two active other,
    )

printed_short : (p : Plan) (t : JobList) (n : ℕ) (ls : List (Option Event)) → t.count ≤ max_jobs → n + length ls < 100000
    → length (printed_from n (replies_to p t ls)) ≤ 15 * length ls
printed_short p t n [] few room = omega arith
printed_short p t n (l ∷ ls) few room =
    let a = answer_to p t l in
    let next = list_after_line p t l in
    let left = active_after p t l few in
    omega (
      arith,
      length-append (event_line n a.0 a.1 next.count) (printed_from (n + 1) (replies_to p next ls)),
      event_line_short n a.0 a.1 next.count (omega arith) (answered_small p t l) (omega arith),
      printed_short p next (n + 1) ls left (omega arith),
    )

pub check_short : (p : Plan) → length (about_check p) ≤ 11
check_short p = let c = check_numbers (check p) in check_line_short c.0 c.1 c.2 (check_places_small p)

pub about_short : (text : List ℕ) → length (about_plan (reading text)) ≤ 10 + 11
about_short text =
    let r = reading text in
    let number = text_number r.answer in
    omega (
      arith,
      length-append (plan_line number r.line) (cond (eqb number 0) (about_check r.plan) []),
      plan_line_short number r.line (text_number_small r.answer) (text_line_small text),
      second (eqb number 0) r.plan,
    )
  where
    second : (b : Bool) (p : Plan) → length (cond b (about_check p) []) ≤ 11
    second true p = check_short p
    second false p = omega arith

pub output_fits : (input : List ℕ) → length (output input) ≤ enough
unfolding output list_of
output_fits input = fits (decides_le (length input) max_text)
  where
    fits : {b : Bool} → Decides (length input ≤ max_text) b
        → let r = reading (plan_part input) in
        length (cond b (about_plan r ++ to_print r.plan empty_list 1 (event_part input)) (quoted "P\t1\t0\n")) ≤ enough
    fits (holding room) =
        let r = reading (plan_part input) in
        let ls = counted_in (event_part input) in
        let few = events_few input room in
        omega (
          arith,
          length-append (about_plan r) (to_print r.plan empty_list 1 (event_part input)),
          about_short (plan_part input),
          printed_short r.plan empty_list 1 ls (omega arith) (omega arith),
        )
    fits (failing long) = omega arith
