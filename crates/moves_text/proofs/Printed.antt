-- The output as it is worded: its lines are those of the replies, and the reply to a counted line is given at the table after the
-- lines before it.
use Prim.Native.Nat.{ℕ, ◌+◌, ◌≤◌}
use native.Mathlib.Numerals.{add-one}
use native.Mathlib.Omega.{arith}
use mathlib.Core.List.{List, [], ◌∷◌, ◌++◌, map}
use mathlib.Core.Option.{Option}
use mathlib.Core.Path.{◌≡◌, refl, ap, ◌∙◌}
use lib.ListN.{length}
use lib.Seq.{get_or_at}
use borrow.Author.Tests.{le-leb, lt-leb}
use Rattle.model.specs.Numbers.{entry}
use Rattle.model.specs.declared.Plan.{Plan}
use Rattle.events.specs.JobList.{empty_list}
use Rattle.events.specs.declared.Event.{Event}
use Rattle.emptying.specs.Run.{list_after_all}
use Rattle.plan_text.specs.Lines.{Line, lines_of}
use Rattle.plan_text.specs.TextQuestions.{max_text}
use Rattle.plan_text.specs.Reading.{reading}
use Rattle.moves_text.specs.Division.{plan_part, event_part}
use Rattle.moves_text.specs.EventLines.{counted_in, event_in, events_in}
use Rattle.moves_text.specs.OutputLines.{event_line, about_plan, list_after_line}
use Rattle.moves_text.specs.Prints.{concatenated, EachMeans, table_after, line_for, LinesAnswered, Answered, Prints}
use Rattle.moves_text.specs.Output.{Reply, reply_to, replies_to, printed_from, to_print, output}
use Rattle.moves_text.proofs.Divided.{input_divided}
use Rattle.moves_text.proofs.LineMeanings.{line_means}
use Rattle.moves_text.proofs.Replies.{events_parts, list_parts, list_after_lem, replies_parts, replies_length}

-- the lines of replies, with ordinals from n on
abbrev reply_line : ℕ → Reply → List ℕ
reply_line n r = event_line n r.number r.place r.active

abbrev lines_from : ℕ → List Reply → List (List ℕ)
lines_from n [] = []
lines_from n (r ∷ rs) = reply_line n r ∷ lines_from (n + 1) rs

lines_joined : (n : ℕ) (rs : List Reply) → printed_from n rs ≡ concatenated (lines_from n rs)
lines_joined n [] = refl
lines_joined n (r ∷ rs) = ap (λ out. reply_line n r ++ out) (lines_joined (n + 1) rs)

lines_length : (n : ℕ) (rs : List Reply) → length (lines_from n rs) ≡ length rs
lines_length n [] = refl
lines_length n (r ∷ rs) = omega (arith, lines_length (n + 1) rs)

lines_parts : (n : ℕ) (xs ys : List Reply) → lines_from n (xs ++ ys) ≡ lines_from n xs ++ lines_from (n + length xs) ys
lines_parts n [] ys = ap (λ k. lines_from k ys) (omega arith)
lines_parts n (r ∷ xs) ys =
    let later : n + 1 + length xs ≡ n + length (r ∷ xs) = omega arith in
    ap (λ ls. reply_line n r ∷ ls) (lines_parts (n + 1) xs ys ∙ ap (λ k. lines_from (n + 1) xs ++ lines_from k ys) later)

-- the entry after n others
entry_at : {A : Type 0} (xs : List A) (x : A) (ys : List A) (d : A) (n : ℕ) → length xs ≡ n → entry (xs ++ x ∷ ys) (n + 1) d ≡ x
entry_at xs x ys d n e = rw add-one (get_or_at xs x ys d n e)

module _ (p : Plan) where
  -- the table after a line that comes after others
  after_line : (before : List (Option Event)) (l : Option Event)
      → table_after p (before ++ l ∷ []) ≡ list_after_line p (table_after p before) l
  after_line before l =
      ap (list_after_all p empty_list) (events_parts before (l ∷ []))
      ∙ list_parts p empty_list (events_in before) (events_in (l ∷ []))
      ∙ list_after_lem p (table_after p before) l []

  reply_printed : (before : List (Option Event)) (l : Option Event)
      → reply_line (1 + length (replies_to p empty_list before)) (reply_to p (table_after p before) l) ≡ line_for p before l
  reply_printed before l =
      let ordinal : 1 + length (replies_to p empty_list before) ≡ length before + 1 = omega (arith, replies_length p empty_list before) in
      rw (ordinal, after_line before l) refl

  line_printed : (before : List (Option Event)) (l : Option Event) (after : List (Option Event))
      → entry (lines_from 1 (replies_to p empty_list (before ++ l ∷ after))) (length before + 1) [] ≡ line_for p before l
  line_printed before l after =
      let early = replies_to p empty_list before in
      let late = replies_to p (table_after p before) (l ∷ after) in
      let there : length (lines_from 1 early) ≡ length before = lines_length 1 early ∙ replies_length p empty_list before in
      rw (replies_parts p empty_list before (l ∷ after), lines_parts 1 early late)
      (entry_at (lines_from 1 early) _ _ [] (length before) there ∙ reply_printed before l)

-- what is computed of each line is what it means
each_means : (ls : List Line) → EachMeans ls (map event_in ls)
each_means [] = tt
each_means (l ∷ ls) = (line_means l, each_means ls)

-- the lines about a plan, and those of the replies to a text of event lines
pub lines_answered : (plan events : List ℕ)
    → LinesAnswered plan events (about_plan (reading plan) ++ to_print (reading plan).plan empty_list 1 events)
lines_answered plan events =
    let p = (reading plan).plan in
    let replies = replies_to p empty_list (counted_in events) in
    record {
      meanings = map event_in (lines_of events);
      meant = each_means (lines_of events);
      lines = lines_from 1 replies;
      printed = ap (λ out. about_plan (reading plan) ++ out) (lines_joined 1 replies);
      one_each = lines_length 1 replies ∙ replies_length p empty_list (counted_in events);
      each = λ s. rw s.whole (line_printed p s.before s.item s.after);
    }

pub output_prints : (input : List ℕ) → Prints input (output input)
unfolding output
output_prints input = record { answered = answered; too_long = λ h. rw (lt-leb (length input) max_text h) refl }
  where
    answered : length input ≤ max_text → Answered input (output input)
    answered h =
        record {
          plan = plan_part input;
          events = event_part input;
          divided = input_divided input;
          answered = rw (le-leb (length input) max_text h) (lines_answered (plan_part input) (event_part input));
        }
