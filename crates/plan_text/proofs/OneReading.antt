-- A text has one reading: each refusal as worded fixes number, line, shown part and plan, an accepted text's records say one plan, and only one
-- question is the first that fails.
use Prim.Native.Nat.{ℕ, ◌+◌}
use mathlib.Core.List.{List, [], ◌∷◌, ◌++◌}
use mathlib.Core.Path.{◌≡◌, refl, sym, ap, ◌∙◌}
use lib.ListN.{length, get_or}
use Rattle.model.specs.Questions.{EachCondition, FirstFailure}
use Rattle.model.proofs.Decide.{OneRefusal, conditions_append, failure_one}
use Rattle.plan_text.specs.Lines.{Line, lines_of}
use Rattle.plan_text.specs.TextQuestions.{text_number, TextSays, RefusesText, records_of, start_after, line_conditions, lines_conditions, last_conditions, text_conditions, Accepts}
use Rattle.plan_text.specs.Reading.{reading}
use Rattle.plan_text.specs.declared.Record.{Record}
use Rattle.plan_text.specs.declared.TextAnswer.{TextAnswer}
use Rattle.plan_text.specs.declared.TextAnswer.TheVariants.{Accepted, TooLong, BadLine, BadLetter, BadFields, OutOfRange, Repeated, Incomplete}
use Rattle.plan_text.specs.declared.Reading.{Reading}
use Rattle.plan_text.proofs.FirstFailure.{reading_first_failure}
use Rattle.plan_text.proofs.SamePlan.{says_whole}

-- an answer by its number
abbrev numbered : ℕ → TextAnswer
numbered n = get_or (Accepted ∷ TooLong ∷ BadLine ∷ BadLetter ∷ BadFields ∷ OutOfRange ∷ Repeated ∷ Incomplete ∷ []) n Accepted

number_tells : (a : TextAnswer) → numbered (text_number a) ≡ a
number_tells Accepted = refl
number_tells TooLong = refl
number_tells BadLine = refl
number_tells BadLetter = refl
number_tells BadFields = refl
number_tells OutOfRange = refl
number_tells Repeated = refl
number_tells Incomplete = refl

module _ (text : List ℕ) where
  one_said : (n i start : ℕ) (part : List ℕ) (a b : Reading) → TextSays text n i start part a → TextSays text n i start part b → a.plan ≡ b.plan → a ≡ b
  one_said n i start part a b s t plan =
      let answer : a.answer ≡ b.answer = sym (number_tells a.answer) ∙ ap numbered (s.number ∙ sym t.number) ∙ number_tells b.answer in
      let line = s.line ∙ sym t.line in
      let from = s.from ∙ sym t.from in
      let to = s.to ∙ sym t.to in
      λ j. record { answer = answer j; line = line j; from = from j; to = to j; plan = plan j }

  one_refused : (n i start : ℕ) (part : List ℕ) (a b : Reading) → RefusesText text n i start part a → RefusesText text n i start part b → a ≡ b
  one_refused n i start part a b s t = one_said n i start part a b s.says t.says (s.plan ∙ sym t.plan)

  one_accepted : (a b : Reading) → Accepts text a → Accepts text b → a ≡ b
  one_accepted a b s t =
      one_said 0 0 0 [] a b s.says t.says
      (says_whole (records_of (lines_of text)) a.plan b.plan s.sized t.sized s.sound t.sound s.plan.so_far t.plan.so_far)

  one_line : (rs : List Record) (n from : ℕ) (l : Line) → EachCondition OneRefusal (line_conditions text rs n from l)
  one_line rs n from l =
      let one : (number : ℕ) (a b : Reading) → RefusesText text number n from l.bytes a → RefusesText text number n from l.bytes b → a ≡ b =
      λ number. one_refused number n from l.bytes in
      (one 2, (one 3, (one 4, (one 5, (one 6, (one 5, tt))))))

  one_lines : (ls before : List Line) → EachCondition OneRefusal (lines_conditions text before ls)
  one_lines [] before = tt
  one_lines (l ∷ ls) before =
      conditions_append OneRefusal (line_conditions text (records_of before) (length before + 1) (start_after before) l) (lines_conditions text (before ++ l ∷ []) ls)
      (one_line (records_of before) (length before + 1) (start_after before) l) (one_lines ls (before ++ l ∷ []))

  -- whatever answers the questions as they are worded is the reading
  pub reading_one : (a : Reading) → FirstFailure (Accepts text) (text_conditions text) a → a ≡ reading text
  reading_one a h =
      failure_one (Accepts text) one_accepted (text_conditions text) (
        one_refused 1 0 0 [],
        conditions_append OneRefusal (lines_conditions text [] (lines_of text)) (last_conditions text (lines_of text)) (one_lines (lines_of text) [])
            (one_refused 7 (length (lines_of text) + 1) 0 [], tt),
      )
      a (reading text) h (reading_first_failure text)
