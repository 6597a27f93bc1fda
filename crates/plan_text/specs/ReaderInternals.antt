-- What the parts of the reader compute, each under one name. No promise rests on these: the reader's contract is an equation
-- with `reading`.
use Rattle.std.specs.Prelude.{ℕ, ◌≤◌, ◌%◌, cond, List, [], ◌∷◌, ◌++◌, leb, Option, Some, None, Result, Ok, Err}
use Rattle.model.specs.Questions.{answer_of}
use Rattle.plan_text.specs.Lines.{Line, is_skipped}
use Rattle.plan_text.specs.Records.{section_c, section_r, section_t, section_s, section_b, section_a, section_k, Field, layout_of, value_on, record_in, numbers_of}
use Rattle.plan_text.specs.RecordTests.{Known, lowest_in, highest_in, is_numeral}
use Rattle.plan_text.specs.Draft.{Draft, of_section}
use Rattle.plan_text.specs.TextQuestions.{is_accepted}
use Rattle.plan_text.specs.Reading.{form_questions, record_questions}
use Rattle.plan_text.specs.declared.Record.{Record}
use Rattle.plan_text.specs.declared.Fields.{Fields}
use Rattle.plan_text.specs.declared.TextAnswer.{TextAnswer}
use Rattle.plan_text.specs.declared.TextAnswer.TheVariants.{Accepted}

-- the number of a field, where it is a numeral
abbrev pub value_read : List ℕ → Option ℕ
value_read bs = cond (is_numeral bs) (Some (value_on 0 bs)) None

-- the fields of a line as a program hands them on: a value where each is a numeral and there is no fifth, else the error
abbrev pub fields_given : Fields → Result Fields Fields
fields_given fs = cond (leb fs.count 4) (Ok fs) (Err fs)

-- the numbers are in the ranges of the fields, by what a plan so far has
abbrev pub FieldsInKnown : Known → ℕ → List Field → List ℕ → Type 0
FieldsInKnown k before [] xs = Unit {0}
FieldsInKnown k before (f ∷ fs) [] = ⊥
FieldsInKnown k before (f ∷ fs) (x ∷ xs) = ((lowest_in f ≤ x) × (x ≤ highest_in k before f)) × FieldsInKnown k x fs xs

abbrev pub InKnown : Known → Record → Type 0
InKnown k r = FieldsInKnown k 0 (layout_of r.section) (numbers_of r)

-- an answer as a program hands it on: a value where it is the acceptance, else the answer
abbrev pub unless_refused : {A : Type 0} → TextAnswer → A → Result A TextAnswer
unless_refused answer x = cond (is_accepted answer) (Ok x) (Err answer)

-- questions 2 to 4 of a line, and its record, which a skipped line does not have
abbrev pub form_answer : ℕ → Line → TextAnswer
form_answer last l = answer_of Accepted (form_questions last l)

abbrev pub record_of : List ℕ → Option Record
record_of bytes = cond (is_skipped bytes) None (Some (record_in bytes))

abbrev pub form_of : ℕ → Line → Result (Option Record) TextAnswer
form_of last l = unless_refused (form_answer last l) (record_of l.bytes)

-- questions 5 and 6 of a record after a draft
abbrev pub record_answer : Draft → Record → TextAnswer
record_answer d r = answer_of Accepted (record_questions d r)

-- the questions of a line after a draft, and the draft after the line
abbrev pub line_answer : Draft → Line → TextAnswer
line_answer d l = answer_of Accepted (form_questions d.section l ++ record_questions d (record_in l.bytes))

-- a record whose numbers are cut where they are written, to what a plan's entries can hold; in range they are as they were
abbrev pub narrowed : Record → Record
narrowed r =
    record {
      section = r.section;
      first = of_section r section_c (r.first % 256) r.first;
      second =
          of_section r section_c (r.second % 256)
          (of_section r section_r (r.second % 256)
          (of_section r section_t (r.second % 256)
          (of_section r section_b (r.second % 65536) (of_section r section_k (r.second % 256) r.second))));
      third = of_section r section_c (r.third % 256) r.third;
      fourth = of_section r section_s (r.fourth % 256) (of_section r section_a (r.fourth % 256) r.fourth);
    }
