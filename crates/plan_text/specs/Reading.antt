-- The same, computed: a text is read line by line, down to the first question that is not met.
use Rattle.std.specs.Prelude.{ℕ, ◌+◌, Bool, true, cond, ◌&&◌, ◌||◌, List, [], ◌∷◌, ◌++◌, map, leb, ltb, eqb, length}
use Rattle.model.specs.Limits.{max_types, max_all_stages}
use Rattle.model.specs.Numbers.{in_range, at, sum_to, all_to, each}
use Rattle.model.specs.Questions.{Question, ask, answer_of}
use Rattle.model.specs.Plan.{empty_plan}
use Rattle.model.specs.Soundness.{sound}
use Rattle.model.specs.declared.Plan.{Plan}
use Rattle.plan_text.specs.Lines.{Line, lines_of, is_skipped, is_plain, columns, fields_in}
use Rattle.plan_text.specs.Records.{sections, section_c, section_t, layout_of, record_in}
use Rattle.plan_text.specs.RecordTests.{is_numeral, known_of, in_ranges}
use Rattle.plan_text.specs.Draft.{Draft, empty_draft, draft_after, held_in}
use Rattle.plan_text.specs.TextQuestions.{max_text}
use Rattle.plan_text.specs.declared.Record.{Record}
use Rattle.plan_text.specs.declared.TextAnswer.{TextAnswer}
use Rattle.plan_text.specs.declared.TextAnswer.TheVariants.{Accepted, TooLong, BadLine, BadLetter, BadFields, OutOfRange, Repeated, Incomplete}
use Rattle.plan_text.specs.declared.Reading.{Reading}

-- what a refusal and an acceptance hand back
abbrev pub refused : TextAnswer → ℕ → ℕ → ℕ → Reading
refused a n from to = record { answer = a; line = n; from = from; to = to; plan = empty_plan }

abbrev pub accepted : Plan → Reading
accepted p = record { answer = Accepted; line = 0; from = 0; to = 0; plan = p }

-- 3, where the last record was of this section
abbrev pub follows : ℕ → ℕ → Bool
follows last section = in_range section sections && leb last section && (ltb 0 last || eqb section section_c)

-- 2, 3 and 4: the form of a line, which is skipped or has a letter and so many fields, each a numeral
abbrev pub form_questions : ℕ → Line → List (Question TextAnswer)
form_questions last l =
    let section = (record_in l.bytes).section in
    let fields = fields_in (columns l.bytes) in
    ask (l.ended && each is_plain l.bytes) BadLine
    ∷ ask (is_skipped l.bytes || follows last section) BadLetter
    ∷ ask (is_skipped l.bytes || (eqb (length fields) (length (layout_of section)) && each is_numeral fields)) BadFields
    ∷ []

-- 5 of all types together
abbrev pub within_total : List ℕ → Record → Bool
within_total lengths r = cond (eqb r.section section_t) (leb (sum_to max_types (at lengths) + r.second) max_all_stages) true

-- 5 and 6: what a record says, after the draft
abbrev pub record_questions : Draft → Record → List (Question TextAnswer)
record_questions d r =
    ask (in_ranges (known_of d.plan) r) OutOfRange
    ∷ ask (eqb (held_in d r) 0) Repeated
    ∷ ask (within_total d.plan.lengths r) OutOfRange
    ∷ []

-- a question of line n, which stands in the text from one offset to another
abbrev pub of_line : ℕ → ℕ → ℕ → Question TextAnswer → Question Reading
of_line n from to q = ask q.met (refused q.refusal n from to)

abbrev pub line_questions : ℕ → ℕ → Draft → Line → List (Question Reading)
line_questions n from d l =
    map (of_line n from (from + length l.bytes)) (form_questions d.section l ++ record_questions d (record_in l.bytes))

-- 7: the plan is sound, and every row has its bound
unfoldable pub is_complete : Draft → Bool
is_complete d = sound d.plan && all_to d.plan.rows (λ (w : ℕ). leb 1 (at d.bounded w))

-- the lines after the first n, from an offset of the text on
abbrev pub read_from : ℕ → ℕ → Draft → List Line → Reading
read_from n from d [] = cond (is_complete d) (accepted d.plan) (refused Incomplete (n + 1) 0 0)
read_from n from d (l ∷ ls) =
    answer_of (read_from (n + 1) (from + length l.bytes + 1) (draft_after d (record_in l.bytes)) ls) (line_questions (n + 1) from d l)

unfoldable pub reading : List ℕ → Reading
reading text = cond (leb (length text) max_text) (read_from 0 0 empty_draft (lines_of text)) (refused TooLong 0 0 0)
