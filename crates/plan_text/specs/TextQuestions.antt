-- The questions 1 to 7 of document 01 as they are worded: what is asked, and what a refusal says. The first failing line
-- decides, and in it the first failing question; 7 is asked after the last line.
use Rattle.std.specs.Prelude.{ℕ, ◌+◌, ◌-◌, ◌≤◌, Bool, true, false, cond, List, [], ◌∷◌, ◌++◌, ◌≢◌, ◌⊎◌, ◌≡◌, eqb, length, take, drop}
use Rattle.model.specs.Limits.{max_all_stages}
use Rattle.model.specs.Numbers.{InRange, Each}
use Rattle.model.specs.Questions.{Condition, asks, AllHold}
use Rattle.model.specs.Plan.{empty_plan}
use Rattle.model.specs.Soundness.{Sound}
use Rattle.plan_text.specs.Lines.{Line, lines_of, is_skipped, Plain, columns, letter_in, fields_in}
use Rattle.plan_text.specs.Records.{sections, section_c, section_t, section_of, Field, between, resource, kind, row, stage, units, layout_of, IsNumeral}
use Rattle.plan_text.specs.Records.{record_in, numbers_of, key_of, Has}
use Rattle.plan_text.specs.Meaning.{C, R, T, S, B, K, RecordsSay, Sized}
use Rattle.plan_text.specs.declared.Record.{Record}
use Rattle.plan_text.specs.declared.TextAnswer.{TextAnswer}
use Rattle.plan_text.specs.declared.TextAnswer.TheVariants.{Accepted, TooLong, BadLine, BadLetter, BadFields, OutOfRange, Repeated, Incomplete}
use Rattle.plan_text.specs.declared.Reading.{Reading}

-- a text has at most so many bytes
abbrev pub max_text : ℕ
max_text = 65536

-- the paper's number of each answer
abbrev pub text_number : TextAnswer → ℕ
text_number Accepted = 0
text_number TooLong = 1
text_number BadLine = 2
text_number BadLetter = 3
text_number BadFields = 4
text_number OutOfRange = 5
text_number Repeated = 6
text_number Incomplete = 7

abbrev pub is_accepted : TextAnswer → Bool
is_accepted a = eqb (text_number a) 0

-- the part of the text that a reading shows
abbrev pub shown_in : List ℕ → Reading → List ℕ
shown_in text a = take (a.to - a.from) (drop a.from text)

-- the reading has this number and this line, and shows this part of the text, which begins at this offset; an empty part begins at 0
pub record TextSays (text : List ℕ) (n i start : ℕ) (part : List ℕ) (a : Reading) : Type 0 where
  pub number : text_number a.answer ≡ n
  pub line : a.line ≡ i
  pub from : a.from ≡ start
  pub to : a.to ≡ start + length part
  pub shown : shown_in text a ≡ part

-- a refusal yields the empty plan
pub record RefusesText (text : List ℕ) (n i start : ℕ) (part : List ℕ) (a : Reading) : Type 0 where
  pub says : TextSays text n i start part a
  pub plan : a.plan ≡ empty_plan

-- lines that are no records are skipped
abbrev pub IsRecord : Line → Type 0
IsRecord l = is_skipped l.bytes ≡ false

abbrev pub records_of : List Line → List Record
records_of [] = []
records_of (l ∷ ls) = cond (is_skipped l.bytes) (records_of ls) (record_in l.bytes ∷ records_of ls)

-- where a line begins: behind the lines before it, each with its LF
abbrev pub start_after : List Line → ℕ
start_after [] = 0
start_after (l ∷ ls) = length l.bytes + 1 + start_after ls

-- 2: the line ends with LF and holds only tabs and bytes 32 to 126
abbrev pub WellFormed : Line → Type 0
WellFormed l = (l.ended ≡ true) × Each Plain l.bytes

-- the section of the last record, 0 where there is none
abbrev pub last_section : List Record → ℕ
last_section [] = 0
last_section (r ∷ []) = r.section
last_section (r ∷ q ∷ rs) = last_section (q ∷ rs)

-- 3: the letter is in the list, C if this is the first record, and not of an earlier section than the record before
abbrev pub Follows : ℕ → ℕ → Type 0
Follows last section = InRange section sections × (last ≤ section) × ((1 ≤ last) ⊎ (section ≡ section_c))

-- 4: the right count of fields, each 1 to 5 digits
abbrev pub WellFielded : Line → Type 0
WellFielded l =
    let ps = columns l.bytes in
    (length (fields_in ps) ≡ length (layout_of (section_of (letter_in ps)))) × Each IsNumeral (fields_in ps)

-- the numbers that a resource, a type and a row of the plan have, by its C, those of a type's stages, by its T, and the units that can
-- be demanded of a resource, by its R. A type without its T has no stage yet, and a resource without its R capacity 0
abbrev pub IsResource : List Record → ℕ → Type 0
IsResource rs i = (a b c : ℕ) × Has rs (C a b c) × InRange i a

abbrev pub IsType : List Record → ℕ → Type 0
IsType rs t = (a b c : ℕ) × Has rs (C a b c) × InRange t b

abbrev pub IsRow : List Record → ℕ → Type 0
IsRow rs w = (a b c : ℕ) × Has rs (C a b c) × InRange w c

abbrev pub IsStageOf : List Record → ℕ → ℕ → Type 0
IsStageOf rs t k = (n : ℕ) × Has rs (T t n) × InRange k n

abbrev pub IsUnitsOf : List Record → ℕ → ℕ → Type 0
IsUnitsOf rs r v = (n : ℕ) × Has rs (R r n) × InRange v n

-- 5: the numbers are in the ranges of the fields, after the records rs; the range of a field may go by the number before it
abbrev pub InField : List Record → ℕ → Field → ℕ → Type 0
InField rs before (between low high) x = (low ≤ x) × (x ≤ high)
InField rs before resource x = IsResource rs x
InField rs before kind x = IsType rs x
InField rs before row x = IsRow rs x
InField rs before stage x = IsStageOf rs before x
InField rs before units x = IsUnitsOf rs before x

abbrev pub InFields : List Record → ℕ → List Field → List ℕ → Type 0
InFields rs before [] xs = Unit {0}
InFields rs before (f ∷ fs) [] = ⊥
InFields rs before (f ∷ fs) (x ∷ xs) = InField rs before f x × InFields rs x fs xs

abbrev pub InRanges : List Record → Record → Type 0
InRanges rs r = InFields rs 0 (layout_of r.section) (numbers_of r)

-- 6: it is the first with its key
abbrev pub FirstWithKey : List Record → Record → Type 0
FirstWithKey rs r = Each (λ (q : Record). key_of q ≢ key_of r) rs

-- 5 of all types together: the stages that their records T say are at most 128
abbrev pub stages_in : List Record → ℕ
stages_in [] = 0
stages_in (r ∷ rs) = cond (eqb r.section section_t) r.second 0 + stages_in rs

abbrev pub WithinTotal : List Record → Record → Type 0
WithinTotal rs r = stages_in (r ∷ rs) ≤ max_all_stages

-- the questions of line n, which begins at this offset, after the records rs
abbrev pub line_conditions : List ℕ → List Record → ℕ → ℕ → Line → List (Condition Reading)
line_conditions text rs n from l =
    let r = record_in l.bytes in
    let refuses : ℕ → Reading → Type 0 = λ number. RefusesText text number n from l.bytes in
    asks (WellFormed l) (refuses 2)
    ∷ asks (IsRecord l → Follows (last_section rs) (section_of (letter_in (columns l.bytes)))) (refuses 3)
    ∷ asks (IsRecord l → WellFielded l) (refuses 4)
    ∷ asks (IsRecord l → InRanges rs r) (refuses 5)
    ∷ asks (IsRecord l → FirstWithKey rs r) (refuses 6)
    ∷ asks (IsRecord l → WithinTotal rs r) (refuses 5)
    ∷ []

-- of the lines after those that stand before them
abbrev pub lines_conditions : List ℕ → List Line → List Line → List (Condition Reading)
lines_conditions text before [] = []
lines_conditions text before (l ∷ ls) =
    line_conditions text (records_of before) (length before + 1) (start_after before) l ++ lines_conditions text (before ++ l ∷ []) ls

-- the lines are taken: every question of each is met
abbrev pub LinesTaken : List ℕ → List Line → Type 0
LinesTaken text ls = AllHold (lines_conditions text [] ls)

-- 7: there is a C, an R for every resource, a T for every type, some S for every stage, a B for every row, and K for all or none
pub record Complete (rs : List Record) : Type 0 where
  pub counts : (a b c : ℕ) × Has rs (C a b c)
  pub capacities : (i : ℕ) → IsResource rs i → (v : ℕ) × Has rs (R i v)
  pub lengths : (t : ℕ) → IsType rs t → (n : ℕ) × Has rs (T t n)
  pub demands : (t k : ℕ) → IsStageOf rs t k → (r v : ℕ) × Has rs (S t k r v)
  pub bounds : (w : ℕ) → IsRow rs w → (v : ℕ) × Has rs (B w v)
  pub ranks : ((i : ℕ) → IsResource rs i → (v : ℕ) × Has rs (K i v)) ⊎ ((i v : ℕ) → ¬ Has rs (K i v))

-- asked after the last of the lines
abbrev pub last_conditions : List ℕ → List Line → List (Condition Reading)
last_conditions text lines = asks (Complete (records_of lines)) (RefusesText text 7 (length lines + 1) 0 []) ∷ []

-- the questions of a text: 1, those of its lines, and 7
abbrev pub text_conditions : List ℕ → List (Condition Reading)
text_conditions text =
    asks (length text ≤ max_text) (RefusesText text 1 0 0 []) ∷ (lines_conditions text [] (lines_of text) ++ last_conditions text (lines_of text))

-- an accepted text: its plan is sound and is what its records say, with as many entries as a plan has
pub record Accepts (text : List ℕ) (a : Reading) : Type 0 where
  pub says : TextSays text 0 0 0 [] a
  pub plan : RecordsSay (records_of (lines_of text)) a.plan
  pub sound : Sound a.plan
  pub sized : Sized a.plan
