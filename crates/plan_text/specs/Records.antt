-- The records of the plan text: document 01's table of letters, fields, ranges and keys, and the record of a line.
use Rattle.std.specs.Prelude.{ℕ, suc, ◌+◌, ◌-◌, ◌*◌, ◌≤◌, cond, List, [], ◌∷◌, map, ◌⊎◌, ◌≡◌, eqb, length, take, get_or}
use Rattle.model.specs.Limits.{max_resources, max_types, max_rows, max_stages, max_units, max_bound}
use Rattle.model.specs.Numbers.{InRange, entry, at, Each}
use Rattle.plan_text.specs.Lines.{is_skipped, columns, letter_in, fields_in}
use Rattle.plan_text.specs.declared.Record.{Record}

-- the letters in the order of their sections (document 01's term): C, R, T, S, B, A, K
abbrev pub letters : List ℕ
letters = 67 ∷ 82 ∷ 84 ∷ 83 ∷ 66 ∷ 65 ∷ 75 ∷ []

abbrev pub sections : ℕ
sections = 7

-- the sections by their letters, and that of a line that is no record
abbrev pub section_c : ℕ
section_c = 1

abbrev pub section_r : ℕ
section_r = 2

abbrev pub section_t : ℕ
section_t = 3

abbrev pub section_s : ℕ
section_s = 4

abbrev pub section_b : ℕ
section_b = 5

abbrev pub section_a : ℕ
section_a = 6

abbrev pub section_k : ℕ
section_k = 7

abbrev pub no_section : ℕ
no_section = 0

-- where a number stands first in a list, counted from n; 0 where it does not
abbrev pub position : ℕ → ℕ → List ℕ → ℕ
position b n [] = 0
position b n (x ∷ xs) = cond (eqb b x) n (position b (suc n) xs)

-- the section of a letter; 0 where it is not in the list
abbrev pub section_of : List ℕ → ℕ
section_of [] = 0
section_of (b ∷ []) = position b 1 letters
section_of (b ∷ c ∷ bs) = 0

-- what a field's number is: one of a fixed range; the number of a resource, a type or a row of the plan, or of a stage of the type
-- in the field before; or units of the resource in the field before, 1 to its capacity
pub data Field : Type 0 where
  between : ℕ → ℕ → Field
  resource : Field
  kind : Field
  row : Field
  stage : Field
  units : Field

-- the fields of each section's records, line by line as the table has them
abbrev pub layouts : List (List Field)
layouts =
    -- C: resources 1..32, types 1..16, rows 0..32
    (between 1 max_resources ∷ between 1 max_types ∷ between 0 max_rows ∷ [])
    -- R: resource, capacity 1..255
    ∷ (resource ∷ between 1 max_units ∷ [])
    -- T: type, stages 1..32
    ∷ (kind ∷ between 1 max_stages ∷ [])
    -- S: type, stage, resource, units 1..capacity
    ∷ (kind ∷ stage ∷ resource ∷ units ∷ [])
    -- B: row, bound 0..65535
    ∷ (row ∷ between 0 max_bound ∷ [])
    -- A: row, type, stage, weight 1..255
    ∷ (row ∷ kind ∷ stage ∷ between 1 max_units ∷ [])
    -- K: resource, rank 1..255
    ∷ (resource ∷ between 1 max_units ∷ [])
    ∷ []

abbrev pub layout_of : ℕ → List Field
layout_of section = entry layouts section []

-- a numeral has 1 to 5 digits
abbrev pub Digit : ℕ → Type 0
Digit b = (48 ≤ b) × (b ≤ 57)

abbrev pub IsNumeral : List ℕ → Type 0
IsNumeral bs = InRange (length bs) 5 × Each Digit bs

-- the value of digits, where x is that of the digits before them; of a numeral, `valueOn 0`
abbrev pub value_on : ℕ → List ℕ → ℕ
value_on x [] = x
value_on x (b ∷ bs) = value_on (10 * x + (b - 48)) bs

-- a record of a section with these numbers; those that it does not have are 0
abbrev pub record_with : ℕ → List ℕ → Record
record_with section xs =
    record { section = section; first = get_or xs 0 0; second = get_or xs 1 0; third = get_or xs 2 0; fourth = get_or xs 3 0 }

abbrev pub no_record : Record
no_record = record_with no_section []

-- the record of a line: the section of its letter with the values of its fields, in order. That they are numerals is asked first, by
-- question 4. A skipped line has none
unfoldable pub record_in : List ℕ → Record
record_in bytes =
    cond (is_skipped bytes) no_record (record_with (section_of (letter_in (columns bytes))) (map (value_on 0) (fields_in (columns bytes))))

abbrev pub numbers_of : Record → List ℕ
numbers_of r = r.first ∷ r.second ∷ r.third ∷ r.fourth ∷ []

-- the key of a record (document 01's term): its section and the first so many of its numbers. C has the letter alone, R the
-- resource, T the type, S the first three, B the row, A the first three, K the resource
abbrev pub key_numbers : List ℕ
key_numbers = 0 ∷ 1 ∷ 1 ∷ 3 ∷ 1 ∷ 3 ∷ 1 ∷ []

abbrev pub key_of : Record → List ℕ
key_of r = r.section ∷ take (at key_numbers r.section) (numbers_of r)

-- P holds of some record of the list; the list has the record
abbrev pub Some : (Record → Type 0) → List Record → Type 0
Some P [] = ⊥
Some P (q ∷ rs) = P q ⊎ Some P rs

abbrev pub Has : List Record → Record → Type 0
Has rs r = Some (λ (q : Record). q ≡ r) rs
