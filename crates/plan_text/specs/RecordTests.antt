-- The same, computed: the tests of a line's fields and of a record's numbers, which decide what questions 4 and 5 ask of them.
use Rattle.std.specs.Prelude.{ℕ, ◌+◌, Bool, true, false, cond, ◌&&◌, List, [], ◌∷◌, leb, ltb, length, set}
use Rattle.model.specs.Numbers.{in_range, at, each}
use Rattle.model.specs.declared.Plan.{Plan}
use Rattle.plan_text.specs.Records.{Field, between, resource, kind, row, stage, units, layout_of, value_on, numbers_of}
use Rattle.plan_text.specs.declared.Record.{Record}
use Rattle.plan_text.specs.declared.Fields.{Fields}

-- is a field a numeral
abbrev pub is_digit : ℕ → Bool
is_digit b = leb 48 b && leb b 57

abbrev pub is_numeral : List ℕ → Bool
is_numeral bs = in_range (length bs) 5 && each is_digit bs

-- fields as a program reads them, one after the other, behind the n whose values are at hand; the count is 5 where one is no numeral or
-- there is a fifth. So it is m, at most 4, exactly where there are m fields, each a numeral (`count_told`), and then the numbers are their
-- values (`numbers_told`)
abbrev pub fields_on : ℕ → List ℕ → List (List ℕ) → Fields
fields_on n xs [] = record { count = n; numbers = xs }
fields_on n xs (f ∷ fs) =
    cond (is_numeral f && ltb n 4) (fields_on (n + 1) (set xs n (value_on 0 f)) fs) (record { count = 5; numbers = xs })

abbrev pub no_numbers : List ℕ
no_numbers = 0 ∷ 0 ∷ 0 ∷ 0 ∷ []

abbrev pub fields_read : List (List ℕ) → Fields
fields_read fs = fields_on 0 no_numbers fs

-- what ranges are computed from: the counts, the capacities and the stages per type that a plan has so far
pub record Known : Type 0 where
  pub resources : ℕ
  pub types : ℕ
  pub rows : ℕ
  pub capacity : List ℕ
  pub lengths : List ℕ

abbrev pub known_of : Plan → Known
known_of p =
    record { resources = p.resources; types = p.types; rows = p.rows; capacity = p.capacity; lengths = p.lengths }

-- the lowest and the highest number of a field, which may go by the number before it
abbrev pub lowest_in : Field → ℕ
lowest_in (between low high) = low
lowest_in resource = 1
lowest_in kind = 1
lowest_in row = 1
lowest_in stage = 1
lowest_in units = 1

abbrev pub highest_in : Known → ℕ → Field → ℕ
highest_in k before (between low high) = high
highest_in k before resource = k.resources
highest_in k before kind = k.types
highest_in k before row = k.rows
highest_in k before stage = at k.lengths before
highest_in k before units = at k.capacity before

-- is a number in the range of a field
abbrev pub fits_field : Known → ℕ → Field → ℕ → Bool
fits_field k before f x = leb (lowest_in f) x && leb x (highest_in k before f)

-- are the numbers in the ranges of the fields
abbrev pub fits_fields : Known → ℕ → List Field → List ℕ → Bool
fits_fields k before [] xs = true
fits_fields k before (f ∷ fs) [] = false
fits_fields k before (f ∷ fs) (x ∷ xs) = fits_field k before f x && fits_fields k x fs xs

unfoldable pub in_ranges : Known → Record → Bool
in_ranges k r = fits_fields k 0 (layout_of r.section) (numbers_of r)
