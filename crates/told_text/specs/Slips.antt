-- The common slips in a line that is refused for its form, and what is said of each. Of a plan's line a slip is looked for that fails the
-- question answered: 2, 3 or 4.
use Rattle.std.specs.Prelude.{ℕ, Bool, false, cond, ◌&&◌, List, [], ◌∷◌, leb, ltb, eqb, length, count_by, Option, None, Some}
use Rattle.std.specs.List.{list_any}
use Rattle.model.specs.Numbers.{each}
use Rattle.plan_text.specs.Lines.{tab, is_plain, columns, letter_in, letter_byte}
use Rattle.plan_text.specs.Records.{no_section, layout_of, section_of}
use Rattle.plan_text.specs.declared.TextAnswer.{TextAnswer}
use Rattle.plan_text.specs.declared.TextAnswer.TheVariants.{Accepted, TooLong, BadLine, BadLetter, BadFields, OutOfRange, Repeated, Incomplete}
use Rattle.moves_text.specs.Quoted.{quoted}
use Rattle.told_text.specs.declared.Slip.{Slip}
use Rattle.told_text.specs.declared.Slip.TheVariants.{CarriageReturn, BeyondAscii, Spaces, UnknownLetter, FieldTooMany, LongLine, NoLineEnd}

-- what is said of a slip, behind the words of the number
abbrev pub slip_words : Option Slip → List ℕ
slip_words None = []
slip_words (Some CarriageReturn) = quoted " (here a CR before the LF)"
slip_words (Some BeyondAscii) = quoted " (here a byte beyond ASCII)"
slip_words (Some Spaces) = quoted " (here spaces where tabs should be)"
slip_words (Some UnknownLetter) = quoted " (here an unknown letter)"
slip_words (Some FieldTooMany) = quoted " (here a field too many)"
slip_words (Some LongLine) = quoted " (here more than 64 bytes)"
slip_words (Some NoLineEnd) = quoted " (here no LF)"

-- the last byte is a CR
abbrev pub ends_in_return : List ℕ → Bool
ends_in_return [] = false
ends_in_return (b ∷ []) = eqb b 13
ends_in_return (b ∷ c ∷ bs) = ends_in_return (c ∷ bs)

abbrev pub has_space : List ℕ → Bool
has_space bytes = list_any (λ b. eqb b 32) bytes

-- some byte is beyond ASCII
abbrev pub has_beyond : List ℕ → Bool
has_beyond bytes = list_any (λ b. leb 128 b && leb b 255) bytes

-- how many tabs there are: a field comes after each (`tabs_fields`)
abbrev pub tabs_in : List ℕ → ℕ
tabs_in bytes = count_by (λ b. eqb b tab) bytes

-- by the count of fields that the letter has
abbrev pub count_slip : ℕ → List ℕ → Option Slip
count_slip wanted bytes = cond (ltb wanted (tabs_in bytes)) (Some FieldTooMany) None

-- of a plan's line that fails question 2: with a byte that no line may hold no more is said, and without one it has no LF
abbrev pub line_slip : List ℕ → Option Slip
line_slip bytes =
    cond (ends_in_return bytes) (Some CarriageReturn)
    (cond (has_beyond bytes) (Some BeyondAscii) (cond (each is_plain bytes) (Some NoLineEnd) None))

-- of one that fails question 3
abbrev pub plan_section : List ℕ → ℕ
plan_section bytes = section_of (letter_in (columns bytes))

abbrev pub letter_slip : List ℕ → Option Slip
letter_slip bytes =
    cond (has_space (letter_in (columns bytes))) (Some Spaces) (cond (eqb (plan_section bytes) no_section) (Some UnknownLetter) None)

-- of one that fails question 4
abbrev pub fields_slip : List ℕ → Option Slip
fields_slip bytes = cond (has_space bytes) (Some Spaces) (count_slip (length (layout_of (plan_section bytes))) bytes)

unfoldable pub plan_slip : TextAnswer → List ℕ → Option Slip
plan_slip Accepted bytes = None
plan_slip TooLong bytes = None
plan_slip BadLine bytes = line_slip bytes
plan_slip BadLetter bytes = letter_slip bytes
plan_slip BadFields bytes = fields_slip bytes
plan_slip OutOfRange bytes = None
plan_slip Repeated bytes = None
plan_slip Incomplete bytes = None

-- of an event line that has its LF: L has two fields, A, U and X have one, and no other letter is known
abbrev pub event_fields : ℕ → Option ℕ
event_fields letter =
    cond (eqb letter 76) (Some 2)
    (cond (eqb letter 65) (Some 1) (cond (eqb letter 85) (Some 1) (cond (eqb letter 88) (Some 1) None)))

abbrev pub event_fields_slip : Option ℕ → List ℕ → Option Slip
event_fields_slip None bytes = Some UnknownLetter
event_fields_slip (Some wanted) bytes = count_slip wanted bytes

unfoldable pub event_slip : List ℕ → Option Slip
event_slip bytes =
    cond (ends_in_return bytes) (Some CarriageReturn)
    (cond (has_beyond bytes) (Some BeyondAscii)
    (cond (has_space bytes) (Some Spaces) (event_fields_slip (event_fields (letter_byte (letter_in (columns bytes)))) bytes)))
