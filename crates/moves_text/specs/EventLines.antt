-- The event lines, with tabs and fields of 1 to 5 digits: `L` job type, `A` job, `U` job (document 01) and `X` job (document 02, S-1).
use Rattle.std.specs.Prelude.{ℕ, true, cond, ◌&&◌, List, [], ◌∷◌, map, ◌≡◌, eqb, get_or}
use Rattle.std.proofs.Math.Option.{Option, none, some}
use Rattle.events.specs.declared.Event.{Event}
use Rattle.events.specs.declared.Event.TheVariants.{Load, Advance, Unload, Pull}
use Rattle.plan_text.specs.Lines.{Line, lines_of, is_skipped, columns, letter_in, letter_byte, fields_in}
use Rattle.plan_text.specs.Records.{IsNumeral, value_on}
use Rattle.plan_text.specs.RecordTests.{fields_read}
use Rattle.plan_text.specs.declared.Fields.{Fields}
use Rattle.moves_text.specs.Quoted.{quoted}
use Rattle.moves_text.specs.declared.EventLine.{EventLine}
use Rattle.moves_text.specs.declared.EventLine.TheVariants.{Skipped, Malformed, Given}

-- a field says a number
abbrev pub FieldSays : List ℕ → ℕ → Type 0
FieldSays f n = IsNumeral f × (value_on 0 f ≡ n)

-- a line without its LF writes an event
abbrev pub LineSays : List ℕ → Event → Type 0
LineSays bytes (Load n t) = (f g : List ℕ) × (columns bytes ≡ quoted "L" ∷ f ∷ g ∷ []) × FieldSays f n × FieldSays g t
LineSays bytes (Advance n) = (f : List ℕ) × (columns bytes ≡ quoted "A" ∷ f ∷ []) × FieldSays f n
LineSays bytes (Unload n) = (f : List ℕ) × (columns bytes ≡ quoted "U" ∷ f ∷ []) × FieldSays f n
LineSays bytes (Pull n) = (f : List ℕ) × (columns bytes ≡ quoted "X" ∷ f ∷ []) × FieldSays f n

-- what a line means: an empty line or one that begins with `#` is skipped, where it has its LF; a line of another form, or
-- without LF, is malformed
abbrev pub IsSkipped : Line → Type 0
IsSkipped l = (l.ended ≡ true) × (is_skipped l.bytes ≡ true)

abbrev pub IsEvent : Line → Event → Type 0
IsEvent l e = (l.ended ≡ true) × LineSays l.bytes e

abbrev pub Means : Line → EventLine → Type 0
Means l Skipped = IsSkipped l
Means l Malformed = (¬ IsSkipped l) × ((e : Event) → ¬ IsEvent l e)
Means l (Given e) = IsEvent l e

-- the same, computed: an event by its letter and its fields; each line means what is computed of it and nothing else (`line_means`,
-- `meaning_unique`)
abbrev pub event_with : ℕ → Fields → EventLine
event_with letter fs =
    let first = get_or fs.numbers 0 0 in
    let second = get_or fs.numbers 1 0 in
    cond (eqb letter 76 && eqb fs.count 2) (Given (Load first second))
    (cond (eqb letter 65 && eqb fs.count 1) (Given (Advance first))
    (cond (eqb letter 85 && eqb fs.count 1) (Given (Unload first))
    (cond (eqb letter 88 && eqb fs.count 1) (Given (Pull first)) Malformed)))

unfoldable pub event_in : Line → EventLine
event_in l =
    let ps = columns l.bytes in
    cond l.ended (cond (is_skipped l.bytes) Skipped (event_with (letter_byte (letter_in ps)) (fields_read (fields_in ps)))) Malformed

-- the counted lines: all but the skipped ones, `none` for a malformed one
abbrev pub counted : List EventLine → List (Option Event)
counted [] = []
counted (Skipped ∷ ls) = counted ls
counted (Malformed ∷ ls) = none ∷ counted ls
counted (Given e ∷ ls) = some e ∷ counted ls

abbrev pub counted_in : List ℕ → List (Option Event)
counted_in text = counted (map event_in (lines_of text))

-- the events of the well-formed ones
abbrev pub events_in : List (Option Event) → List Event
events_in [] = []
events_in (none ∷ ls) = events_in ls
events_in (some e ∷ ls) = e ∷ events_in ls
