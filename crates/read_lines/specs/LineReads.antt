-- What a line reader says, where it then stands, and what reading to the end of its text gives.
use Rattle.std.specs.Prelude.{ℕ, ◌-◌, Bool, true, false, List, [], ◌∷◌, ◌≡◌, Option, Some, None, IfSome, length}
use Rattle.std.specs.Borrow.{Bor}
use Rattle.std.specs.Iterator.{Count, at_most}
use Rattle.plan_text.specs.Lines.{Line}
use Rattle.plan_text.specs.LineReading.{span_from, line_from}
use Rattle.plan_text.specs.TextParts.{IsPart}
use Rattle.read_lines.specs.declared.LineReader.{LineReader}
use Rattle.read_lines.specs.declared.TextLine.{TextLine}

-- a line as it was read, and whether the text was at its end
pub record Read : Type 0 where
  pub line : Line
  pub over : Bool

-- what the values of a line say; no line says that the text was at its end, with an empty line
abbrev pub read_of : Option TextLine → Read
read_of None = record { line = record { bytes = []; ended = false }; over = true }
read_of (Some l) = record { line = record { bytes = l.bytes.now; ended = l.ended }; over = false }

-- a reader at the start of a text
abbrev pub at_start : Bor (List ℕ) → LineReader
at_start text = record { text = text; at = 0 }

-- what a reader reads next, and the reader after that
abbrev pub read_next : LineReader → Read
read_next r = let text = r.text.now in record { line = line_from text r.at; over = (span_from text r.at).over }

abbrev pub read_on : LineReader → LineReader
read_on r = record { text = r.text; at = (span_from r.text.now r.at).next }

-- what `next` does: it says what is read next, in a line that is a part of the held text, and leaves the reader behind that line
pub record Reads (before : LineReader) (o : Option TextLine) (after : LineReader) : Type 0 where
  pub said : read_of o ≡ read_next before
  pub part : IfSome o (λ (l : TextLine). IsPart before.text before.at (span_from before.text.now before.at).end l.bytes)
  pub moved : after ≡ read_on before

-- no more lines are left to a reader than bytes
abbrev pub lines_at_most : LineReader → Count
lines_at_most r = at_most (length r.text.now - r.at)

-- read on until its text is at its end, the reader has read these lines
pub data ReadToEnd : LineReader → List Line → Type 0 where
  over : {r : LineReader} → (read_next r).over ≡ true → ReadToEnd r []
  line : {r : LineReader} {ls : List Line} → (read_next r).over ≡ false → ReadToEnd (read_on r) ls → ReadToEnd r ((read_next r).line ∷ ls)
