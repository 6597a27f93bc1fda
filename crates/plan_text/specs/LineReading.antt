-- The line that begins at an offset of a text: where it stands, and its bytes.
use Rattle.std.specs.Prelude.{ℕ, ◌+◌, ◌-◌, true, false, cond, List, [], ◌∷◌, length, take, drop}
use Rattle.plan_text.specs.Lines.{Line, lines_of}
use Rattle.plan_text.specs.declared.LineSpan.{LineSpan}

-- where the first of these lines stands, if it begins at this offset: the next begins after its LF
abbrev pub first_span : ℕ → List Line → LineSpan
first_span at [] = record { end = at; next = at; ended = false; over = true }
first_span at (l ∷ ls) =
    let end = at + length l.bytes in record { end = end; next = cond l.ended (end + 1) end; ended = l.ended; over = false }

-- where the line stands that begins at an offset of a text: the first line of what the text has from there on
unfoldable pub span_from : List ℕ → ℕ → LineSpan
span_from text at = first_span at (lines_of (drop at text))

-- that line: the part up to its end, without its LF
abbrev pub line_from : List ℕ → ℕ → Line
line_from text at = let p = span_from text at in record { bytes = take (p.end - at) (drop at text); ended = p.ended }
