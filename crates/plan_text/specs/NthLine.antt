-- The n-th line of a text, for whoever reads on from line to line: where it begins, its bytes, and that it is a part of the caller's own text.
use Rattle.std.specs.Prelude.{ℕ, zero, suc, List, []}
use Rattle.std.specs.Borrow.{Bor}
use Rattle.plan_text.specs.LineReading.{span_from, line_from}
use Rattle.plan_text.specs.TextParts.{IsPart}

-- where the reading goes on after so many lines; after the last it stays at the end of the text
abbrev pub offset_after : List ℕ → ℕ → ℕ
offset_after text zero = 0
offset_after text (suc k) = (span_from text (offset_after text k)).next

-- the bytes of the n-th line, counted from 1; none where there is no such line
abbrev pub nth_line : List ℕ → ℕ → List ℕ
nth_line text zero = []
nth_line text (suc k) = (line_from text (offset_after text k)).bytes

-- this is the n-th line, at its own address: what the n-th reading gives; the empty part at the start of the text before the first
abbrev pub IsNth : Bor (List ℕ) → ℕ → Bor (List ℕ) → Type 0
IsNth text zero part = IsPart text 0 0 part
IsNth text (suc k) part = let at = offset_after text.now k in IsPart text at (span_from text.now at).end part
