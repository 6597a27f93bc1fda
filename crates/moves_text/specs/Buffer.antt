-- A buffer with text written into it.
use Rattle.std.specs.Prelude.{ℕ, cond, List, ◌++◌, leb, length, take, drop}

-- the buffer begins with the text, if that fits, and is unchanged after it; else it is unchanged
abbrev pub filled : List ℕ → List ℕ → List ℕ
filled text buffer = cond (leb (length text) (length buffer)) (text ++ drop (length text) buffer) buffer

-- the length written
abbrev pub length_filled : List ℕ → List ℕ → ℕ
length_filled text buffer = cond (leb (length text) (length buffer)) (length text) 0

-- the buffer begins with as much of the text as fits, and is unchanged after it
abbrev pub overlaid : List ℕ → List ℕ → List ℕ
overlaid text buffer = take (length buffer) text ++ drop (length text) buffer

-- the same from an offset of the buffer on
abbrev pub overlaid_at : ℕ → List ℕ → List ℕ → List ℕ
overlaid_at at text buffer = take at buffer ++ overlaid text (drop at buffer)
