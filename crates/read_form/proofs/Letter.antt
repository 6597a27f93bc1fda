-- The section of a line, and that of a letter by its byte.
use Prim.Native.Nat.{ℕ}
use mathlib.Core.List.{List, [], ◌∷◌}
use mathlib.Core.Path.{◌≡◌, refl}
use Rattle.plan_text.specs.Lines.{columns, letter_in, letter_byte}
use Rattle.plan_text.specs.Records.{letters, position, section_of}

abbrev pub section_in : List ℕ → ℕ
section_in line = section_of (letter_in (columns line))

-- 0, the byte of what is no letter, is none of the letters
pub section_by_byte : (l : List ℕ) → section_of l ≡ position (letter_byte l) 1 letters
section_by_byte [] = refl
section_by_byte (b ∷ []) = refl
section_by_byte (b ∷ c ∷ bs) = refl
