-- The lines of a text, and the parts of a line between its tabs.
use Rattle.std.specs.Prelude.{ℕ, ◌≤◌, Bool, true, false, cond, ◌&&◌, ◌||◌, List, [], ◌∷◌, ◌⊎◌, ◌≡◌, leb, eqb}

-- the bytes that part the text: LF, tab and `#`
abbrev pub line_end : ℕ
line_end = 10

abbrev pub tab : ℕ
tab = 9

abbrev pub hash : ℕ
hash = 35

-- the first part begins with one byte more
abbrev pub wider : ℕ → List (List ℕ) → List (List ℕ)
wider b [] = (b ∷ []) ∷ []
wider b (p ∷ ps) = (b ∷ p) ∷ ps

-- the parts between the bytes that are s, one more than there are such bytes; put together with s between them they are the
-- list again, and none has an s (`split_joined`, `split_clean`)
abbrev pub split_by : ℕ → List ℕ → List (List ℕ)
split_by s [] = [] ∷ []
split_by s (b ∷ bs) = cond (eqb b s) ([] ∷ split_by s bs) (wider b (split_by s bs))

-- a line: its bytes without its LF, and whether it has one
pub record Line : Type 0 where
  pub bytes : List ℕ
  pub ended : Bool

-- what stands after the last LF is a line too, unless nothing does
abbrev pub last_line : List ℕ → List Line
last_line [] = []
last_line (b ∷ bs) = record { bytes = b ∷ bs; ended = false } ∷ []

abbrev pub lines_in : List (List ℕ) → List Line
lines_in [] = []
lines_in (p ∷ []) = last_line p
lines_in (p ∷ q ∷ ps) = record { bytes = p; ended = true } ∷ lines_in (q ∷ ps)

-- the lines of a text
abbrev pub lines_of : List ℕ → List Line
lines_of text = lines_in (split_by line_end text)

-- a skipped line (document 01's term): it is empty or begins with `#`
abbrev pub is_skipped : List ℕ → Bool
is_skipped [] = true
is_skipped (b ∷ bs) = eqb b hash

-- a byte that a line may hold: a tab, or one of 32 to 126
abbrev pub Plain : ℕ → Type 0
Plain b = (b ≡ tab) ⊎ ((32 ≤ b) × (b ≤ 126))

-- its test
abbrev pub is_plain : ℕ → Bool
is_plain b = eqb b tab || (leb 32 b && leb b 126)

-- the parts of a line between its tabs
abbrev pub columns : List ℕ → List (List ℕ)
columns bytes = split_by tab bytes

-- the letter of a record (document 01's terms) is the part before the first tab, and its fields are the parts after it
abbrev pub letter_in : List (List ℕ) → List ℕ
letter_in [] = []
letter_in (p ∷ ps) = p

-- its byte; 0 where it is not one byte
abbrev pub letter_byte : List ℕ → ℕ
letter_byte [] = 0
letter_byte (b ∷ []) = b
letter_byte (b ∷ c ∷ bs) = 0

abbrev pub fields_in : List (List ℕ) → List (List ℕ)
fields_in [] = []
fields_in (p ∷ ps) = ps
