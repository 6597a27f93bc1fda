-- Numbers and fields as they are written: no leading zeros, a tab between fields, and an LF.
use Rattle.std.specs.Prelude.{ℕ, zero, suc, ◌/◌, ◌≤◌, cond, List, [], ◌∷◌, ◌++◌, ◌≢◌, ◌⊎◌, ◌≡◌, ltb, length, get_or}
use Rattle.io.specs.Digits.{last_digits}
use Rattle.model.specs.Numbers.{Each}
use Rattle.plan_text.specs.Lines.{line_end, tab}
use Rattle.plan_text.specs.Records.{Digit, value_on}

-- the bytes are the number in decimal, without leading zeros
abbrev pub IsDecimal : ℕ → List ℕ → Type 0
IsDecimal n bs = (1 ≤ length bs) × Each Digit bs × (value_on 0 bs ≡ n) × ((length bs ≡ 1) ⊎ (get_or bs 0 0 ≢ 48))

-- the same, computed (`decimal_is`): how many digits a number has, and its digits
abbrev pub digit_count : ℕ → ℕ → ℕ
digit_count zero n = 1
digit_count (suc fuel) n = cond (ltb n 10) 1 (suc (digit_count fuel (n / 10)))

unfoldable pub decimal : ℕ → List ℕ
decimal n = last_digits 10 (digit_count n n) n

-- a line: its fields, parted by tabs, and its LF
abbrev pub line_with : List (List ℕ) → List ℕ
line_with [] = line_end ∷ []
line_with (f ∷ []) = f ++ line_end ∷ []
line_with (f ∷ g ∷ fs) = f ++ tab ∷ line_with (g ∷ fs)
