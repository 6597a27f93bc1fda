-- A number's digits without leading zeros: the count that is computed is the fewest, no other count is, and the last digit is what
-- dividing by ten leaves.
use Prim.Native.Nat.{ℕ, zero, suc, ◌+◌, ◌-◌, ◌*◌, ◌/◌, ◌%◌, ◌^◌, ◌≤◌, ◌<◌}
use native.Mathlib.Nat.{le_antisymm, pow-le-pow_right}
use native.Mathlib.Numerals.{sub-one}
use native.Mathlib.Omega.{arith}
use mathlib.Core.Bool.{Bool, cond}
use mathlib.Core.List.{List, [], ◌∷◌, ◌++◌}
use mathlib.Core.Logic.{◌≢◌, ◌⊎◌, inl, inr, ⊎_elim}
use mathlib.Core.Path.{◌≡◌, refl, ap, ◌∙◌}
use lib.ListN.{length, get_or, length-append, get_or-append}
use borrow.Author.Tests.{lt-ltb}
use Rattle.io.specs.Digits.{hex_digit_ascii, last_digits, IsDigitCount}
use Rattle.model.specs.Numbers.{Each}
use Rattle.model.proofs.Decide.{Decides, holding, failing, decided, decides_le, decides_lt}
use Rattle.model.proofs.Lists.{append_each}
use Rattle.plan_text.specs.Records.{Digit, value_on}
use Rattle.moves_text.specs.Decimals.{IsDecimal, digit_count, decimal}

-- one digit more than the fewest of a tenth
fewest_next : (n k : ℕ) → 10 ≤ n → IsDigitCount 10 1 (n / 10) k → IsDigitCount 10 1 n (suc k)
fewest_next n zero h f = absurd (omega (arith, f.0))
fewest_next n (suc zero) h f = (omega arith, omega (arith, f.1), λ _. h)
fewest_next n (suc (suc k)) h f =
    let tenth : 10 ^ suc k ≤ n / 10 = rw sub-one at (f.2 (omega arith)) in
    let whole : 10 ^ suc (suc k) ≤ n = omega arith in (omega arith, omega (arith, f.1), λ _. rw sub-one whole)

digits_within : (fuel n : ℕ) → n ≤ fuel → IsDigitCount 10 1 n (digit_count fuel n)
digits_within zero n h = (omega arith, omega arith, λ many. absurd (omega arith))
digits_within (suc fuel) n h = step (λ large. digits_within fuel (n / 10) (omega arith)) (decides_lt n 10)
  where
    step : (10 ≤ n → IsDigitCount 10 1 (n / 10) (digit_count fuel (n / 10)))
        → {b : Bool} → Decides (n < 10) b → IsDigitCount 10 1 n (cond b 1 (suc (digit_count fuel (n / 10))))
    step tenth (holding small) = (omega arith, omega arith, λ many. absurd (omega arith))
    step tenth (failing large) = let l : 10 ≤ n = omega arith in fewest_next n (digit_count fuel (n / 10)) l (tenth l)

pub digits_fewest : (n : ℕ) → IsDigitCount 10 1 n (digit_count n n)
digits_fewest n = digits_within n n (omega arith)

-- no count that holds the number is less than the fewest
fewest_least : (n j k : ℕ) → IsDigitCount 10 1 n j → 1 ≤ k → n < 10 ^ k → j ≤ k
fewest_least n j k f h fits =
    ⊎_elim (λ (l : j ≤ k). l)
    (λ (l : ¬ (j ≤ k)).
    let more : 10 ^ k ≤ 10 ^ (j - 1) = pow-le-pow_right (omega arith) (omega arith) in
    absurd (omega (arith, f.2 (omega arith))))
    (decided (decides_le j k))

pub fewest_digits : (n k : ℕ) → IsDigitCount 10 1 n k → last_digits 10 k n ≡ decimal n
unfolding decimal
fewest_digits n k f =
    let p = digits_fewest n in
    ap (λ (count : ℕ). last_digits 10 count n)
    (le_antisymm (fewest_least n k (digit_count n n) f p.0 p.1) (fewest_least n (digit_count n n) k p f.0 f.1))

pub digits_length : (k n : ℕ) → length (last_digits 10 k n) ≡ k
digits_length zero n = refl
digits_length (suc k) n = length-append (last_digits 10 k (n / 10)) _ ∙ omega (arith, digits_length k (n / 10))

pub decimal_short : (k n : ℕ) → 1 ≤ k → n < 10 ^ k → length (decimal n) ≤ k
unfolding decimal
decimal_short k n h fits = rw digits_length (fewest_least n (digit_count n n) k (digits_fewest n) h fits)

-- the digits are of the number: each of them, what they say together, and the first
pub glyph_digit : (d : ℕ) → d < 10 → hex_digit_ascii d ≡ 48 + d
glyph_digit d h = rw (lt-ltb d 10 h) refl

digits_each : (k n : ℕ) → Each Digit (last_digits 10 k n)
digits_each zero n = tt
digits_each (suc k) n =
    append_each Digit (last_digits 10 k (n / 10)) _ (digits_each k (n / 10)) (rw (glyph_digit (n % 10) (omega arith)) (omega arith), tt)

number_then : (x : ℕ) (bs : List ℕ) (b : ℕ) → value_on x (bs ++ b ∷ []) ≡ 10 * value_on x bs + (b - 48)
number_then x [] b = refl
number_then x (c ∷ bs) b = number_then (10 * x + (c - 48)) bs b

digits_number : (k n : ℕ) → n < 10 ^ k → value_on 0 (last_digits 10 k n) ≡ n
digits_number zero n h = omega arith
digits_number (suc k) n h =
    number_then 0 (last_digits 10 k (n / 10)) (hex_digit_ascii (n % 10))
    ∙ rw (digits_number k (n / 10) (omega arith), glyph_digit (n % 10) (omega arith)) (omega arith)

first_digit : (k n : ℕ) → 10 ^ k ≤ n → n < 10 ^ suc k → get_or (last_digits 10 (suc k) n) 0 0 ≢ 48
first_digit zero n low high = rw (glyph_digit (n % 10) (omega arith)) (omega arith)
first_digit (suc k) n low high =
    rw (get_or-append (last_digits 10 (suc k) (n / 10)) (hex_digit_ascii (n % 10) ∷ []) 0 0 (omega (arith, digits_length (suc k) (n / 10))))
    (first_digit k (n / 10) (omega arith) (omega arith))

fewest_is : (n k : ℕ) → IsDigitCount 10 1 n k → IsDecimal n (last_digits 10 k n)
fewest_is n zero f = absurd (omega (arith, f.0))
fewest_is n (suc zero) f = (omega arith, digits_each 1 n, digits_number 1 n f.1, inl refl)
fewest_is n (suc (suc k)) f = (
  omega (arith, digits_length (suc (suc k)) n),
  digits_each (suc (suc k)) n,
  digits_number (suc (suc k)) n f.1,
  inr (first_digit (suc k) n (rw sub-one at (f.2 (omega arith))) f.1),
)

pub decimal_is : (n : ℕ) → IsDecimal n (decimal n)
unfolding decimal
decimal_is n = fewest_is n (digit_count n n) (digits_fewest n)
