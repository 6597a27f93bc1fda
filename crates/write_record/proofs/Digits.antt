-- The digits of a number that has one to three.
use Prim.Native.Nat.{ℕ, ◌+◌, ◌/◌, ◌%◌, ◌≤◌, ◌<◌}
use native.Mathlib.Omega.{arith}
use mathlib.Core.List.{[], ◌∷◌}
use mathlib.Core.Path.{◌≡◌, refl, sym, ◌∙◌}
use Rattle.moves_text.specs.Decimals.{decimal}
use Rattle.moves_text.proofs.Decimals.{fewest_digits, glyph_digit}

pub one_digit : (n : ℕ) → n < 10 → decimal n ≡ (48 + n) ∷ []
one_digit n h =
    let e : n % 10 ≡ n = omega arith in
    sym (fewest_digits n 1 (omega arith, omega arith, λ many. absurd (omega arith))) ∙ rw (e, glyph_digit n h) refl

pub two_digits : (n : ℕ) → 10 ≤ n → n < 100 → decimal n ≡ (48 + n / 10) ∷ (48 + n % 10) ∷ []
two_digits n low high =
    let e : n / 10 % 10 ≡ n / 10 = omega arith in
    sym (fewest_digits n 2 (omega arith, omega arith, λ many. low))
    ∙ rw (e, glyph_digit (n / 10) (omega arith), glyph_digit (n % 10) (omega arith)) refl

pub three_digits : (n : ℕ) → 100 ≤ n → n < 1000 → decimal n ≡ (48 + n / 10 / 10) ∷ (48 + n / 10 % 10) ∷ (48 + n % 10) ∷ []
three_digits n low high =
    let e : n / 10 / 10 % 10 ≡ n / 10 / 10 = omega arith in
    sym (fewest_digits n 3 (omega arith, omega arith, λ many. low))
    ∙ rw (e, glyph_digit (n / 10 / 10) (omega arith), glyph_digit (n / 10 % 10) (omega arith), glyph_digit (n % 10) (omega arith)) refl
