-- Records by their section: what holds of a record of each section with any numbers holds of every record of the text.
use Prim.Native.Nat.{ℕ, zero, suc}
use native.Mathlib.Omega.{arith}
use mathlib.Core.Logic.{◌≢◌}
use mathlib.Core.Path.{◌≡◌, refl}
use lib.ListN.{length, drop}
use Rattle.model.specs.Numbers.{InRange, Each}
use Rattle.plan_text.specs.Records.{sections, layout_of, numbers_of}
use Rattle.plan_text.specs.Meaning.{line}
use Rattle.plan_text.specs.declared.Record.{Record}

-- a record of section n, written out
pub of_section_lem : (n : ℕ) (r : Record) → r.section ≡ n → r ≡ line n r.first r.second r.third r.fourth
of_section_lem n r e = λ i. record { section = e i; first = r.first; second = r.second; third = r.third; fourth = r.fourth }

-- what holds at 1 to 7 holds of each section's number
pub one_of_seven : (P : ℕ → Type 0) → P 1 → P 2 → P 3 → P 4 → P 5 → P 6 → P 7 → (n : ℕ) → InRange n sections → P n
one_of_seven P a b c d e f g zero h = absurd (omega arith)
one_of_seven P a b c d e f g (suc zero) h = a
one_of_seven P a b c d e f g (suc (suc zero)) h = b
one_of_seven P a b c d e f g (suc (suc (suc zero))) h = c
one_of_seven P a b c d e f g (suc (suc (suc (suc zero)))) h = d
one_of_seven P a b c d e f g (suc (suc (suc (suc (suc zero))))) h = e
one_of_seven P a b c d e f g (suc (suc (suc (suc (suc (suc zero)))))) h = f
one_of_seven P a b c d e f g (suc (suc (suc (suc (suc (suc (suc zero))))))) h = g
one_of_seven P a b c d e f g (suc (suc (suc (suc (suc (suc (suc (suc n)))))))) h = absurd (omega arith)

-- what holds at 0 and above 7 holds of each number that is no section's
pub none_of_seven : (P : ℕ → Type 0) → P 0 → ((n : ℕ) → P (suc (suc (suc (suc (suc (suc (suc (suc n))))))))) → (n : ℕ) → n ≢ 1 → n ≢ 2 → n ≢ 3 → n ≢ 4
    → n ≢ 5 → n ≢ 6 → n ≢ 7 → P n
none_of_seven P low high zero c r t d b a k = low
none_of_seven P low high (suc zero) c r t d b a k = absurd (c refl)
none_of_seven P low high (suc (suc zero)) c r t d b a k = absurd (r refl)
none_of_seven P low high (suc (suc (suc zero))) c r t d b a k = absurd (t refl)
none_of_seven P low high (suc (suc (suc (suc zero)))) c r t d b a k = absurd (d refl)
none_of_seven P low high (suc (suc (suc (suc (suc zero))))) c r t d b a k = absurd (b refl)
none_of_seven P low high (suc (suc (suc (suc (suc (suc zero)))))) c r t d b a k = absurd (a refl)
none_of_seven P low high (suc (suc (suc (suc (suc (suc (suc zero))))))) c r t d b a k = absurd (k refl)
none_of_seven P low high (suc (suc (suc (suc (suc (suc (suc (suc n)))))))) c r t d b a k = high n

-- the numbers that a record's section does not have are 0
abbrev pub Blank : Record → Type 0
Blank r = Each (λ (x : ℕ). x ≡ 0) (drop (length (layout_of r.section)) (numbers_of r))
