-- What stands outside a list, by number: whatever stands for an entry that the list lacks.
use Prim.Native.Nat.{ℕ, zero, suc, ◌≤◌}
use native.Mathlib.Omega.{arith}
use mathlib.Core.List.{List}
use mathlib.Core.Logic.{⊎_elim}
use mathlib.Core.Path.{◌≡◌, refl}
use lib.ListN.{length, get_or-eq_default}
use Rattle.model.specs.Numbers.{InRange, entry}
use Rattle.model.proofs.Decide.{decided, decides_le}

pub outside : {A : Type 0} (xs : List A) (i : ℕ) (d : A) → (¬ InRange i (length xs)) → entry xs i d ≡ d
outside xs zero d h = refl
outside xs (suc i) d h =
    ⊎_elim (λ (l : suc i ≤ length xs). absurd (h (omega arith, l))) (λ (l : ¬ (suc i ≤ length xs)). get_or-eq_default xs d {n = i} (omega arith))
    (decided (decides_le (suc i) (length xs)))

-- what a `match` with an arm for each of 1 to n says of a number that has none of them
abbrev pub Unmatched : ℕ → ℕ → Type 0
Unmatched i zero = Unit {0}
Unmatched i (suc n) = Unmatched i n × (¬ (i ≡ suc n))

not_within : (i n : ℕ) → Unmatched i n → ¬ InRange i n
not_within i zero h r = omega arith
not_within i (suc n) h r = not_within i n h.0 (omega (arith, h.1))

pub unmatched : {A : Type 0} (xs : List A) (i : ℕ) (d : A) → Unmatched i (length xs) → entry xs i d ≡ d
unmatched xs i d h = outside xs i d (not_within i (length xs) h)
