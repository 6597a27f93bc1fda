-- The entries passed are the amounts grown by their own.
use Rattle.std.proofs.Common.{ℕ, ◌+◌, ◌≡◌, ◌≤◌, length}
use Rattle.model.specs.Numbers.{InRange, at}
use Rattle.table_sums.proofs.added.Given as goal

abbrev pub Entry : ℕ → ℕ → ℕ → Type 0
Entry amount more sum = (sum ≡ amount + more) × (sum ≤ amount + 255)

abbrev pub invariant-loop-i : goal.invariant-loop-i
invariant-loop-i l =
    record {
      long : length l.sums ≡ 32;
      passed : (k : ℕ) → InRange k l.i → Entry (at l.amounts k) (at l.more k) (at l.sums k);
    }
