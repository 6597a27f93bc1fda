-- Nothing is demanded beyond the entries that are lent, so a loop over those has seen all that counts.
use Prim.Native.Nat.{ℕ, zero, suc, ◌≤◌, min}
use native.Mathlib.Nat.{le_refl}
use native.Mathlib.Omega.{arith}
use mathlib.Core.List.{List}
use mathlib.Core.Logic.{⊎_elim}
use mathlib.Core.Path.{◌≡◌, refl, ◌∙◌}
use lib.ListN.{length}
use Rattle.model.specs.Numbers.{at, sum_to}
use Rattle.model.proofs.Decide.{decided, decides_le}
use Rattle.internals.proofs.FixedWidth.{at_beyond, sum_beyond}
use Rattle.plan_upstream_stage.specs.Due.{no_rank, lowest_rank}

module _ (demand rank : List ℕ) where
  lowest_small : (n : ℕ) → lowest_rank n demand rank ≤ no_rank
  lowest_small zero = omega arith
  lowest_small (suc n) = omega (arith, lowest_small n)

  lowest_beyond : (n m : ℕ) → length demand ≤ n → n ≤ m → lowest_rank m demand rank ≡ lowest_rank n demand rank
  lowest_beyond n zero long more = let e : n ≡ 0 = omega arith in rw e refl
  lowest_beyond n (suc m) long more =
      ⊎_elim
      (λ (h : n ≤ m). rw (at_beyond demand (suc m) (omega arith)) (omega (arith, lowest_small m)) ∙ lowest_beyond n m long h)
      (λ (h : ¬ (n ≤ m)). let e : n ≡ suc m = omega arith in rw e refl)
      (decided (decides_le n m))

-- so a count of them, and as many of it as there are entries, come to the same
module _ (demand : List ℕ) where
  all_seen : (f : ℕ → ℕ) (m : ℕ) → (length demand ≤ m → f m ≡ f (length demand)) → f m ≡ f (min m (length demand))
  all_seen f m beyond =
      ⊎_elim (λ (h : length demand ≤ m). let e : min m (length demand) ≡ length demand = omega arith in rw e (beyond h))
      (λ (h : ¬ (length demand ≤ m)). let e : min m (length demand) ≡ m = omega arith in rw e refl)
      (decided (decides_le (length demand) m))

  pub units_seen : (m : ℕ) → sum_to m (at demand) ≡ sum_to (min m (length demand)) (at demand)
  units_seen m = all_seen (λ n. sum_to n (at demand)) m (sum_beyond demand (length demand) m (le_refl _))

  pub ranks_seen : (rank : List ℕ) (m : ℕ) → lowest_rank m demand rank ≡ lowest_rank (min m (length demand)) demand rank
  ranks_seen rank m = all_seen (λ n. lowest_rank n demand rank) m (lowest_beyond demand rank (length demand) m (le_refl _))
