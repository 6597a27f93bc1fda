-- The lowest rank that a stage demands is at most a limit exactly where some resource is demanded whose rank is.
use Prim.Native.Nat.{ℕ, zero, suc, ◌≤◌, ◌<◌, min}
use native.Mathlib.Omega.{arith}
use mathlib.Core.Bool.{Bool, true, false, cond, ◌&&◌, ◌||◌}
use mathlib.Core.List.{List}
use mathlib.Core.Logic.{⊎_elim}
use mathlib.Core.Path.{◌≡◌, refl}
use lib.Dec.{leb}
use borrow.Author.Tests.{le-leb, lt-leb}
use Rattle.model.proofs.Decide.{decided, decides_le}
use Rattle.plan_upstream_stage.specs.Due.{no_rank, lowest_rank, ranked_in}

module _ (limit : ℕ) where
  least_up_to : (a b : ℕ) → leb (min a b) limit ≡ (leb a limit || leb b limit)
  least_up_to a b =
      ⊎_elim (λ (h : a ≤ limit). rw (le-leb a limit h) (le-leb (min a b) limit (omega arith)))
      (λ (h : ¬ (a ≤ limit)).
      rw (lt-leb a limit (omega arith)) (
      ⊎_elim (λ (k : b ≤ limit). rw (le-leb b limit k) (le-leb (min a b) limit (omega arith)))
      (λ (k : ¬ (b ≤ limit)). rw (lt-leb b limit (omega arith)) (lt-leb (min a b) limit (omega arith)))
      (decided (decides_le b limit))))
      (decided (decides_le a limit))

  module _ (low : limit < no_rank) where
    if_up_to : (b : Bool) (rank : ℕ) → leb (cond b rank no_rank) limit ≡ (b && leb rank limit)
    if_up_to true rank = refl
    if_up_to false rank = lt-leb no_rank limit low

    pub lowest_ranked : (n : ℕ) (demand rank : List ℕ) → leb (lowest_rank n demand rank) limit ≡ ranked_in n demand rank limit
    lowest_ranked zero demand rank = lt-leb no_rank limit low
    lowest_ranked (suc n) demand rank = rw (least_up_to, if_up_to, lowest_ranked n demand rank) refl
