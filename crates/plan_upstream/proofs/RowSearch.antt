-- The laws behind the two searches of rows, where every row before i passed.
use Prim.Native.Nat.{ℕ, zero, suc, ◌+◌, ◌<◌}
use native.Mathlib.Omega.{arith}
use native.Mathlib.Numerals.{add-one}
use mathlib.Core.Bool.{Bool, true, false}
use mathlib.Core.Path.{◌≡◌, refl}
use lib.Dec.{eqb}
use borrow.Author.Tests.{ne_eqb}
use Rattle.std.proofs.Common.{Some, None}
use Rattle.model.specs.Numbers.{lowest}
use Rattle.model.proofs.Search.{lowest_at}
use Rattle.plan_upstream.specs.CheckInternals.{place}

module _ (f : ℕ → Bool) (n i : ℕ) (passed : lowest i f ≡ 0) where
  pub fault_here : i < n → f (suc i) ≡ false → Some (i + 1) ≡ place (lowest n f)
  fault_here h wrong = rw (lowest_at f n i h passed wrong, add-one) refl

  pub fault_nowhere : i ≡ n → None ≡ place (lowest n f)
  fault_nowhere e = rw (← e, passed) refl

-- a place that is known, and none
pub place_some : (n r : ℕ) → Some r ≡ place n → (eqb n 0 ≡ false) × (n ≡ r)
place_some zero r e = absurd cc
place_some (suc n) r e = (ne_eqb (suc n) 0 (λ z. omega arith), cc)

pub place_none : (n : ℕ) → ((r : ℕ) → place n ≡ Some r → ⊥) → eqb n 0 ≡ true
place_none zero h = refl
place_none (suc n) h = absurd (h (suc n) refl)
