-- What a stage demands is read at its number among the bytes, what it weighs 32 further, and beyond 32 of either there is nothing.
use Prim.Native.Nat.{ℕ, zero, suc, ◌+◌, ◌-◌, ◌≤◌, ◌<◌}
use native.Mathlib.Omega.{arith}
use mathlib.Core.List.{List}
use mathlib.Core.Path.{◌≡◌, refl, ap, ◌∙◌}
use lib.ListN.{get_or}
use Rattle.model.specs.Limits.{max_resources, max_rows}
use Rattle.model.specs.Numbers.{at}
use Rattle.plan_bytes.specs.Over.{stage_in}
use Rattle.plan_bytes.proofs.StageBytes.{part_at, part_beyond}

module _ (bytes : List ℕ) where
  at_number : (i from k : ℕ) → 1 ≤ i → k ≡ from + i → get_or bytes (from + (i - 1)) 0 ≡ at bytes k
  at_number i from zero low e = absurd (omega arith)
  at_number i from (suc k) low e = ap (λ n. get_or bytes n 0) (omega arith)

  pub demand_here : (i : ℕ) → i ≤ max_resources → at (stage_in bytes).demand i ≡ at bytes i
  demand_here zero h = refl
  demand_here (suc i) h = part_at 0 max_resources bytes (suc i) (omega arith, h) ∙ at_number (suc i) 0 (suc i) (omega arith) (omega arith)

  module _ (i : ℕ) where
    pub no_demand : max_resources < i → at (stage_in bytes).demand i ≡ 0
    no_demand = part_beyond 0 max_resources bytes i

    pub weight_here : 1 ≤ i → i ≤ max_rows → at (stage_in bytes).weight i ≡ at bytes (i + max_resources)
    weight_here low high = part_at max_resources max_rows bytes i (low, high) ∙ at_number i max_resources (i + max_resources) low (omega arith)

    pub no_weight : max_rows < i → at (stage_in bytes).weight i ≡ 0
    no_weight = part_beyond max_resources max_rows bytes i
