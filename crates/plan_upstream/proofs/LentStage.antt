-- What a stage that is lent demands and weighs, by the offset of the byte.
use Prim.Native.Nat.{ℕ, ◌+◌, ◌-◌, ◌*◌, ◌<◌}
use native.Mathlib.Omega.{arith}
use mathlib.Core.List.{List}
use mathlib.Core.Path.{◌≡◌, ap, ◌∙◌}
use lib.ListN.{take, drop, get_or}
use Rattle.plan_bytes.proofs.Laid.{part_lent, stage_lent}
use Rattle.plan_bytes.proofs.StageBytes.{part_entry}

module _ (bytes : List ℕ) (i row : ℕ) (low : row < 32) where
  lent_entry : (from : ℕ) → get_or (take (from + 32 - from) (drop from bytes)) row 0 ≡ get_or bytes (from + row) 0
  lent_entry from = ap (λ xs. get_or xs row 0) (part_lent from 32 bytes) ∙ part_entry from 32 bytes row low

  pub demand_there : get_or (stage_lent bytes i).demand row 0 ≡ get_or bytes (i * 64 + row) 0
  demand_there = lent_entry (i * 64)

  pub weight_there : get_or (stage_lent bytes i).weight row 0 ≡ get_or bytes (i * 64 + row + 32) 0
  weight_there = lent_entry (i * 64 + 32) ∙ ap (λ (k : ℕ). get_or bytes k 0) (omega arith)
