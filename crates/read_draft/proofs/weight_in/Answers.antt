-- The weights are the bytes behind the demands.
use Rattle.std.proofs.Common.{ℕ, List, zero, suc, ◌<◌, ◌≤◌, ◌≡◌, sym, refl, arith, inl, inr}
use mathlib.Core.Logic.{◌⊎◌}
use Rattle.model.specs.Numbers.{at}
use Rattle.plan_bytes.specs.Over.{stage_in}
use Rattle.read_draft.proofs.StageEntries.{no_weight}
use Rattle.read_draft.proofs.weight_in.Goals as goal

none_there : (bytes : List ℕ) (row : ℕ) → (row < 1) ⊎ ((1 ≤ row) × (32 < row)) → 0 ≡ at (stage_in bytes).weight row
none_there bytes zero h = refl
none_there bytes (suc row) (inl h) = absurd (omega arith)
none_there bytes (suc row) (inr h) = sym (no_weight bytes (suc row) h.1)

pub returns-then-row-lt1 : goal.returns-then-row-lt1
returns-then-row-lt1 c = none_there c.args.stage.now c.args.row c.then-row-lt1.either
