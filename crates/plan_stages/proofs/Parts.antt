-- What a stage demands and weighs are the two parts of its bytes.
use Prim.Native.Nat.{ℕ, ◌+◌, ◌*◌}
use native.Mathlib.Omega.{arith}
use mathlib.Core.Bool.{Bool, true, false, cond, ◌&&◌}
use mathlib.Core.List.{List}
use mathlib.Core.Path.{◌≡◌, refl}
use lib.Dec.{eqb, ltb}
use lib.ListN.{length, replicate}
use Rattle.model.specs.Plan.{no_stage}
use Rattle.model.specs.declared.Stage.{Stage}
use Rattle.plan_bytes.specs.Over.{bytes_from, stage_at}

demand_of_test : (b : Bool) (s : Stage) → cond b s.demand (replicate 32 0) ≡ (cond b s no_stage).demand
demand_of_test true s = refl
demand_of_test false s = refl

weight_of_test : (b : Bool) (s : Stage) → cond b s.weight (replicate 32 0) ≡ (cond b s no_stage).weight
weight_of_test true s = refl
weight_of_test false s = refl

module _ (bytes : List ℕ) (i : ℕ) where
  pub demand_part : cond (eqb (length bytes) 8192 && ltb i 128) (bytes_from (i * 64 + 0) 32 bytes) (replicate 32 0) ≡ (stage_at bytes i).demand
  unfolding stage_at
  demand_part =
      let e : i * 64 + 0 ≡ i * 64 = omega arith in
      rw e (demand_of_test (eqb (length bytes) 8192 && ltb i 128) _)

  pub weight_part : cond (eqb (length bytes) 8192 && ltb i 128) (bytes_from (i * 64 + 32) 32 bytes) (replicate 32 0) ≡ (stage_at bytes i).weight
  unfolding stage_at
  weight_part = weight_of_test (eqb (length bytes) 8192 && ltb i 128) _
