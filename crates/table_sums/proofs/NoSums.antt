-- Under a plan read from no bytes the jobs hold nothing.
use Prim.Native.Nat.{ℕ}
use mathlib.Core.List.{List, [], ◌∷◌}
use mathlib.Core.Path.{◌≡◌, refl, sym, ap₂, ◌∙◌}
use Rattle.model.specs.Limits.{max_resources, max_rows}
use Rattle.model.specs.Plan.{demand_of, weight_of}
use Rattle.model.specs.Jobs.{over_jobs}
use Rattle.model.specs.declared.Job.{Job}
use Rattle.model.proofs.Lists.{zeros_at}
use Rattle.internals.specs.Internals.{sums_of, no_sums}
use Rattle.internals.proofs.FixedWidth.{tabulated}
use Rattle.plan_bytes.specs.Over.{plan_read}
use Rattle.plan_bytes.specs.declared.Frame.{Frame}
use Rattle.plan_bytes.proofs.Nothing.{no_demand, no_weight}

over_none : (g : ℕ → ℕ → ℕ) → ((t k : ℕ) → g t k ≡ 0) → (js : List Job) → over_jobs g js ≡ 0
over_none g h [] = refl
over_none g h (j ∷ js) = rw (h j.kind j.stage, over_none g h js) refl

pub no_sums_lem : (f : Frame) (js : List Job) → no_sums ≡ sums_of (plan_read f []) js
unfolding sums_of
no_sums_lem f js =
    let p = plan_read f [] in
    ap₂ (λ (us ws : List ℕ). record { units = us; rows = ws })
    (tabulated (λ r. over_jobs (demand_of p r) js) max_resources _ refl (λ r h. zeros_at 32 r ∙ sym (over_none (demand_of p r) (no_demand f r) js)))
    (tabulated (λ w. over_jobs (weight_of p w) js) max_rows _ refl (λ w h. zeros_at 32 w ∙ sym (over_none (weight_of p w) (no_weight f w) js)))
