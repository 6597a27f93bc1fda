-- The sum over the jobs after an event, whatever it is answered: what the job named had is given back, and what it then has is taken. Where no job has the
-- number it is the job of type 0 that is named, which has nothing.
use Prim.Native.Nat.{ℕ, ◌+◌}
use native.Mathlib.Omega.{arith}
use mathlib.Core.Bool.{Bool, true, false, cond}
use mathlib.Core.List.{List, [], ◌∷◌}
use mathlib.Core.Path.{◌≡◌}
use Rattle.model.specs.Jobs.{has_number, job_of, loaded_job, loaded, advanced_job, advanced, removed}
use Rattle.model.specs.declared.Plan.{Plan}
use Rattle.model.specs.declared.Job.{Job}
use Rattle.model.proofs.Sums.{over_jobs_append}
use Rattle.internals.specs.Internals.{Exchanged}

module _ (f : ℕ → ℕ → ℕ) where
  -- what a job has, and what it has at its next stage
  abbrev own : Job → ℕ
  own j = f j.kind j.stage

  abbrev next : Job → ℕ
  next j = f j.kind (j.stage + 1)

  pub loaded_sum : (n t : ℕ) (js : List Job) → Exchanged f js (loaded n t js) 0 (f t 1)
  loaded_sum n t js = (omega (arith, over_jobs_append f js (loaded_job n t ∷ [])), omega arith)

  module _ (nothing : (k : ℕ) → f 0 k ≡ 0) (n : ℕ) where
    pub advanced_sum : (p : Plan) (js : List Job) → Exchanged f js (advanced p n js) (own (job_of n js)) (next (job_of n js))
    advanced_sum p [] = (omega (arith, nothing 0, nothing 1), omega (arith, nothing 0))
    advanced_sum p (j ∷ js) = go (advanced_sum p js) (has_number n j)
      where
        go : Exchanged f js (advanced p n js) (own (job_of n js)) (next (job_of n js)) → (b : Bool)
            → Exchanged f (j ∷ js) (cond b (advanced_job p j ∷ js) (j ∷ advanced p n js)) (own (cond b j (job_of n js))) (next (cond b j (job_of n js)))
        go later true = (omega arith, omega arith)
        go later false = (omega arith, omega arith)

    pub removed_sum : (js : List Job) → Exchanged f js (removed n js) (own (job_of n js)) 0
    removed_sum [] = (omega (arith, nothing 0), omega (arith, nothing 0))
    removed_sum (j ∷ js) = go (removed_sum js) (has_number n j)
      where
        go : Exchanged f js (removed n js) (own (job_of n js)) 0 → (b : Bool)
            → Exchanged f (j ∷ js) (cond b js (j ∷ removed n js)) (own (cond b j (job_of n js))) 0
        go later true = (omega arith, omega arith)
        go later false = (omega arith, omega arith)
