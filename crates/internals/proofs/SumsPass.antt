-- One pass over the jobs: each adds what its stage demands, or weighs, to a list of 32 amounts, and a job at no stage of the
-- plan adds nothing. Stated over the amount, so units and rows are one case.
use Prim.Native.Nat.{ℕ, zero, suc, ◌+◌, ◌*◌, ◌≤◌, ◌<◌, min}
use native.Mathlib.Numerals.{add-one}
use native.Mathlib.Omega.{arith}
use mathlib.Core.List.{List, [], ◌∷◌, ◌++◌}
use mathlib.Core.Logic.{⊎_elim}
use mathlib.Core.Path.{◌≡◌, refl, sym, ap, ap₂, subst, ◌∙◌}
use lib.ListN.{length, take, get_or, replicate}
use lib.Seq.{take-suc, take_all}
use Rattle.model.specs.Limits.{max_jobs}
use Rattle.model.specs.Numbers.{InRange, at}
use Rattle.model.specs.Plan.{stage_of, demand_of, weight_of}
use Rattle.model.specs.Jobs.{no_job, over_jobs}
use Rattle.model.specs.declared.Plan.{Plan}
use Rattle.model.specs.declared.Stage.{Stage}
use Rattle.model.specs.declared.Job.{Job}
use Rattle.model.proofs.Decide.{decided, decides_le}
use Rattle.model.proofs.Lists.{replicated}
use Rattle.model.proofs.Sums.{over_jobs_append}
use Rattle.events.specs.JobList.{jobs_of}
use Rattle.events.specs.declared.JobList.{JobList}
use Rattle.internals.specs.Internals.{tabulate, Few, Grown, sums_of, no_sums}
use Rattle.internals.specs.declared.Sums.{Sums}
use Rattle.internals.proofs.FixedWidth.{tabulated}

-- 63 stages of 255 at most
pub few_yet : {i : ℕ} {amounts : List ℕ} → i < max_jobs → Few (i * 255) amounts → Few 16065 amounts
few_yet room few = record { lanes = few.lanes; low = λ k h. omega (arith, few.low k h) }

-- the amounts are the sums over the jobs, of whom there are n
pub record Tallied (f : ℕ → ℕ → ℕ → ℕ) (js : List Job) (n : ℕ) (amounts : List ℕ) : Type 0 where
  pub few : Few (n * 255) amounts
  pub sums : (i : ℕ) → InRange i 32 → at amounts i ≡ over_jobs (f i) js

no_amount : (n i : ℕ) → at (replicate n 0) i ≡ 0
no_amount n zero = refl
no_amount n (suc i) = replicated n i 0

module _ (f : ℕ → ℕ → ℕ → ℕ) where
  tallied_none : Tallied f [] 0 (replicate 32 0)
  tallied_none =
      record {
        few = record { lanes = refl; low = λ i h. omega (arith, no_amount 32 i) };
        sums = λ i h. no_amount 32 i;
      }

  tallied_all : {js : List Job} {n : ℕ} {amounts : List ℕ} → Tallied f js n amounts → amounts ≡ tabulate 32 (λ (i : ℕ). over_jobs (f i) js)
  tallied_all {js} {n} {amounts} t = tabulated (λ (i : ℕ). over_jobs (f i) js) 32 amounts t.few.lanes t.sums

  -- one job more
  module _ (js : List Job) (j : Job) (n : ℕ) (amounts : List ℕ) (t : Tallied f js n amounts) where
    one_more : (i : ℕ) → over_jobs (f i) (js ++ j ∷ []) ≡ over_jobs (f i) js + f i j.kind j.stage
    one_more i = omega (arith, over_jobs_append (f i) js (j ∷ []))

    -- at a stage with these amounts
    abbrev Own : List ℕ → Type 0
    Own more = (i : ℕ) → f i j.kind j.stage ≡ at more i

    tallied_more : (more after : List ℕ) → Own more → Grown amounts more after → Tallied f (js ++ j ∷ []) (n + 1) after
    tallied_more more after own a =
        record {
          few = record { lanes = a.lanes; low = λ i h. omega (arith, a.low i h, t.few.low i h) };
          sums = λ i h. omega (arith, a.sum i h, t.sums i h, own i, one_more i);
        }

-- what a stage demands and weighs is what stands in its two lists
module _ (p : Plan) (t k : ℕ) (s : Stage) (here : stage_of p t k ≡ s) where
  own_demand : (r : ℕ) → demand_of p r t k ≡ at s.demand r
  unfolding demand_of
  own_demand r = ap (λ (s : Stage). at s.demand r) here

  own_weight : (w : ℕ) → weight_of p w t k ≡ at s.weight w
  unfolding weight_of
  own_weight w = ap (λ (s : Stage). at s.weight w) here

-- the sums over n jobs, and the pass when i jobs of the list are behind
pub record SumsOver (p : Plan) (js : List Job) (n : ℕ) (s : Sums) : Type 0 where
  pub units : Tallied (demand_of p) js n s.units
  pub rows : Tallied (weight_of p) js n s.rows

abbrev pub Passed : Plan → JobList → ℕ → Sums → Type 0
Passed p t i s = SumsOver p (take i t.jobs) i s

module _ (p : Plan) (t : JobList) (whole : length t.jobs ≡ max_jobs) where
  pub passed_none : Passed p t 0 no_sums
  passed_none = record { units = tallied_none (demand_of p); rows = tallied_none (weight_of p) }

  -- one job more
  module _ (i : ℕ) (room : i < max_jobs) (s : Sums) (passed : Passed p t i s) where
    abbrev js : List Job
    js = take i t.jobs

    abbrev j : Job
    j = get_or t.jobs i no_job

    one_behind : (after : Sums) → SumsOver p (js ++ j ∷ []) (i + 1) after → Passed p t (i + 1) after
    one_behind after sums =
        let e : js ++ j ∷ [] ≡ take (i + 1) t.jobs = rw add-one (sym (take-suc t.jobs i no_job (omega arith))) in
        subst (λ (is : List Job). SumsOver p is (i + 1) after) e sums

    module _ (here : Stage) (at_stage : stage_of p j.kind j.stage ≡ here) (after : Sums) where
      demands : (r : ℕ) → demand_of p r j.kind j.stage ≡ at here.demand r
      demands = own_demand p j.kind j.stage here at_stage

      weighs : (w : ℕ) → weight_of p w j.kind j.stage ≡ at here.weight w
      weighs = own_weight p j.kind j.stage here at_stage

      pub passed_more : Grown s.units here.demand after.units → Grown s.rows here.weight after.rows → Passed p t (i + 1) after
      passed_more units rows =
          one_behind after
          (record {
            units = tallied_more (demand_of p) js j i s.units passed.units here.demand after.units demands units;
            rows = tallied_more (weight_of p) js j i s.rows passed.rows here.weight after.rows weighs rows;
          })

  -- all of them, however large the count
  all_jobs : (n : ℕ) → n ≡ min t.count max_jobs → take n t.jobs ≡ jobs_of t
  all_jobs n e =
      ⊎_elim (λ (h : t.count ≤ max_jobs). let same : n ≡ t.count = omega arith in rw same refl)
      (λ (h : ¬ (t.count ≤ max_jobs)). take_all n t.jobs (omega arith) ∙ sym (take_all t.count t.jobs (omega arith)))
      (decided (decides_le t.count max_jobs))

  pub passed_all : (n : ℕ) (s : Sums) → Passed p t n s → n ≡ min t.count max_jobs → s ≡ sums_of p (jobs_of t)
  unfolding sums_of
  passed_all n s passed e =
      let units = tallied_all (demand_of p) passed.units in
      let rows = tallied_all (weight_of p) passed.rows in
      rw (← all_jobs n e) (ap₂ (λ (us ws : List ℕ). record { units = us; rows = ws }) units rows)
